-- A run on a recording of a script and a log is told by numbers as the operation's play is.
use Prim.Native.Nat.{ℕ, ◌+◌, ◌*◌, ◌/◌}
use mathlib.Core.Bool.{true, false, cond}
use mathlib.Core.List.{List}
use mathlib.Core.Path.{◌≡◌, refl, ap, ◌∙◌}
use lib.Dec.{ltb}
use lib.ListN.{length, get_or, set}
use Rattle.std.specs.Borrow.{MutBor}
use Rattle.exchange.specs.Exchange.{Port, number, Exchange, done, read, write, End, yields, lacks, no_script, no_log, p60, p64, Played, play}
use Rattle.exchange.specs.Answer.{Answer}
use Rattle.exchange.specs.Keeping.{Kept, noted}
use Rattle.ps2_kept.specs.declared.KeptBytes.{KeptBytes}
use Rattle.ps2_kept.specs.Kept.{nothing_kept}
use Rattle.ps2_kept.specs.Added.{added_thrown, keeping_onto}
use Rattle.theseus_ps2.specs.Hardware.{Ran, ran, run}
use Rattle.theseus_ps2.specs.Recording.{recording}
use Rattle.theseus_ps2.specs.Controller.{on_controller}
use Rattle.theseus_ps2.specs.Comparison.{Starts, TellsEndKept, TellsKept}
use Rattle.theseus_ps2.specs.declared.PS2Controller.{PS2Controller}
use Rattle.theseus_ps2.specs.declared.recording.Recording.{Recording}
use Rattle.theseus_ps2.proofs.Agreed.{tells_kept}
use Rattle.theseus_ps2.proofs.Recorded.{run_hardware}
use Rattle.theseus_calls.specs.declared.answers.NotedWords.{NotedWords}
use Rattle.theseus_calls.specs.Recorded.{told_recorded, told_noted, TellsNoted}

module _ {A : Type 0} (value : A → ℕ) (answer : Answer A) (left : Recording) where
  end_told : (e : End (Kept KeptBytes (Answer A))) → TellsEndKept e answer left.thrown left.short left.asked
      → told_recorded value answer left ≡ told_noted value e left.used left.pairs
  end_told (yields k) h = rw (h.2, h.1, h.0) refl
  end_told (lacks (no_script p60)) h = rw (h.0, h.1) refl
  end_told (lacks (no_script p64)) h = rw (h.0, h.1) refl
  end_told (lacks no_log) h = rw (h.0, h.1) refl

  play_told : (o : Played (Kept KeptBytes (Answer A))) → TellsKept o answer left → told_recorded value answer left ≡ told_noted value o.end o.used o.pairs
  play_told o h = end_told o.end h.3 ∙ rw (h.0, h.1) refl

-- ---- the log stays the one that was lent

pub reading_lent : (s : Recording) (p : Port) → (recording.reading s p).log.ghost_name ≡ s.log.ghost_name
reading_lent s p =
    elim s.short as (λ y. (cond y s (cond (ltb s.used (length s.script.now)) (record s { used = s.used + 1; thrown = noted added_thrown p s.thrown (get_or s.script.now s.used 0) }) (record s { short = true; asked = number p }))).log.ghost_name ≡ s.log.ghost_name) [
      | true ↦ refl
      | false ↦
          elim (ltb s.used (length s.script.now)) as (λ x. (cond x (record s { used = s.used + 1; thrown = noted added_thrown p s.thrown (get_or s.script.now s.used 0) }) (record s { short = true; asked = number p })).log.ghost_name ≡ s.log.ghost_name) [
            | true ↦ refl
            | false ↦ refl
          ]
    ]

writing_lent : (s : Recording) (p : Port) (v : ℕ) → (recording.writing s p v).log.ghost_name ≡ s.log.ghost_name
writing_lent s p v =
    elim s.short as (λ y. (cond y s (cond (ltb s.pairs (length s.log.now / 2)) (record s { log = record s.log { now = set (set s.log.now (2 * s.pairs) (number p)) (2 * s.pairs + 1) v }; pairs = s.pairs + 1 }) (record s { short = true; asked = 0 }))).log.ghost_name ≡ s.log.ghost_name) [
      | true ↦ refl
      | false ↦
          elim (ltb s.pairs (length s.log.now / 2)) as (λ x. (cond x (record s { log = record s.log { now = set (set s.log.now (2 * s.pairs) (number p)) (2 * s.pairs + 1) v }; pairs = s.pairs + 1 }) (record s { short = true; asked = 0 })).log.ghost_name ≡ s.log.ghost_name) [
            | true ↦ refl
            | false ↦ refl
          ]
    ]

pub run_lent : {A : Type 0} (t : Exchange A) (s : Recording) → (run recording t s).now.log.ghost_name ≡ s.log.ghost_name
unfolding run
run_lent (done a) s = refl
run_lent (read p f) s = run_lent (f (recording.brings s p)) (recording.reading s p) ∙ reading_lent s p
run_lent (write p v t) s = run_lent t (recording.writing s p v) ∙ writing_lent s p v

pub controller_lent : {A : Type 0} (t : Exchange A) (c : PS2Controller Recording) → (run (on_controller recording) t c).now.hardware.log.ghost_name ≡ c.hardware.log.ghost_name
controller_lent t c = ap (λ (r : Ran (PS2Controller Recording) _). r.now.hardware.log.ghost_name) (run_hardware recording t c) ∙ run_lent t c.hardware

pub recorded_lent : {A : Type 0} (t : Exchange A) {answer : A} {name : ℕ} {log' : MutBor (List ℕ)} (c c' : PS2Controller Recording)
    → c.hardware.log.ghost_name ≡ name → ran answer c' ≡ run (on_controller recording) t c → log' ≡ c'.hardware.log → log'.ghost_name ≡ name
recorded_lent t c c' b q e =
    ap (λ (l : MutBor (List ℕ)). l.ghost_name) e ∙ ap (λ (r : Ran (PS2Controller Recording) _). r.now.hardware.log.ghost_name) q ∙ controller_lent t c ∙ b

-- ---- an operation of the Rust's controller on a recording that begins with this script and this log

pub recorded : {A : Type 0} (value : A → ℕ) (t : Exchange (Answer A)) {script log : List ℕ} {answer : Answer A} {words : NotedWords} {log' : MutBor (List ℕ)} (c c' : PS2Controller Recording)
    → Starts script log c.hardware → ran answer c' ≡ run (on_controller recording) t c
    → words ≡ told_recorded value answer c'.hardware → log' ≡ c'.hardware.log → TellsNoted value t script log words log'.now
recorded value t {script = script} {log = log} {answer = answer} c c' b q w e =
    let h : TellsKept (play (keeping_onto nothing_kept t) script log) answer c'.hardware = rw (b.1, b.2) at (tells_kept t c answer c' q b.0) in
    record {
      answered = w ∙ play_told value answer c'.hardware (play (keeping_onto nothing_kept t) script log) h;
      logged = ap (λ (l : MutBor (List ℕ)). l.now) e ∙ h.2;
    }
