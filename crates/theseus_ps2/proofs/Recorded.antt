-- What an operation comes to on hardware that is a script and a log: what its play comes to, also where it lacks a byte or room.
use Prim.Native.Nat.{ℕ, ◌+◌, ◌*◌, ◌/◌}
use native.Mathlib.Omega.{arith}
use mathlib.Core.Bool.{true, false, cond}
use mathlib.Core.List.{List}
use mathlib.Core.Path.{◌≡◌, refl, sym, ◌∙◌}
use lib.Dec.{ltb}
use lib.ListN.{length, get_or, set}
use Rattle.std.proofs.lemmas.Bool.{ltb-true, ltb-false}
use Rattle.exchange.specs.Exchange.{number, Exchange, Lack, no_script, no_log, done, read, write, lacks, Played, played, play}
use Rattle.exchange.specs.Keeping.{Kept, noted, keeping}
use Rattle.exchange.specs.Position.{Reached}
use Rattle.exchange.proofs.Position.{reached_done, reached_read, reached_no_byte, reached_write, reached_no_pair}
use Rattle.ps2_kept.specs.declared.KeptBytes.{KeptBytes}
use Rattle.ps2_kept.specs.Added.{added_thrown, keeping_onto}
use Rattle.theseus_ps2.specs.Hardware.{Device, Ran, ran, run}
use Rattle.theseus_ps2.specs.Recording.{recording}
use Rattle.theseus_ps2.specs.Comparison.{TellsKept, number_lacked}
use Rattle.theseus_ps2.specs.Controller.{on_controller}
use Rattle.theseus_ps2.specs.declared.PS2Controller.{PS2Controller}
use Rattle.theseus_ps2.specs.declared.recording.Recording.{Recording}

-- what a run on a recording tells of a play whose bytes are kept
abbrev pub TellsRan : {A : Type 0} → Played (Kept KeptBytes A) → Ran Recording A → Type 0
TellsRan o r = TellsKept o r.value r.now

pub true_false : true ≡ false → ⊥
true_false h = cc

-- once it fell short, a recording stays as it is
stuck : {A : Type 0} (t : Exchange A) (s : Recording) → s.short ≡ true → (run recording t s).now ≡ s
unfolding run
stuck (done a) s q = refl
stuck (read p f) s q =
    elim s.short as (λ y. s.short ≡ y → (run recording (f (cond y 0 (get_or s.script.now s.used 0))) (cond y s (cond (ltb s.used (length s.script.now)) (record s { used = s.used + 1; thrown = noted added_thrown p s.thrown (get_or s.script.now s.used 0) }) (record s { short = true; asked = number p })))).now ≡ s) [
      | true ↦ λ e. stuck (f 0) s q
      | false ↦ λ e. absurd (true_false (sym q ∙ e))
    ] refl
stuck (write p v t) s q =
    elim s.short as (λ y. s.short ≡ y → (run recording t (cond y s (cond (ltb s.pairs (length s.log.now / 2)) (record s { log = record s.log { now = set (set s.log.now (2 * s.pairs) (number p)) (2 * s.pairs + 1) v }; pairs = s.pairs + 1 }) (record s { short = true; asked = 0 })))).now ≡ s) [
      | true ↦ λ e. stuck t s q
      | false ↦ λ e. absurd (true_false (sym q ∙ e))
    ] refl

lacking : {A : Type 0} (l : Lack) (t : Exchange A) (o : Played (Kept KeptBytes A)) (s : Recording) → played (lacks l) s.used s.pairs s.log.now ≡ o
    → TellsRan o (run recording t (record s { short = true; asked = number_lacked l }))
lacking l t o s p = rw (sym p, stuck t (record s { short = true; asked = number_lacked l }) refl) (refl, refl, refl, (refl, refl))

-- from a position of a play on
pub recorded : {A : Type 0} (rest : Exchange A) (whole : Exchange (Kept KeptBytes A)) (s : Recording) (log : List ℕ)
    → Reached whole s.script.now log (keeping_onto s.thrown rest) s.used s.pairs s.log.now → s.short ≡ false
    → TellsRan (play whole s.script.now log) (run recording rest s)
unfolding run keeping
recorded {A = A} (done b) whole s log at z = rw (sym (reached_done at)) (refl, refl, refl, (refl, refl, z))
recorded {A = A} (read p f) whole s log at z =
    elim s.short as (λ y. s.short ≡ y → TellsRan (play whole s.script.now log) (run recording (f (cond y 0 (get_or s.script.now s.used 0))) (cond y s (cond (ltb s.used (length s.script.now)) (record s { used = s.used + 1; thrown = noted added_thrown p s.thrown (get_or s.script.now s.used 0) }) (record s { short = true; asked = number p }))))) [
      | true ↦ λ e. absurd (true_false (sym e ∙ z))
      | false ↦ λ e.
          elim (ltb s.used (length s.script.now)) as (λ x. ltb s.used (length s.script.now) ≡ x → TellsRan (play whole s.script.now log) (run recording (f (get_or s.script.now s.used 0)) (cond x (record s { used = s.used + 1; thrown = noted added_thrown p s.thrown (get_or s.script.now s.used 0) }) (record s { short = true; asked = number p })))) [
            | true ↦ λ q. recorded (f (get_or s.script.now s.used 0)) whole (record s { used = s.used + 1; thrown = noted added_thrown p s.thrown (get_or s.script.now s.used 0) }) log (reached_read at (ltb-true _ _ q)) z
            | false ↦ λ q. lacking (no_script p) (f (get_or s.script.now s.used 0)) (play whole s.script.now log) s (reached_no_byte at (ltb-false _ _ q))
          ] refl
    ] refl
recorded {A = A} (write p v t) whole s log at z =
    elim s.short as (λ y. s.short ≡ y → TellsRan (play whole s.script.now log) (run recording t (cond y s (cond (ltb s.pairs (length s.log.now / 2)) (record s { log = record s.log { now = set (set s.log.now (2 * s.pairs) (number p)) (2 * s.pairs + 1) v }; pairs = s.pairs + 1 }) (record s { short = true; asked = 0 }))))) [
      | true ↦ λ e. absurd (true_false (sym e ∙ z))
      | false ↦ λ e.
          elim (ltb s.pairs (length s.log.now / 2)) as (λ x. ltb s.pairs (length s.log.now / 2) ≡ x → TellsRan (play whole s.script.now log) (run recording t (cond x (record s { log = record s.log { now = set (set s.log.now (2 * s.pairs) (number p)) (2 * s.pairs + 1) v }; pairs = s.pairs + 1 }) (record s { short = true; asked = 0 })))) [
            | true ↦ λ q. let h = ltb-true _ _ q in recorded t whole (record s { log = record s.log { now = set (set s.log.now (2 * s.pairs) (number p)) (2 * s.pairs + 1) v }; pairs = s.pairs + 1 }) log (reached_write at (omega arith)) z
            | false ↦ λ q. let h = ltb-false _ _ q in lacking no_log t (play whole s.script.now log) s (reached_no_pair at (omega arith))
          ] refl
    ] refl

-- the controller's run is that of its hardware
pub run_hardware : {H A : Type 0} (d : Device H) (t : Exchange A) (c : PS2Controller H)
    → run (on_controller d) t c ≡ ran (run d t c.hardware).value (record c { hardware = (run d t c.hardware).now })
unfolding run
run_hardware d (done a) c = refl
run_hardware d (read p f) c = run_hardware d (f (d.brings c.hardware p)) (record c { hardware = d.reading c.hardware p })
run_hardware d (write p v t) c = run_hardware d t (record c { hardware = d.writing c.hardware p v })
