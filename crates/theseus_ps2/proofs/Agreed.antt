-- Where ours tells a play and the Rust tells it too, the two agree.
use Prim.Native.Nat.{ℕ, ◌≤◌}
use mathlib.Core.Bool.{Bool, cond}
use mathlib.Core.List.{List}
use mathlib.Core.Path.{◌≡◌, refl, sym, subst, ap, ◌∙◌}
use Rattle.std.specs.Prelude.{Result, Ok, Err}
use Rattle.exchange.specs.Exchange.{Exchange, End, yields, lacks, told_end, Played, played, play}
use Rattle.exchange.specs.Answer.{Answer}
use Rattle.exchange.specs.Left.{Left, left, record_after}
use Rattle.exchange.specs.Bounds.{Within}
use Rattle.exchange.specs.Keeping.{Kept, kept_end}
use Rattle.exchange.proofs.Keeping.{keeping_forgets}
use Rattle.exchange.proofs.Position.{reached_start}
use Rattle.exchange.proofs.Told.{bind_told}
use Rattle.ps2_answers.specs.declared.Counted.{Counted}
use Rattle.ps2_answers.specs.declared.Refusal.{Refusal}
use Rattle.ps2_answers.specs.declared.Refusal.TheVariants.{Lacking, Failed}
use Rattle.ps2_answers.specs.Refusals.{refused}
use Rattle.ps2_answers.specs.Answers.{ended, used_of, pairs_of, told, ReadsTold, WritesTold, PlaysLeftTold}
use Rattle.ps2_kept.specs.declared.KeptBytes.{KeptBytes}
use Rattle.ps2_kept.specs.Kept.{nothing_kept, keeping_thrown, kept_at}
use Rattle.ps2_kept.specs.Added.{others_limit, added_thrown, keeping_onto}
use Rattle.ps2_kept.specs.Promises.{told_kept, ReadsKeptTold, PlaysKeptTold}
use Rattle.ps2_kept.proofs.Thrown.{keeping_thrown_lem}
use Rattle.theseus_ps2.specs.Hardware.{Ran, ran, run}
use Rattle.theseus_ps2.specs.Recording.{recording}
use Rattle.theseus_ps2.specs.Controller.{on_controller}
use Rattle.theseus_ps2.specs.Comparison.{Begins, Starts, Tells, TellsEnd, TellsPlay, TellsEndKept, TellsKept, AgreeRefused, Agree, AgreeKept, AgreeLeft}
use Rattle.theseus_ps2.specs.declared.PS2Controller.{PS2Controller}
use Rattle.theseus_ps2.specs.declared.recording.Recording.{Recording}
use Rattle.theseus_ps2.proofs.Recorded.{recorded, run_hardware}

-- ---- what a run of the controller over a script and a log tells

pub tells_noted : {T : Type 0} (t : Exchange T) (s : Recording) (answer : T) (s' : Recording) → ran answer s' ≡ run recording t s → Begins s
    → TellsKept (play (keeping_onto nothing_kept t) s.script.now s.log.now) answer s'
tells_noted t s answer s' r b =
    rw (ap (λ (x : Ran Recording _). x.value) r, ap (λ (x : Ran Recording _). x.now) r)
    (recorded t (keeping_onto nothing_kept t) s s.log.now (rw (b.0, b.1, b.3) (reached_start (keeping_onto nothing_kept t) s.script.now s.log.now)) b.2)

pub tells_kept : {T : Type 0} (t : Exchange T) (c : PS2Controller Recording) (answer : T) (c' : PS2Controller Recording)
    → ran answer c' ≡ run (on_controller recording) t c → Begins c.hardware
    → TellsKept (play (keeping_onto nothing_kept t) c.hardware.script.now c.hardware.log.now) answer c'.hardware
tells_kept t c answer c' p b =
    tells_noted t c.hardware answer c'.hardware (ap (λ (r : Ran (PS2Controller Recording) _). ran r.value r.now.hardware) (p ∙ run_hardware recording t c)) b

forget_end : {A : Type 0} (e : End (Kept KeptBytes A)) (a : A) (k : KeptBytes) (short : Bool) (asked : ℕ)
    → TellsEndKept e a k short asked → TellsEnd (told_end (λ (x : Kept KeptBytes A). x.value) e) a short asked
forget_end (yields v) a k short asked h = (h.0, h.2)
forget_end (lacks l) a k short asked h = h

forget : {A : Type 0} (o : Played (Kept KeptBytes A)) (a : A) (left : Recording)
    → TellsKept o a left → TellsPlay (played (told_end (λ (x : Kept KeptBytes A). x.value) o.end) o.used o.pairs o.log) a left
forget o a left h = (h.0, h.1, h.2, forget_end o.end a left.thrown left.short left.asked h.3)

without : {A : Type 0} (t : Exchange A) (script log : List ℕ) (o : Played (Kept KeptBytes A)) → o ≡ play (keeping_onto nothing_kept t) script log
    → played (told_end (λ (x : Kept KeptBytes A). x.value) o.end) o.used o.pairs o.log ≡ play t script log
without t script log o p =
    rw (keeping_forgets added_thrown nothing_kept t) at (bind_told (keeping_onto nothing_kept t) (λ x. x.value) script log p refl)

pub tells_run : {T : Type 0} (t : Exchange T) (s : Recording) (answer : T) (s' : Recording) → ran answer s' ≡ run recording t s → Begins s → Tells t s answer s'
tells_run {T = T} t s answer s' p b =
    subst (λ (x : Played T). TellsPlay x answer s') (without t s.script.now s.log.now _ refl)
    (forget (play (keeping_onto nothing_kept t) s.script.now s.log.now) answer s' (tells_noted t s answer s' p b))

pub tells : {T : Type 0} (t : Exchange T) (c : PS2Controller Recording) (answer : T) (c' : PS2Controller Recording)
    → ran answer c' ≡ run (on_controller recording) t c → Begins c.hardware → Tells t c.hardware answer c'.hardware
tells t c answer c' p b =
    tells_run t c.hardware answer c'.hardware (ap (λ (r : Ran (PS2Controller Recording) _). ran r.value r.now.hardware) (p ∙ run_hardware recording t c)) b

-- ---- that ours tells the same

agree_err : {T : Type 0} (x : Refusal) (used pairs : ℕ) (log : List ℕ) (rusts : Answer T) (left : Recording)
    → TellsPlay (told (Err (record { value = x; used = used; pairs = pairs })) log) rusts left → AgreeRefused x used pairs log rusts left
agree_err (Lacking l) used pairs log rusts left h = (h.0, h.1, h.2, h.3.0, h.3.1)
agree_err (Failed f) used pairs log rusts left h = (h.3.0, h.0, h.1, h.2, h.3.1)

pub agree_told : {T : Type 0} (ours : Result (Counted T) (Counted Refusal)) (log : List ℕ) (rusts : Answer T) (left : Recording)
    → TellsPlay (told ours log) rusts left → Agree ours log rusts left
agree_told (Ok a) log rusts left h = (h.3.0, h.0, h.1, h.2, h.3.1)
agree_told (Err e) log rusts left h = agree_err e.value e.used e.pairs log rusts left h

pub agree : {T : Type 0} (t : Exchange (Answer T)) (s : Recording) (ours : Result (Counted T) (Counted Refusal)) (log : List ℕ) (rusts : Answer T) (left : Recording)
    → told ours log ≡ play t s.script.now s.log.now → Tells t s rusts left → Agree ours log rusts left
agree {T = T} t s ours log rusts left p q = agree_told ours log rusts left (subst (λ (x : Played (Answer T)). TellsPlay x rusts left) (sym p) q)

-- ---- ours and the Rust's on one script, and on logs that begin alike

module _ {T : Type 0} (t : Exchange (Answer T)) (ours : Result (Counted T) (Counted Refusal)) {script rusts_log : List ℕ}
    (answer : Answer T) (c c' : PS2Controller Recording) (b : Starts script rusts_log c.hardware) (q : ran answer c' ≡ run (on_controller recording) t c) where
  pub agree_run : {log log' : List ℕ} → told ours log' ≡ play t script log → log ≡ rusts_log → Agree ours log' answer c'.hardware
  agree_run {log' = log'} p same = agree t c.hardware ours log' answer c'.hardware (rw (b.1, b.2, sym same) p) (tells t c answer c' q b.0)

  -- of one of ours that has a script alone, or a log alone
  pub agree_reads : ReadsTold t script ours → Agree ours rusts_log answer c'.hardware
  agree_reads r =
      agree_run {log = rusts_log} {log' = rusts_log} (ap (λ n. played (ended ours) (used_of ours) n rusts_log) r.no_pairs ∙ r.with_any rusts_log) refl

  pub agree_writes : {log log' : List ℕ} → WritesTold t log ours log' → log ≡ rusts_log → Agree ours log' answer c'.hardware
  agree_writes {log' = log'} r same = agree_run (ap (λ n. played (ended ours) n (pairs_of ours) log') r.no_bytes ∙ r.with_any script) same

  -- of one of ours that hands back the bytes thrown away
  module _ {r w : ℕ} (h : Within r w t) (m : r ≤ others_limit) (kept : KeptBytes) where
    handed_err : (x : Refusal) (used pairs : ℕ) (log : List ℕ) (left : Recording)
        → TellsKept (played (kept_end (refused {A = T} x) kept) used pairs log) answer left → kept ≡ kept_at (refused {A = T} x) kept
        → AgreeRefused x used pairs log answer left × (kept ≡ cond left.short nothing_kept left.thrown)
    handed_err (Lacking l) used pairs log left h e = ((h.0, h.1, h.2, h.3.0, h.3.1), rw h.3.0 e)
    handed_err (Failed f) used pairs log left h e = ((h.3.0, h.0, h.1, h.2, h.3.2), rw h.3.2 (sym h.3.1))

    handed : (o : Result (Counted T) (Counted Refusal)) (log : List ℕ) (left : Recording)
        → TellsKept (told_kept o kept log) answer left → kept ≡ kept_at (ended o) kept → AgreeKept o kept log answer left
    handed (Ok a) log left h e = ((h.3.0, h.0, h.1, h.2, h.3.2), rw h.3.2 (sym h.3.1))
    handed (Err x) log left h e = handed_err x.value x.used x.pairs log left h e

    pub agree_kept : {log log' : List ℕ} → PlaysKeptTold (keeping_thrown t) script log ours log' kept → log ≡ rusts_log → AgreeKept ours kept log' answer c'.hardware
    agree_kept {log' = log'} p same =
        let e : told_kept ours kept log' ≡ play (keeping_onto nothing_kept t) c.hardware.script.now c.hardware.log.now =
        rw (b.1, b.2, sym same, sym (keeping_thrown_lem h m)) p.plays in
        handed ours log' c'.hardware (subst (λ (x : Played (Kept KeptBytes (Answer T))). TellsKept x answer c'.hardware) (sym e) (tells_kept t c answer c' q b.0)) p.ended

    pub agree_reads_kept : ReadsKeptTold (keeping_thrown t) script ours kept → AgreeKept ours kept rusts_log answer c'.hardware
    agree_reads_kept r =
        agree_kept {log = rusts_log} {log' = rusts_log}
        (record { plays = ap (λ n. played (kept_end (ended ours) kept) (used_of ours) n rusts_log) r.reads.no_pairs ∙ r.reads.with_any rusts_log; ended = r.ended }) refl

-- ---- of an operation that leaves a record

module _ {R T : Type 0} (passed now : R) (answer : Answer T) (rusts_now : R) (left_by : Recording) where
  abbrev said_left : Result (Counted T) (Counted Refusal) → End (Left R T)
  said_left r = told_end (λ a. left a now) (ended r)

  left_err : (x : Refusal) (used pairs : ℕ) (log : List ℕ)
      → TellsPlay (played (told_end (λ a. left a now) (refused {A = T} x)) used pairs log) (left answer rusts_now) left_by
      → now ≡ record_after passed (told_end (λ a. left a now) (refused {A = T} x))
      → AgreeRefused x used pairs log answer left_by × (now ≡ cond left_by.short passed rusts_now)
  left_err (Lacking l) used pairs log h e = ((h.0, h.1, h.2, h.3.0, h.3.1), rw h.3.0 e)
  left_err (Failed f) used pairs log h e =
      ((ap (λ (x : Left R T). x.answer) h.3.0, h.0, h.1, h.2, h.3.1), rw h.3.1 (sym (ap (λ (x : Left R T). x.now) h.3.0)))

  pub left_told : (o : Result (Counted T) (Counted Refusal)) (log : List ℕ)
      → TellsPlay (played (said_left o) (used_of o) (pairs_of o) log) (left answer rusts_now) left_by → now ≡ record_after passed (said_left o)
      → AgreeLeft passed o now log answer rusts_now left_by
  left_told (Ok a) log h e =
      ((ap (λ (x : Left R T). x.answer) h.3.0, h.0, h.1, h.2, h.3.1), rw h.3.1 (sym (ap (λ (x : Left R T). x.now) h.3.0)))
  left_told (Err x) log h e = left_err x.value x.used x.pairs log h e

  pub agree_left : (t : Exchange (Left R T)) (s : Recording) {script rusts_log log log' : List ℕ} (ours : Result (Counted T) (Counted Refusal))
      → Starts script rusts_log s → ran (left answer rusts_now) left_by ≡ run recording t s
      → PlaysLeftTold (λ r n. told_end (λ a. left a n) (ended r)) t passed script log ours log' now → log ≡ rusts_log → AgreeLeft passed ours now log' answer rusts_now left_by
  agree_left t s {log' = log'} ours b q p same =
      let e : played (said_left ours) (used_of ours) (pairs_of ours) log' ≡ play t s.script.now s.log.now = rw (b.1, b.2, sym same) p.0 in
      let f : now ≡ record_after passed (said_left ours) = rw (sym (ap (λ (o : Played (Left R T)). o.end) p.0)) at p.1 in
      left_told ours log' (subst (λ (x : Played (Left R T)). TellsPlay x (left answer rusts_now) left_by) (sym e) (tells_run t s (left answer rusts_now) left_by q b.0)) f
