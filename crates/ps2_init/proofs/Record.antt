-- The record that `init` leaves, from what the code's steps answered.
use Prim.Native.Nat.{ℕ}
use mathlib.Core.Bool.{Bool, true, false, cond}
use mathlib.Core.List.{List}
use mathlib.Core.Path.{◌≡◌, refl, sym, ap, ◌∙◌}
use Rattle.std.specs.Prelude.{Result, Ok, Err}
use Rattle.exchange.specs.Exchange.{done, bind, told_end, Played, played, play}
use Rattle.exchange.specs.Answer.{refuses}
use Rattle.exchange.specs.Left.{Left, left, record_after}
use Rattle.exchange.proofs.Calls.{bind_done, bind_lacks}
use Rattle.exchange.proofs.Left.{record_after_lem}
use Rattle.ps2_answers.specs.declared.Counted.{Counted}
use Rattle.ps2_answers.specs.declared.Failure.TheVariants.{AlreadyInitialized}
use Rattle.ps2_answers.specs.declared.Refusal.{Refusal}
use Rattle.ps2_answers.specs.declared.Refusal.TheVariants.{Lacking, Failed}
use Rattle.ps2_answers.specs.Refusals.{Success, success, refused}
use Rattle.ps2_answers.specs.Answers.{counted, told, PlaysLeftTold}
use Rattle.ps2_init.specs.declared.PS2Controller.{PS2Controller}
use Rattle.ps2_init.specs.Init.{set_up, or_passed, initialize}
use Rattle.ps2_init.specs.Answers.{said_init}

-- what `init` promises: the play, and the record after it
abbrev pub Promised : PS2Controller → Result (Counted Success) (Counted Refusal) → PS2Controller → List ℕ → List ℕ → List ℕ → Type 0
Promised passed answer now l' s l = PlaysLeftTold said_init (initialize passed) passed s l answer l' now

module _ (passed : PS2Controller) (s l : List ℕ) where
  pub init_already : passed.initialized ≡ true → Promised passed (Err (counted (Failed AlreadyInitialized) 0 0)) passed l s l
  unfolding initialize play
  init_already h = record_after_lem passed (rw h) refl

  -- where it was not initialised, its steps are what there is to do
  steps : passed.initialized ≡ false → {o : Played (Left PS2Controller Success)} → o ≡ play (bind set_up (λ a. done (or_passed passed a))) s l
      → o ≡ play (initialize passed) s l
  unfolding initialize
  steps h r = r ∙ ap (λ (b : Bool). play (cond b (done (left (refuses 1) passed)) (bind set_up (λ a. done (or_passed passed a)))) s l) (sym h)

  module _ (h : passed.initialized ≡ false) {l' : List ℕ} where
    pub init_ready : (ready : Counted PS2Controller) → told (Ok ready) l' ≡ play set_up s l → Promised passed (Ok (counted success ready.used ready.pairs)) ready.value l' s l
    init_ready ready r = record_after_lem passed (steps h (bind_done set_up (λ a. done (or_passed passed a)) s l r refl refl)) refl

    refused_by : (x : Refusal) {u w : ℕ} → played (refused x) u w l' ≡ play set_up s l
        → (played (told_end (λ a. left {A = Success} a passed) (refused x)) u w l' ≡ play (initialize passed) s l) × (passed ≡ record_after passed (play (initialize passed) s l).end)
    refused_by (Lacking x) r = record_after_lem passed (steps h (bind_lacks set_up (λ a. done (or_passed passed a)) s l r refl)) refl
    refused_by (Failed f) r = record_after_lem passed (steps h (bind_done set_up (λ a. done (or_passed passed a)) s l r refl refl)) refl

    pub init_refused : (e : Counted Refusal) → told {T = PS2Controller} (Err e) l' ≡ play set_up s l → Promised passed (Err e) passed l' s l
    init_refused e r = refused_by e.value r
