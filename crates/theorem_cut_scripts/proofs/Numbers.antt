-- What is handed back with a lack of script has the number 2, in every form.
use mathlib.Core.Path.{◌≡◌, refl}
use Rattle.exchange.specs.Exchange.{Port}
use Rattle.exchange.specs.Answer.{number_ended}
use Rattle.keyboard_record.specs.declared.HandlerState.{HandlerState}
use Rattle.keyboard_record.specs.declared.KeyboardHandler.{KeyboardHandler}
use Rattle.theorem_cut_scripts.specs.Forms.{lack, lack_kept, lack_with, lack_state, lack_record}

module _ (A : Type 0) (p : Port) where
  pub lack_2 : number_ended {A = A} (lack p) ≡ 2
  lack_2 = refl

  pub kept_2 : number_ended {A = A} (lack_kept p).end ≡ 2
  kept_2 = refl

  pub with_2 : {X : Type 0} (passed : X) → number_ended {A = A} (lack_with passed p).end ≡ 2
  with_2 passed = refl

module _ (p : Port) where
  pub state_2 : (passed : HandlerState) → number_ended (lack_state passed p).end ≡ 2
  state_2 passed = refl

  pub record_2 : (passed : KeyboardHandler) → number_ended (lack_record passed p).end ≡ 2
  record_2 passed = refl
