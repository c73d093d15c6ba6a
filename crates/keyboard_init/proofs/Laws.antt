-- What keyboard initialisation refuses with, and how much it reads and writes at most.
use Prim.{tt}
use Prim.Native.Nat.{ℕ}
use mathlib.Core.List.{List, [], ◌∷◌}
use Rattle.exchange.specs.Answer.{gives}
use Rattle.exchange.specs.Attains.{Most}
use Rattle.exchange.specs.Refuses.{Refuses}
use Rattle.exchange.proofs.Then.{within_then, attains_then, within_as, attains_as, refuses_then, refuses_more, refuses_as}
use Rattle.ps2_bytes.specs.declared.data.ScancodeSet.TheVariants.{Set1}
use Rattle.ps2_answers.specs.Refusals.{success}
use Rattle.ps2_command.proofs.Refuses.{command_and}
use Rattle.ps2_keyboard.specs.Keyboard.{set_scancode_set}
use Rattle.ps2_detect.specs.Detection.{keyboard_detect}
use Rattle.ps2_keyboard.proofs.Bounds.{attains_set_scancode_set, most_set_scancode_set}
use Rattle.ps2_detect.proofs.Bounds.{attains_keyboard_detect, most_keyboard_detect}
use Rattle.ps2_keyboard.proofs.Refuses.{refuses_set_scancode_set}
use Rattle.keyboard_init.specs.KeyboardInit.{detection, keyboard_init}

abbrev pub init_refusals : List ℕ
init_refusals = 4 ∷ 5 ∷ 6 ∷ 7 ∷ 11 ∷ 18 ∷ []

-- whatever the detection refuses with is 18; 4 to 7 and 11 are of the scancode set
pub refuses_keyboard_init : Refuses init_refusals keyboard_init
unfolding keyboard_init detection
refuses_keyboard_init =
    refuses_then init_refusals (refuses_more (18 ∷ []) init_refusals tt (refuses_as 18 keyboard_detect))
    (λ _. refuses_more (command_and 11) init_refusals tt (refuses_set_scancode_set Set1))

-- a detection that takes all it can and recognises a type, then a scancode set that takes all it can
pub most_keyboard_init : Most 4070310 28 keyboard_init
unfolding keyboard_init detection
most_keyboard_init =
    record {
      within = within_then (within_as 18 most_keyboard_detect.within) (λ _. (most_set_scancode_set Set1).within);
      yielded = gives success;
      attains = attains_then (λ _. set_scancode_set Set1) (attains_as 18 attains_keyboard_detect) (attains_set_scancode_set Set1);
    }
