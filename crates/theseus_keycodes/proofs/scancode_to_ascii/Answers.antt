-- `theseus_keycodes::scancode_to_ascii` meets its contract: the character of the byte's keycode, if it has one.
use mathlib.Core.Path.{◌≡◌, ap, ◌∙◌}
use Prim.Native.Nat.{ℕ}
use Rattle.std.specs.Prelude.{Option, None, Result, Ok, Err, MatchOption}
use Rattle.std.specs.Result.{result_ok}
use Rattle.keyboard_modifiers.specs.declared.KeyboardModifiers.{KeyboardModifiers as OurModifiers}
use Rattle.keycodes_ascii.specs.Keycode.{keycode_of}
use Rattle.keycodes_ascii.specs.Characters.{character_of, character_of_found, scancode_character}
use Rattle.theseus_keycodes.specs.declared.Keycode.{Keycode}
use Rattle.theseus_keycodes.specs.declared.NoKeycode.{NoKeycode}
use Rattle.theseus_keycodes.specs.Flags.{ours_modifiers}
use Rattle.theseus_keycodes.specs.Keycode.{ours, read_as_ours}
use Rattle.std.proofs.Common.{rules}
use Rattle.theseus_keycodes.proofs.scancode_to_ascii.Goals as goal

module _ (m : OurModifiers) (b : ℕ) (a : Option ℕ) where
  found : (r : Result Keycode NoKeycode) → read_as_ours r ≡ keycode_of b → MatchOption (result_ok r) (a ≡ None) (λ k. a ≡ character_of (ours k) m) → a ≡ scancode_character m b
  unfolding scancode_character
  found (Ok k) e p = p ∙ ap (λ f. character_of_found f m) e
  found (Err x) e p = p ∙ ap (λ f. character_of_found f m) e

pub returns : goal.returns
returns c =
    let a = c.args in
    found (ours_modifiers a.modifiers) a.scan_code c.and_then.result c.try_into.result c.try_into.ensures
    (search rules)
