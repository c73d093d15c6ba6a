-- The character of a key under the Rust's flags.
use mathlib.Core.Path.{◌≡◌, sym, ap₂, ◌∙◌}
use mathlib.Core.Bool.{Bool, ◌||◌}
use Rattle.bits.specs.Bits.{bit}
use Rattle.keycodes_ascii.specs.declared.Keycode.{Keycode as Ours}
use Rattle.keycodes_ascii.specs.Characters.{writes, character, character_of}
use Rattle.keycodes_ascii.proofs.Chars.{character_flags}
use Rattle.theseus_keycodes.specs.declared.KeyboardModifiers.{KeyboardModifiers}
use Rattle.theseus_keycodes.specs.Flags.{shift_left, shift_right, caps_lock, ours_modifiers}
use Rattle.theseus_keycodes.proofs.Renumbered.{look, read}

pub under : (k : Ours) (m : KeyboardModifiers) {shift caps : Bool}
    → shift ≡ (bit shift_left m.bits || bit shift_right m.bits) → caps ≡ bit caps_lock m.bits
    → character (writes k) shift caps ≡ character_of k (ours_modifiers m)
unfolding look
under k m p q =
    character_flags k (ours_modifiers m)
    (p ∙ ap₂ ◌||◌ (sym (read 0 m.bits)) (sym (read 1 m.bits)))
    (q ∙ sym (read 7 m.bits))
