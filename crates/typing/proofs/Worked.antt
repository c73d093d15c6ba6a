-- Closed examples of typing, by computation.
use mathlib.Core.Path.{◌≡◌, refl}
use mathlib.Core.Bool.{xor}
use mathlib.Core.List.{[], ◌∷◌}
use Rattle.bits.specs.Bits.{bit, odd, put_bit}
use Rattle.exchange.specs.Answer.{gives, refuses}
use Rattle.keycodes_ascii.specs.Keycode.{keycodes}
use Rattle.keycodes_ascii.specs.Characters.{character_of}
use Rattle.typing.specs.Keys.{gives_it, lowest, key_of, keys_of}
use Rattle.typing.specs.Typing.{strokes_of, scancodes, typed}

-- "aB": a key that needs no Shift, and one that does.
pub a_then_shift_b : typed 6 (0x61 ∷ 0x42 ∷ []) ≡ gives (0x1E ∷ 0x9E ∷ 0x2A ∷ 0x30 ∷ 0xB0 ∷ 0xAA ∷ [])
unfolding typed keys_of key_of lowest gives_it character_of keycodes scancodes strokes_of bit odd put_bit xor
a_then_shift_b = refl

-- "AB": Shift goes around each key.
pub shift_each : typed 8 (0x41 ∷ 0x42 ∷ []) ≡ gives (0x2A ∷ 0x1E ∷ 0x9E ∷ 0xAA ∷ 0x2A ∷ 0x30 ∷ 0xB0 ∷ 0xAA ∷ [])
unfolding typed keys_of key_of lowest gives_it character_of keycodes scancodes strokes_of bit odd put_bit xor
shift_each = refl

-- "+*-": the keypad's plus and asterisk need no Shift, and the lower of two keys gives the hyphen.
pub several_keys : typed 6 (0x2B ∷ 0x2A ∷ 0x2D ∷ []) ≡ gives (0x4E ∷ 0xCE ∷ 0x37 ∷ 0xB7 ∷ 0x0C ∷ 0x8C ∷ [])
unfolding typed keys_of key_of lowest gives_it character_of keycodes scancodes strokes_of bit odd put_bit xor
several_keys = refl

-- A carriage return has no key, which is asked before the room; five bytes are too few for "aB"; an empty text needs none.
pub refusals : (typed 0 (0x61 ∷ 0x0D ∷ []) ≡ refuses 25) × (typed 5 (0x61 ∷ 0x42 ∷ []) ≡ refuses 26) × (typed 0 [] ≡ gives [])
unfolding typed keys_of key_of lowest gives_it character_of keycodes scancodes strokes_of bit odd put_bit xor
refusals = (refl, refl, refl)
