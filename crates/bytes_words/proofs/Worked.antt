-- Worked arguments: characters, events for a report, and what stands for nothing.
use mathlib.Core.Bool.{xor}
use mathlib.Core.Path.{◌≡◌, refl}
use Prim.Native.Nat.{ℕ}
use Rattle.bits.specs.Bits.{bit, odd}
use Rattle.keycodes_ascii.specs.Characters.{character_of}
use Rattle.keycodes_ascii.specs.Keycode.{keycodes, numbered, keycode_of}
use Rattle.bytes_words.specs.Keys.{flags_at, action_at, character_at, event_code_at}

abbrev character_for : ℕ → ℕ → ℕ
character_for keycode flags = character_at (keycode_of keycode) (flags_at flags)

abbrev event_for : ℕ → ℕ → ℕ
event_for keycode action = event_code_at (keycode_of keycode) (action_at action)

-- A by itself, with the left Shift, with Caps Lock, with both; F1; a release code; then a keycode and flags that stand for nothing
characters :
    (character_for 0x1E 0 ≡ 0x61) × (character_for 0x1E 0x01 ≡ 0x41) × (character_for 0x1E 0x80 ≡ 0x41) × (character_for 0x1E 0x81 ≡ 0x61)
    × (character_for 0x3B 0 ≡ 0) × (character_for 0xAA 0 ≡ 0) × (character_for 0x5E 0 ≡ 255) × (character_for 0x11E 0 ≡ 255) × (character_for 0x1E 65536 ≡ 255)
unfolding keycode_of numbered keycodes character_of bit odd xor
characters = (refl, refl, refl, refl, refl, refl, refl, refl, refl)

-- A pressed and released; then a keycode and an action that stand for nothing
events : (event_for 0x1E 0 ≡ 0x1E) × (event_for 0x1E 1 ≡ 0x9E) × (event_for 0x5E 0 ≡ 255) × (event_for 0x1E 2 ≡ 255)
unfolding keycode_of numbered keycodes
events = (refl, refl, refl, refl)
