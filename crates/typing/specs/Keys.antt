-- Which key a character is typed on: a search over the characters of the keys.
use Rattle.std.specs.Prelude.{Bool, true, false, cond, List, [], ◌∷◌, ℕ, eqb, ltb}
use Rattle.std.proofs.Math.Option.{Option, none, some}
use Rattle.bits.specs.Bits.{put_bit}
use Rattle.keyboard_modifiers.specs.declared.KeyboardModifiers.{KeyboardModifiers}
use Rattle.keyboard_modifiers.specs.Flags.{shift_left}
use Rattle.std.specs.Prelude.{Some, None}
use Rattle.std.specs.Prelude as prelude
use Rattle.keycodes_ascii.specs.declared.Keycode.{Keycode}
use Rattle.keycodes_ascii.specs.Keycode.{number_of, keycodes}
use Rattle.keycodes_ascii.specs.Characters.{character_of}

-- A key, and whether Shift is held while it is typed.
pub record Key : Type 0 where
  pub keycode : Keycode
  pub shift : Bool

-- The flags meanwhile: the left Shift's, or none. No lock is on.
abbrev pub flags_held : Bool → KeyboardModifiers
flags_held shift = record { bits = put_bit shift_left shift 0 }

-- Whether a key gives a character, with Shift or without.
abbrev pub is_the : ℕ → prelude.Option ℕ → Bool
is_the c (Some d) = eqb d c
is_the c None = false

unfoldable pub gives_it : Bool → ℕ → Keycode → Bool
gives_it shift c k = is_the c (character_of k (flags_held shift))

-- Of a keycode and another, if there is another, the lower.
abbrev pub lower : Keycode → Option Keycode → Option Keycode
lower k none = some k
lower k (some j) = some (cond (ltb (number_of j) (number_of k)) j k)

-- The lowest of some keycodes of which a test holds.
unfoldable pub lowest : (Keycode → Bool) → List Keycode → Option Keycode
lowest f [] = none
lowest f (k ∷ ks) = cond (f k) (lower k (lowest f ks)) (lowest f ks)

-- A keycode is typed with Shift or without; where there is none, something else is taken.
abbrev pub or_else : Option Keycode → Bool → Option Key → Option Key
or_else (some k) shift other = some (record { keycode = k; shift = shift })
or_else none shift other = other

-- The key of a character, if it has one: "Where several keys give a character, one without Shift
-- comes first, then the lowest keycode."
unfoldable pub key_of : ℕ → Option Key
key_of c = or_else (lowest (gives_it false c) keycodes) false
    (or_else (lowest (gives_it true c) keycodes) true none)

-- ---- the keys of a text

abbrev pub before : Option Key → Option (List Key) → Option (List Key)
before (some k) (some ks) = some (k ∷ ks)
before (some k) none = none
before none others = none

-- The keys of a text's characters, in order, if every character has one.
unfoldable pub keys_of : List ℕ → Option (List Key)
keys_of [] = some []
keys_of (c ∷ text) = before (key_of c) (keys_of text)
