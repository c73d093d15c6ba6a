-- The keys of the bytes as numbers in a table.
use Rattle.std.specs.Prelude.{Bool, true, false, List, ◌≡◌, ℕ, ◌+◌, ◌<◌, get_or}
use Rattle.std.proofs.Math.Option.{Option, none, some}
use Rattle.keycodes_ascii.specs.Keycode.{number_of}
use Rattle.typing.specs.Keys.{Key, key_of}

-- A keycode, with the top bit set where it is typed with Shift.
abbrev pub marked : Bool → ℕ → ℕ
marked false code = code
marked true code = code + 0x80

-- A key as a number: 00, which gives no character, where there is none.
abbrev pub or_none : Option Key → ℕ
or_none none = 0x00
or_none (some k) = marked k.shift (number_of k.keycode)

-- A list of numbers that has, at the place of each byte, the byte's key.
pub record Tabulates (table : List ℕ) : Type 0 where
  pub at : (c : ℕ) → c < 0x100 → get_or table c 0 ≡ or_none (key_of c)
