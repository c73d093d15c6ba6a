-- The table of keys: what its numbers say of the bytes' keys.
use mathlib.Core.Path.{◌≡◌, refl}
use mathlib.Core.Bool.{Bool, true, false}
use mathlib.Core.List.{List, [], ◌∷◌}
use Prim.Native.Nat.{ℕ, zero, suc, ◌+◌, ◌<◌}
use native.Mathlib.Nat.{add-zero, add-suc, zero-add, suc-add, not-suc-le-zero}
use native.Mathlib.Omega.{arith}
use lib.ListN.{get_or}
use mathlib.Core.Option.{Option, none, some}
use Rattle.keycodes_ascii.specs.declared.Keycode.{Keycode}
use Rattle.keycodes_ascii.specs.Keycode.{number_of}
use Rattle.typing.specs.Keys.{Key, key_of}
use Rattle.typing.proofs.Keys.{chosen, gives_press}
use Rattle.typing.specs.Table.{or_none, Tabulates}

-- the keys of n bytes from c on, as numbers
abbrev pub entries : ℕ → ℕ → List ℕ
entries zero c = []
entries (suc n) c = or_none (key_of c) ∷ entries n (suc c)

entry_at : (n from c : ℕ) → c < n → get_or (entries n from) c 0 ≡ or_none (key_of (from + c))
entry_at zero from c h = absurd (not-suc-le-zero h)
entry_at (suc n) from zero h = rw (add-zero from)
entry_at (suc n) from (suc c) h = rw (add-suc from c, ← suc-add) (entry_at n (suc from) c (omega arith))

-- a list with these numbers from 00 on has the key of every byte
pub tabulates : Tabulates (entries 0x100 0)
tabulates = record { at = λ c h. rw (zero-add c) at (entry_at 0x100 0 c h) }

-- ---- what a number says

abbrev pub key : Keycode → Bool → Key
key k shift = record { keycode = k; shift = shift }

-- a byte has no key and 00, or a press byte of set 1, with Shift marked or without
pub data Entry (c : ℕ) : ℕ → Type 0 where
  no_entry : key_of c ≡ none → Entry c 0x00
  plain : (k : Keycode) → key_of c ≡ some (key k false) → 0 < number_of k → number_of k < 0x80 → Entry c (number_of k)
  shifted : (k : Keycode) → key_of c ≡ some (key k true) → 0 < number_of k → number_of k < 0x80 → Entry c (number_of k + 0x80)

pub entry : (c : ℕ) → Entry c (or_none (key_of c))
entry c = by (key_of c) refl
  where
    pressed : {k : Key} → key_of c ≡ some k → (0 < number_of k.keycode) × (number_of k.keycode < 0x80)
    pressed {k} e = gives_press k.shift c k.keycode (chosen c e).right

    one : (k : Keycode) (shift : Bool) → key_of c ≡ some (key k shift) → Entry c (or_none (some (key k shift)))
    one k true e = shifted k e (pressed e).0 (pressed e).1
    one k false e = plain k e (pressed e).0 (pressed e).1

    by : (o : Option Key) → key_of c ≡ o → Entry c (or_none o)
    by none e = no_entry e
    by (some k) e = one k.keycode k.shift e
