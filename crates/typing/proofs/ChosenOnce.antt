-- The rule of the key to type leaves no choice: two keys that it allows for a character are one.
use mathlib.Core.Path.{◌≡◌, refl, sym, ap, ◌∙◌}
use mathlib.Core.Bool.{Bool, true, false, true≢false}
use Prim.Native.Nat.{ℕ}
use native.Mathlib.Omega.{arith}
use Rattle.std.specs.Prelude.{Option, Some, None}
use Rattle.keycodes_ascii.specs.declared.Keycode.{Keycode}
use Rattle.keycodes_ascii.specs.Keycode.{number_of, keycode_of}
use Rattle.keycodes_ascii.proofs.Codes.{keycode_number}
use Rattle.typing.specs.Keys.{Key}
use Rattle.typing.specs.Chosen.{Chosen}
use Rattle.typing.proofs.Table.{key}

-- a keycode is known by its number
same_number : (j k : Keycode) → number_of j ≡ number_of k → j ≡ k
same_number j k e = ap found (sym (keycode_number j) ∙ ap keycode_of e ∙ keycode_number k)
  where
    found : Option Keycode → Keycode
    found (Some k) = k
    found None = j

pub chosen_once : {c : ℕ} {j k : Key} → Chosen c j → Chosen c k → j ≡ k
chosen_once {c} {j} {k} h g = by j.shift k.shift h g
  where
    one : (shift : Bool) → Chosen c (key j.keycode shift) → Chosen c (key k.keycode shift) → key j.keycode shift ≡ key k.keycode shift
    one shift h g = ap (λ (i : Keycode). key i shift) (same_number j.keycode k.keycode (omega (arith, h.lowest k.keycode g.right, g.lowest j.keycode h.right)))

    by : (s t : Bool) → Chosen c (key j.keycode s) → Chosen c (key k.keycode t) → key j.keycode s ≡ key k.keycode t
    by true true h g = one true h g
    by false false h g = one false h g
    by true false h g = absurd (true≢false (sym g.right ∙ h.unshifted_first refl k.keycode))
    by false true h g = absurd (true≢false (sym h.right ∙ g.unshifted_first refl j.keycode))
