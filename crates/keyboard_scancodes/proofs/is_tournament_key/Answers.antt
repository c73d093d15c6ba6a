-- `keyboard_scancodes::is_tournament_key` meets its contract: the bits of the masks are the list's keys, computed over all codes.
use mathlib.Core.Path.{◌≡◌, refl, sym, ap, ◌∙◌}
use mathlib.Core.Bool.{true, false, and-eq-true_iff}
use mathlib.Core.List.{List, [], ◌∷◌}
use Prim.Native.Nat.{ℕ, ◌+◌, ◌-◌, ◌<◌, ◌≤◌}
use native.Mathlib.Omega.{arith}
use lib.Dec.{ltb}
use borrow.Author.Tests.{ne_eqb, ltb-true}
use Rattle.bits.specs.Bits.{bit, odd}
use Rattle.bits.proofs.Every.{agree_bool, each}
use Rattle.keycodes_ascii.specs.declared.Keycode.{Keycode}
use Rattle.keycodes_ascii.specs.Keycode.{number_of}
use Rattle.keyboard_scancodes.specs.Profile.{tournament_keys, code_among, is_tournament_code}
use Rattle.keyboard_scancodes.proofs.KeyMasks.{tested}
use Rattle.keyboard_scancodes.proofs.is_tournament_key.Goals as goal

-- the two masks, as numbers
abbrev keys_mask : ℕ
keys_mask = 0x47F47FF3FF0FFE

abbrev arrows_mask : ℕ
arrows_mask = 0x12900

low : (code : ℕ) → code < 64 → bit code keys_mask ≡ is_tournament_code code
unfolding bit odd code_among tournament_keys
low = agree_bool (λ c. bit c keys_mask) is_tournament_code 64 tt

high : (code : ℕ) → code < 64 → bit code arrows_mask ≡ is_tournament_code (code + 64)
unfolding bit odd code_among tournament_keys
high = agree_bool (λ c. bit c arrows_mask) (λ c. is_tournament_code (c + 64)) 64 tt

-- every key's number is below 128, so none of the list is from there on

not_among : (code : ℕ) → 128 ≤ code → (keys : List Keycode) → each (λ k. ltb (number_of k) 128) keys ≡ true → code_among code keys ≡ false
unfolding code_among
not_among code h [] e = refl
not_among code h (k ∷ keys) e =
    let p = (and-eq-true_iff (ltb (number_of k) 128) (each (λ k. ltb (number_of k) 128) keys)).0 e in
    let l = ltb-true (number_of k) 128 p.0 in
    rw (ne_eqb code (number_of k) (λ q. omega (arith, l, q, h)), not_among code h keys p.1)

none : (code : ℕ) → 128 ≤ code → is_tournament_code code ≡ false
unfolding tournament_keys
none code h = not_among code h tournament_keys refl

pub returns-in-0-to-63 : goal.returns-in-0-to-63
returns-in-0-to-63 c =
    let code = c.args.code in
    let h : code < 64 = omega arith in
    tested 64 keys_mask code h ∙ low code h

pub returns-in-64-to-127 : goal.returns-in-64-to-127
returns-in-64-to-127 c =
    let code = c.args.code in
    let h : code - 64 < 64 = omega arith in
    let e : code - 64 + 64 ≡ code = omega arith in
    tested 64 arrows_mask (code - 64) h ∙ high (code - 64) h ∙ ap is_tournament_code e

pub returns-in_default : goal.returns-in_default
returns-in_default c = sym (none c.args.code (omega arith))
