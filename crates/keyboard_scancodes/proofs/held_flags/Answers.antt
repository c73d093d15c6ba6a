-- `keyboard_scancodes::held_flags` meets its contract: each arm has the flags of the rows of its code.
use Rattle.bits.specs.Bits.{put_bit}
use Rattle.keyboard_scancodes.specs.FlagTable.{flag_table, is_of}
use Rattle.keyboard_scancodes.proofs.Untouched.{no_held}
use mathlib.Core.Bool.{Bool, true, false}
use mathlib.Core.Path.{◌≡◌, refl, sym, ap₂, ◌∙◌}
use Prim.Native.Nat.{ℕ}
use Rattle.keyboard_scancodes.specs.FlagsAfter.{held_flags}
use Rattle.keyboard_scancodes.proofs.held_flags.Goals as goal

-- a press code with two keys, which the prefix tells apart
module _ {code : ℕ} {x : Bool} (k : ℕ) (y : Bool) {w : ℕ} (is : held_flags flag_table k y ≡ w) where
  by_prefix : code ≡ k → x ≡ y → w ≡ held_flags flag_table code x
  by_prefix e f = sym (ap₂ (λ (k : ℕ) (z : Bool). held_flags flag_table k z) e f ∙ is)

pub returns-in-29 : goal.returns-in-29
unfolding flag_table is_of put_bit
returns-in-29 c = by_prefix 0x1D true refl c.in-29.is c.if-prefix.true

pub returns-in-29-2 : goal.returns-in-29-2
unfolding flag_table is_of put_bit
returns-in-29-2 c = by_prefix 0x1D false refl c.in-29.is c.if-prefix.false

pub returns-in-56 : goal.returns-in-56
unfolding flag_table is_of put_bit
returns-in-56 c = by_prefix 0x38 true refl c.in-56.is c.if-prefix-2.true

pub returns-in-56-2 : goal.returns-in-56-2
unfolding flag_table is_of put_bit
returns-in-56-2 c = by_prefix 0x38 false refl c.in-56.is c.if-prefix-2.false

pub returns-in-42 : goal.returns-in-42
unfolding flag_table is_of put_bit
returns-in-42 c = rw c.in-42.is

pub returns-in-54 : goal.returns-in-54
unfolding flag_table is_of put_bit
returns-in-54 c = rw c.in-54.is

pub returns-in-91 : goal.returns-in-91
unfolding flag_table is_of put_bit
returns-in-91 c = rw c.in-91.is

pub returns-in-92 : goal.returns-in-92
unfolding flag_table is_of put_bit
returns-in-92 c = rw c.in-92.is

pub returns-in_default : goal.returns-in_default
returns-in_default c =
    let n = c.in_default.in_default-own.rest in
    sym (no_held _ _ n.0.0.0.0.0.1 n.0.0.0.0.1 n.0.0.0.1 n.0.0.1 n.0.1 n.1)
