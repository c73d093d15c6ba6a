-- The code's tables have the bytes of every code, which is computed; a byte that was looked up is that of the code that stands there.
use mathlib.Core.Path.{◌≡◌, ◌∙◌}
use mathlib.Core.List.{List}
use Prim.Native.Nat.{ℕ, ◌+◌, ◌-◌, ◌<◌, ◌≤◌}
use native.Mathlib.Omega.{arith}
use native.Mathlib.Nat.{zero-add}
use lib.ListN.{length, get_or}
use Rattle.bits.specs.Bits.{put_bit}
use Rattle.bits.proofs.Every.{agree}
use Rattle.scancode_set2.specs.declared.translation.TheConstants.{ALONE, ALONE_FROM_80, AFTER_F0}
use Rattle.scancode_set2.specs.Table.{printed, entry_of}
use Rattle.scancode_set2.specs.Codes.{break_byte, alone, after_f0}
use Rattle.scancode_set2.specs.Convert.{becomes, or_no_byte, Tabulates}
use Rattle.scancode_set2.proofs.Progress.{Stands, stands_alone, stands_after, so_wide}

pub alone_tabulated : Tabulates alone 0 0x80 ALONE
unfolding becomes entry_of printed put_bit
alone_tabulated = record { at = agree (λ i. get_or ALONE i 0) (λ i. or_no_byte (becomes (alone (0 + i)))) 0x80 tt }

pub alone_from_80_tabulated : Tabulates alone 0x80 0x80 ALONE_FROM_80
unfolding becomes entry_of printed put_bit
alone_from_80_tabulated = record { at = agree (λ i. get_or ALONE_FROM_80 i 0) (λ i. or_no_byte (becomes (alone (0x80 + i)))) 0x80 tt }

pub after_f0_tabulated : Tabulates after_f0 0 0x100 AFTER_F0
unfolding becomes entry_of printed put_bit
after_f0_tabulated = record { at = agree (λ i. get_or AFTER_F0 i 0) (λ i. or_no_byte (becomes (after_f0 (0 + i)))) 0x100 tt }

-- ---- a code that stands in a stream of bytes, up to the next one

module _ {stream : List ℕ} {used byte next : ℕ} (h : used < length stream) (fits : (i : ℕ) → get_or stream i 0 < 0x100) where
  pub low_there : get_or stream used 0 < 0x80 → byte ≡ get_or ALONE (get_or stream used 0) 0 → next ≡ used + 1 → Stands stream used byte (next - used)
  low_there l b e =
      so_wide (omega (arith, e)) (stands_alone stream used byte h (λ f. omega (arith, f, l)) (b ∙ rw (zero-add (get_or stream used 0)) at (alone_tabulated.at (get_or stream used 0) l)))

  pub high_there : 0x80 ≤ get_or stream used 0 → (get_or stream used 0 ≡ break_byte → ⊥) → byte ≡ get_or ALONE_FROM_80 (get_or stream used 0 - 0x80) 0 → next ≡ used + 1
      → Stands stream used byte (next - used)
  high_there l n b e =
      let c : 0x80 + (get_or stream used 0 - 0x80) ≡ get_or stream used 0 = omega (arith, l) in
      so_wide (omega (arith, e)) (stands_alone stream used byte h n (b ∙ rw c at (alone_from_80_tabulated.at (get_or stream used 0 - 0x80) (omega (arith, fits used)))))

  pub after_there : get_or stream used 0 ≡ break_byte → (used + 1 ≡ length stream → ⊥) → byte ≡ get_or AFTER_F0 (get_or stream (used + 1) 0) 0 → next ≡ used + 1 + 1
      → Stands stream used byte (next - used)
  after_there f n b e =
      so_wide (omega (arith, e))
      (stands_after stream used byte h f (λ l. n (omega (arith, l))) (b ∙ rw (zero-add (get_or stream (used + 1) 0)) at (after_f0_tabulated.at (get_or stream (used + 1) 0) (fits (used + 1)))))
