-- `ps2_command::any_full` meets its contract: what is joined has the bit where one of the statuses has it.
use mathlib.Core.Path.{◌≡◌, refl, sym, ap, ◌∙◌}
use mathlib.Core.Bool.{Bool, ◌||◌}
use Prim.Native.Nat.{ℕ, ◌<◌, ◌^◌}
use native.Mathlib.Omega.{arith}
use lib.ListN.{get_or}
use lib.Bits.{bit_or}
use Rattle.std.proofs.lemmas.List.Folds.{list_any_more}
use Rattle.bits.specs.Bits.{bit, odd}
use Rattle.bits.proofs.Bits.{bit-bitwise}
use Rattle.bits.proofs.Masks.{or_bitwise}
use Rattle.ps2_layouts.specs.Status.{output_buffer_full}
use Rattle.ps2_command.proofs.any_full.Goals as goal

-- two bytes joined have a bit where one of them has it
bit_joined : (k x y : ℕ) → k < 8 → x < 2 ^ 8 → y < 2 ^ 8 → bit k (bit_or x y) ≡ (bit k x || bit k y)
bit_joined k x y h a b = ap (bit k) (or_bitwise 8 x y a b) ∙ bit-bitwise ◌||◌ 8 k x y h

pub loop-status-init : goal.loop-status-init
unfolding bit odd
loop-status-init c = refl

pub loop-status-preserved : goal.loop-status-preserved
loop-status-preserved c =
    let i = c.loop-status.status-index in
    let s = c.args.statuses.now in
    bit_joined 0 c.loop-status.joined (get_or s i 0) (omega arith) c.loop-status.auto.joined-fits.fits (omega (arith, c.fits-statuses i))
    ∙ ap (λ (b : Bool). b || bit output_buffer_full (get_or s i 0)) c.loop-status.invariant
    ∙ sym (list_any_more (bit output_buffer_full) s i 0 (omega (arith, c.loop-status-test.true, c.told-statuses)))
