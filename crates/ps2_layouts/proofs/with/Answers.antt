-- `with` meets its contract: by the mask that sets a bit, or the one that clears it.
use Rattle.bits.proofs.Masks.{set_mask, clear_mask, one_shl}
use Rattle.ps2_layouts.proofs.with.Goals as goal

pub returns-then-value : goal.returns-then-value
returns-then-value c =
    let a = c.args in
    rw (one_shl 8 a.k c.requires, c.if-value.true) (set_mask a.k a.x)

pub returns-else-value : goal.returns-else-value
returns-else-value c =
    let a = c.args in
    rw (one_shl 8 a.k c.requires, c.if-value.false) (clear_mask 8 a.k a.x c.requires c.ranges.x.fits)
