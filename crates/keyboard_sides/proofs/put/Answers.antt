-- `keyboard_sides::put` meets its contract: the mask of one bit clears it or sets it.
use native.Mathlib.Omega.{arith}
use mathlib.Core.Path.{◌∙◌, ap, sym}
use Rattle.bits.specs.Bits.{put_bit}
use Rattle.keyboard_sides.specs.declared.Side.{Side}
use Rattle.keyboard_sides.specs.Sides.{is_second}
use Rattle.bits.proofs.Masks.{one_shl, set_mask, clear_mask}
use Rattle.keyboard_sides.proofs.put.Goals as goal

pub returns-in-First : goal.returns-in-First
returns-in-First c =
    let a = c.args in
    rw (one_shl 64 a.k (omega arith))
    (clear_mask 64 a.k a.word (omega arith) (omega arith) ∙ ap (λ (s : Side). put_bit a.k (is_second s) a.word) (sym c.in-First.is))

pub returns-in-Second : goal.returns-in-Second
returns-in-Second c =
    let a = c.args in
    rw (one_shl 64 a.k (omega arith))
    (set_mask a.k a.word ∙ ap (λ (s : Side). put_bit a.k (is_second s) a.word) (sym c.in-Second.is))
