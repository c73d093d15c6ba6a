-- `keyboard_sides::Sides::second_of` meets its contract: the set bits of the words that the count reaches.
use mathlib.Core.Path.{◌≡◌, ap, ap₂, ◌∙◌}
use Prim.Native.Nat.{ℕ, ◌+◌, ◌-◌}
use native.Mathlib.Omega.{arith}
use Rattle.keyboard_sides.specs.declared.Side.{Side}
use Rattle.keyboard_sides.specs.Sides.{count_of, sides_of}
use Rattle.keyboard_sides.proofs.Row.{second_lower, second_upper}
use Rattle.keyboard_sides.proofs.Sides.second_of.Goals as goal

pub returns-then-count-le-WORD : goal.returns-then-count-le-WORD
returns-then-count-le-WORD c =
    let a = c.args in
    c.ones_below.ensures ∙ second_lower a.self a.count (omega arith)

pub returns-else-count-le-WORD : goal.returns-else-count-le-WORD
returns-else-count-le-WORD c =
    let a = c.args in
    let m : a.count - 64 + 64 ≡ a.count = omega arith in
    ap₂ (λ (x y : ℕ). x + y) c.ones_below-else-count-le-WORD.ensures c.ones_below-else-count-le-WORD-2.ensures
    ∙ second_upper a.self (a.count - 64) (omega (arith, c.well_formed))
    ∙ ap (λ (n : ℕ). count_of Side.Second (sides_of a.self n)) m
