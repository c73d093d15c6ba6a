-- `keyboard_sides::Sides::count_of` meets its contract: those of the first side are the others.
use mathlib.Core.Path.{ap, sym, ◌∙◌}
use Prim.Native.Nat.{ℕ, ◌-◌}
use native.Mathlib.Omega.{arith}
use Rattle.keyboard_sides.specs.declared.Side.{Side}
use Rattle.keyboard_sides.specs.Sides.{count_of, sides_of}
use Rattle.keyboard_sides.proofs.Row.{second_le, first_left}
use Rattle.keyboard_sides.proofs.Sides.count_of.Goals as goal

pub overflow_sub-result : goal.overflow_sub-result
overflow_sub-result c =
    let a = c.args in
    omega (arith, second_le a.self a.count)

pub returns-in-First : goal.returns-in-First
returns-in-First c =
    let a = c.args in
    ap (λ (k : ℕ). a.count - k) c.second_of-second.ensures ∙ sym (first_left a.self a.count)
    ∙ ap (λ (s : Side). count_of s (sides_of a.self a.count)) (sym c.in-First.is)
