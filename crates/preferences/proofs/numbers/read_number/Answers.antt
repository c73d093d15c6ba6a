-- `preferences::numbers::read_number` meets its contract: no byte, the last group, or a first one that others follow.
use mathlib.Core.Path.{sym}
use native.Mathlib.Omega.{arith}
use Rattle.preferences.proofs.Going.{read_none, read_one}
use Rattle.preferences.proofs.numbers.read_number.Goals as goal

pub returns-in_default : goal.returns-in_default
returns-in_default c = sym (read_none _ _ c.in_default.ensures.lookup.3)

pub returns-then-first-lt-GROUPS_END : goal.returns-then-first-lt-GROUPS_END
returns-then-first-lt-GROUPS_END c =
    let f = c.in-Some.ensures.lookup.3 in
    rw (c.from.ensures, f.1 0) (sym (read_one _ _ f.0 (omega (arith, f.1 0, c.if-first-lt-GROUPS_END.true))))
