-- `begin_by` meets its contract.
use mathlib.Core.Path.{sym}
use Rattle.std.proofs.Common.{rules}
use Rattle.step_words.specs.Whole.{means_nothing, begin_too_few, begun}
use Rattle.step_words.proofs.whole.begin_by.Goals as goal

pub returns-in_default : goal.returns-in_default
returns-in_default c = rw c.refusing_request.ensures (means_nothing (sym c.in_default.ensures))

pub returns-in_default-as_mut_array : goal.returns-in_default-as_mut_array
returns-in_default-as_mut_array c = rw c.refusing_request-in_default-as_mut_array.ensures (begin_too_few (sym c.in-Some.ensures) (search rules))

pub returns : goal.returns
returns c =
    rw c.advance_words.ensures (begun {o = c.in-Some.operation} {a = c.begin_all-advance.result} {l = c.begin_all-advance.new.words} (sym c.in-Some.ensures) c.in-Some-as_mut_array.ensures.cases.long (search rules) c.begin_all-advance.ensures)
