-- An operation on a record that is passed by value: its answer, and the record as it is left.
use Rattle.exchange.specs.Exchange.{End, yields, lacks}
use Rattle.exchange.specs.Answer.{Answer, answered}

-- What such an operation yields.
pub record Left (R A : Type 0) : Type 0 where
  pub answer : Answer A
  pub now : R

abbrev pub left : {R A : Type 0} → Answer A → R → Left R A
left a r = record { answer = a; now = r }

-- The answer of a play's end: the operation's own, or 2 or 3 as of every operation.
abbrev pub answer_of : {R A : Type 0} → End (Left R A) → Answer A
answer_of (yields v) = v.answer
answer_of (lacks x) = answered (lacks x)

-- "After 2, 3 or 21 records are as passed in": the record after a play that began with `passed`.
abbrev pub record_after : {R A : Type 0} → R → End (Left R A) → R
record_after passed (yields v) = v.now
record_after passed (lacks x) = passed
