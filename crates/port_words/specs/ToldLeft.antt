-- The same of an operation on a record that is passed by
-- value: its answer comes with the record as it is left.
use Rattle.std.specs.Prelude.{ℕ}
use Rattle.exchange.specs.Exchange.{End, told_end}
use Rattle.exchange.specs.Answer.{Answer}
use Rattle.exchange.specs.Left.{Left, record_after}

-- What a play is told by that began with the record `passed`, where `numbers` says what an answer,
-- its counts and a record are as numbers. "After 2, 3 or 21 records are as passed in."
abbrev pub told_left : {X A R : Type 0} → (End (Answer A) → ℕ → ℕ → X → R) → X → End (Left X A) → ℕ
    → ℕ → R
told_left numbers passed end used pairs =
    numbers (told_end (λ v. v.answer) end) used pairs (record_after passed end)
