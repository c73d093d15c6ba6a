-- Adding a session to a report: numbers without a width, and the limits that a width has.
use Rattle.std.specs.Prelude.{Bool, true, ◌&&◌, cond, List, [], ◌∷◌, ℕ, ◌+◌, leb, ℤ, ◌+ℤ◌, get_or, Result, Ok, Err}
use Rattle.std.specs.Int.Signed.{le_z}
use Rattle.report.specs.declared.sessions.Totals.{Totals}
use Rattle.report.specs.Keys.{for_each_key}
use Rattle.report.specs.Totals.{Session, totals_of}
use Rattle.report.specs.declared.Limits.{Limits}
use Rattle.report.specs.declared.OutOfRange.{OutOfRange}

-- Whether a session was added.
abbrev pub Answer : Type 0
Answer = Result (Unit {0}) OutOfRange

abbrev pub out_of_range : OutOfRange
out_of_range = record {}

-- The number of each answer; 0 is no refusal.
abbrev pub refusal_number : OutOfRange → ℕ
refusal_number e = 32

abbrev pub answer_number : Answer → ℕ
answer_number (Ok u) = 0
answer_number (Err e) = refusal_number e

-- Two totals together, number by number.
abbrev pub plus : Totals → Totals → Totals
plus a b =
    record {
      presses = for_each_key (λ key. get_or a.presses key 0 + get_or b.presses key 0);
      packets = a.packets + b.packets;
      x = a.x +ℤ b.x;
      y = a.y +ℤ b.y;
    }

-- Whether counts are in their range, and a sum.
unfoldable pub at_most : ℕ → List ℕ → Bool
at_most most [] = true
at_most most (n ∷ more) = leb n most && at_most most more

abbrev pub between : ℤ → ℤ → ℤ → Bool
between low high z = le_z low z && le_z z high

unfoldable pub in_range : Limits → Totals → Bool
in_range l t =
    at_most l.count t.presses && (leb t.packets l.count
    && (between l.low l.high t.x && between l.low l.high t.y))

-- Totals after others were added to them, or as they were.
pub record Settled : Type 0 where
  pub answer : Answer
  pub totals : Totals

-- "32 if a total or count would be outside its range at the
-- session's end, the report staying as before that session."
abbrev pub settled : Limits → Totals → Totals → Settled
settled l old new = cond (in_range l new) (record { answer = Ok tt; totals = new })
    (record { answer = Err out_of_range; totals = old })

abbrev pub added : Limits → Totals → Session → Settled
added l old s = settled l old (plus old (totals_of s))

-- ---- a report of any width

-- A report after a session: the new one, or the one as it was.
pub record Reported (R : Type 0) : Type 0 where
  pub answer : Answer
  pub report : R

abbrev pub answered : {R : Type 0} → (Totals → R) → R → Totals → Answer → Reported R
answered of before t (Ok u) = record { answer = Ok u; report = of t }
answered of before t (Err e) = record { answer = Err e; report = before }

abbrev pub reported : {R : Type 0} → (Totals → R) → R → Settled → Reported R
reported of before s = answered of before s.totals s.answer

-- ---- what parts of the code give: numbers within their limits, or none

abbrev pub fitting : Limits → Totals → Result Totals OutOfRange
fitting l t = cond (in_range l t) (Ok t) (Err out_of_range)

abbrev pub count_within : ℕ → ℕ → Result ℕ OutOfRange
count_within most n = cond (leb n most) (Ok n) (Err out_of_range)

abbrev pub sum_within : ℤ → ℤ → ℤ → Result ℤ OutOfRange
sum_within low high z = cond (between low high z) (Ok z) (Err out_of_range)

-- the counts of each key, where none is above its limit
abbrev pub counts_within : ℕ → List ℕ → Result (List ℕ) OutOfRange
counts_within most counts = cond (at_most most counts) (Ok counts) (Err out_of_range)
