-- What the operations on reports answer as numbers.
use Rattle.std.specs.Prelude.{List, ℕ, pos, Option as Shown, Some, None}
use Rattle.std.proofs.Math.Option.{Option, none, some}
use Rattle.argument_words.specs.Arguments.{invalid_argument}
use Rattle.ps2_bytes.specs.declared.response.MouseId.{MouseId}
use Rattle.report.specs.declared.sessions.Totals.{Totals}
use Rattle.report.specs.declared.Limits.{Limits}
use Rattle.report.specs.declared.WholeMean.{WholeMean}
use Rattle.report.specs.declared.Report.{Report}
use Rattle.report.specs.Adding.{answer_number, added, Reported, reported}
use Rattle.report.specs.Narrow.{narrow_limits, numbers, report_of}
use Rattle.report.specs.declared.long.LongReport.{LongReport}
use Rattle.report.specs.Long.{long_limits, long_numbers, long_of}
use Rattle.report_words.specs.declared.ReportAddedWords.{ReportAddedWords}
use Rattle.report_words.specs.declared.LongAddedWords.{LongAddedWords}
use Rattle.report_words.specs.declared.MeanWords.{MeanWords}

-- "With no packets no mean is shown": present is 0, and so are both numbers.
abbrev pub mean_words : Shown WholeMean → MeanWords
mean_words (Some m) = record { present = 1; quotient = m.quotient; remainder = m.remainder }
mean_words None = record { present = 0; quotient = pos 0; remainder = 0 }

-- What adding a session answers, and the report after it.
pub record SessionAdded (R : Type 0) : Type 0 where
  pub refusal : ℕ
  pub report : R

-- A session added to a report of any width. Where the identity
-- stands for nothing, none is, and the report is as it was.
abbrev pub told_added : {R : Type 0} → Reported R → SessionAdded R
told_added a = record { refusal = answer_number a.answer; report = a.report }

abbrev pub session_added : {R : Type 0} → Limits → (R → Totals) → (Totals → R) → Option MouseId → R
    → (events mouse : List ℕ) → SessionAdded R
session_added l told having (some id) r events mouse =
    told_added (reported having r
    (added l (told r) (record { id = id; events = events; mouse = mouse })))
session_added l told having none r events mouse = record { refusal = invalid_argument; report = r }

-- In 32 bits.
abbrev pub added_words : SessionAdded Report → ReportAddedWords
added_words a = record { refusal = a.refusal; report = a.report }

abbrev pub report_added : Option MouseId → Report → (events mouse : List ℕ) → ReportAddedWords
report_added i r events mouse =
    added_words (session_added narrow_limits numbers report_of i r events mouse)

-- The same in 64 bits.
abbrev pub long_added_words : SessionAdded LongReport → LongAddedWords
long_added_words a = record { refusal = a.refusal; report = a.report }

abbrev pub long_added : Option MouseId → LongReport → (events mouse : List ℕ) → LongAddedWords
long_added i r events mouse =
    long_added_words (session_added long_limits long_numbers long_of i r events mouse)
