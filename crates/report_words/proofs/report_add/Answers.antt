-- `report_words::report_add` meets its contract: what adding a session answers, and the report after it.
use mathlib.Core.Path.{ap}
use Rattle.report_words.specs.Words.{added_words}
use Rattle.report_words.proofs.report_add.Goals as goal

pub returns : goal.returns
returns c = ap added_words c.add_session-refusal.ensures
