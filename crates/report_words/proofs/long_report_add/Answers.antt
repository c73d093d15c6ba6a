-- `report_words::long_report_add` meets its contract: what adding a session answers, and the report after it.
use mathlib.Core.Path.{ap}
use Rattle.report_words.specs.Words.{long_added_words}
use Rattle.report_words.proofs.long_report_add.Goals as goal

pub returns : goal.returns
returns c = ap long_added_words c.add_session-refusal.ensures
