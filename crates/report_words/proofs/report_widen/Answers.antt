-- `report_words::report_widen` meets its contract: no number is changed.
use Rattle.report_words.proofs.report_widen.Goals as goal

pub returns : goal.returns
returns c = c.widen.ensures
