-- `report_words::mean_y` meets its contract.
use mathlib.Core.Path.{ap, ◌∙◌}
use Rattle.report_words.specs.Words.{mean_words}
use Rattle.report_words.proofs.mean_y.Goals as goal

pub returns : goal.returns
returns g c = c.mean_words.ensures ∙ ap mean_words c.mean_y.ensures
