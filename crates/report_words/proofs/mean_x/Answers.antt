-- `report_words::mean_x` meets its contract.
use mathlib.Core.Path.{ap, ◌∙◌}
use Rattle.report_words.specs.Words.{mean_words}
use Rattle.report_words.proofs.mean_x.Goals as goal

pub returns : goal.returns
returns g c = c.mean_words.ensures ∙ ap mean_words c.mean_x.ensures
