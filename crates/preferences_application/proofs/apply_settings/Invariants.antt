-- `preferences_application::apply_settings` meets its contract: each turn of the loop sets the next setting.
use lib.ListN.{drop}
use Rattle.exchange.specs.Position.{Reached}
use Rattle.preferences_application.specs.Application.{apply_settings}
use Rattle.preferences_application.proofs.apply_settings.Given as goal

abbrev pub invariant-loop-setting : goal.invariant-loop-setting
invariant-loop-setting l = Reached (apply_settings l.fn.settings) l.script l.initial.log (apply_settings (drop l.setting-index l.fn.settings)) l.done.used l.done.pairs l.log
