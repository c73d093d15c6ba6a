-- `set_rates` meets its contract: each turn of the loop sets the next rate.
use lib.ListN.{drop}
use Rattle.exchange.specs.Position.{Reached}
use Rattle.ps2_mouse_identity.specs.Identity.{set_rates}
use Rattle.ps2_mouse_identity.proofs.set_rates.Given as goal

abbrev pub invariant-loop-rate : goal.invariant-loop-rate
invariant-loop-rate l = Reached (set_rates l.fn.rates) l.script l.initial.log (set_rates (drop l.rate-index l.fn.rates)) l.done.used l.done.pairs l.log
