-- `ps2_init::init` meets its contract: the steps, where it was not initialised before; the record as they leave it.
use Rattle.ps2_init.proofs.Record.{init_already, init_ready, init_refused}
use Rattle.ps2_init.proofs.init.Goals as goal

pub returns-then-controller : goal.returns-then-controller
returns-then-controller c = rw c.new.ensures (init_already _ _ _ c.if-controller.true)

pub returns-in-Ok : goal.returns-in-Ok
returns-in-Ok c = rw c.with.ensures (init_ready _ _ _ c.if-controller.false _ c.in-Ok.ensures)

pub returns-in-Err : goal.returns-in-Err
returns-in-Err c = init_refused _ _ _ c.if-controller.false _ c.in-Err.ensures
