-- `ps2_setup::test_second` meets its contract: a test, forgiven, where there is a mouse, and none where there is not.
use Rattle.exchange.specs.Exchange.{bind, play}
use Rattle.ps2_bytes.specs.declared.command.HostToControllerCommand.TheVariants.{TestPort2}
use Rattle.ps2_polling.specs.Polling.{test_port}
use Rattle.ps2_setup.proofs.Trials.{tried_told}
use Rattle.ps2_setup.proofs.test_second.Goals as goal

pub returns-then-has_mouse : goal.returns-then-has_mouse
returns-then-has_mouse c = rw c.if-has_mouse.true (tried_told (test_port TestPort2) _ _ _ c.test_port2.ensures _ c.tried.ensures)

pub returns-else-has_mouse : goal.returns-else-has_mouse
unfolding bind play
returns-else-has_mouse c = rw (c.if-has_mouse.false, c.new.ensures)
