-- The two agree, since each tells the operation's play.
use Rattle.ps2_ports.specs.Ports.{write_command}
use Rattle.theseus_ps2.proofs.Agreed.{agree_writes}
use Rattle.theseus_ps2.proofs.both_controller.both_write_command.Goals as goal

pub returns : goal.returns
returns c = agree_writes (write_command c.args.value) _ _ _ _ c.start-controller.ensures c.write_command.ensures c.write_command-ours.ensures
