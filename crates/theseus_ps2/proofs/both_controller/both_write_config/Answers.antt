-- The two agree, since each tells the operation's play.
use Rattle.ps2_ports.specs.Ports.{write_config}
use Rattle.theseus_ps2.proofs.Agreed.{agree_writes}
use Rattle.theseus_ps2.proofs.both_controller.both_write_config.Goals as goal

pub returns : goal.returns
returns c = agree_writes (write_config c.args.value) _ _ _ _ c.start-controller.ensures c.write_config.ensures c.write_config-ours.ensures
