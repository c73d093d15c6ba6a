-- The two agree, since each tells the operation's play.
use Rattle.ps2_ports.specs.Ports.{read_config}
use Rattle.theseus_ps2.proofs.Agreed.{agree_run}
use Rattle.theseus_ps2.proofs.both_controller.both_read_config.Goals as goal

pub returns : goal.returns
returns c = agree_run read_config _ _ _ _ c.start-controller.ensures c.read_config-rusts.ensures c.read_config-ours.ensures
