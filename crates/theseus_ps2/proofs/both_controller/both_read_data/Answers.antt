-- The two agree, since each tells the operation's play.
use Rattle.ps2_ports.specs.Ports.{read_data}
use Rattle.theseus_ps2.proofs.Agreed.{agree_reads}
use Rattle.theseus_ps2.proofs.both_controller.both_read_data.Goals as goal

pub returns : goal.returns
returns c = agree_reads read_data _ _ _ _ c.start-controller.ensures c.read_data-rusts.ensures c.read_data-ours.ensures
