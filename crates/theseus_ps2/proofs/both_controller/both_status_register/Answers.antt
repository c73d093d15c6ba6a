-- The two agree, since each tells the operation's play.
use Rattle.ps2_ports.specs.Ports.{read_status}
use Rattle.theseus_ps2.proofs.Agreed.{agree_reads}
use Rattle.theseus_ps2.proofs.both_controller.both_status_register.Goals as goal

pub returns : goal.returns
returns c = agree_reads read_status _ _ _ _ c.start-controller.ensures c.status_register-rusts.ensures c.status_register-ours.ensures
