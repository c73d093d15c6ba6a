-- The two agree, since each tells the operation's play.
use Rattle.ps2_ports.specs.Ports.{flush_output_buffer}
use Rattle.theseus_ps2.proofs.Agreed.{agree_reads}
use Rattle.theseus_ps2.proofs.both_controller.both_flush_output_buffer.Goals as goal

pub returns : goal.returns
returns c = agree_reads flush_output_buffer _ _ _ _ c.start-controller.ensures c.flush_output_buffer.ensures c.flush_output_buffer-ours.ensures
