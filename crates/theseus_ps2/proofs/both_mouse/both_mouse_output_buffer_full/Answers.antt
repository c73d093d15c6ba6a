-- The two agree, since each tells the operation's play.
use Rattle.ps2_mouse.specs.Mouse.{mouse_output_buffer_full}
use Rattle.theseus_ps2.proofs.Agreed.{agree_reads}
use Rattle.theseus_ps2.proofs.both_mouse.both_mouse_output_buffer_full.Goals as goal

pub returns : goal.returns
returns c = agree_reads mouse_output_buffer_full _ _ _ _ c.start-controller.ensures c.rusts_mouse_output_buffer_full-rusts.ensures c.is_output_buffer_full-ours.ensures
