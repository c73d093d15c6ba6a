-- The two agree, since each tells the operation's play.
use Rattle.ps2_keyboard.specs.Keyboard.{keyboard_output_buffer_full}
use Rattle.theseus_ps2.proofs.Agreed.{agree_reads}
use Rattle.theseus_ps2.proofs.both_keyboard.both_keyboard_output_buffer_full.Goals as goal

pub returns : goal.returns
returns c = agree_reads keyboard_output_buffer_full _ _ _ _ c.start-controller.ensures c.rusts_keyboard_output_buffer_full-rusts.ensures c.is_output_buffer_full-ours.ensures
