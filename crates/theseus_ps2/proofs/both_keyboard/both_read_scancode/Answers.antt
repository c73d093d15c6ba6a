-- The two agree, since each tells the operation's play.
use Rattle.ps2_keyboard.specs.Keyboard.{read_scancode}
use Rattle.theseus_ps2.proofs.Agreed.{agree_reads}
use Rattle.theseus_ps2.proofs.both_keyboard.both_read_scancode.Goals as goal

pub returns : goal.returns
returns c = agree_reads read_scancode _ _ _ _ c.start-controller.ensures c.rusts_read_scancode-rusts.ensures c.read_scancode-ours.ensures
