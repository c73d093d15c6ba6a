-- `keyboard_init::keyboard_init` meets its contract: the answer of the setting up, and a fresh record.
use Rattle.keyboard_init.proofs.keyboard_init.Goals as goal

pub returns : goal.returns
returns c = (c.set_up.ensures, c.fresh.ensures)
