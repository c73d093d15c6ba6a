-- `keyboard_scancodes::leds` meets its contract: each lamp is put as its lock's flag is.
use Rattle.keyboard_scancodes.specs.Lamps.{lamps_lit}
use Rattle.keyboard_scancodes.proofs.LampBits.{lamps_put}
use Rattle.keyboard_scancodes.proofs.leds.Goals as goal

pub returns : goal.returns
unfolding lamps_lit
returns c =
    rw (
      c.with_caps_lock.ensures,
      c.is_caps_lock.ensures,
      c.with_number_lock.ensures,
      c.is_num_lock.ensures,
      c.with_scroll_lock.ensures,
      c.is_scroll_lock.ensures,
      c.new.ensures,
    )
    (lamps_put _ _ _)
