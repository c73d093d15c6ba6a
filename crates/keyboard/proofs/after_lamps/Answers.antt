-- `keyboard::after_lamps` meets its contract: 19, or the event of the key.
use Rattle.keyboard.specs.Byte.{key_event}
use Rattle.keyboard_scancodes.proofs.Keycodes.{known_low, known_keycode, unknown_low}
use Rattle.keyboard.proofs.after_lamps.Goals as goal

pub event_of-requires : goal.event_of-requires
event_of-requires c =
    known_keycode _ c.try_from.ensures c.in-Ok.is

pub returns-in-Ok : goal.returns-in-Ok
unfolding key_event
returns-in-Ok c =
    rw (
      c.from.ensures,
      known_low _ c.try_from.ensures c.in-Ok.is,
      c.event_of.ensures,
    )

pub returns-in-Err : goal.returns-in-Err
unfolding key_event
returns-in-Err c = rw (c.from.ensures, unknown_low _ c.try_from.ensures c.in-Err.is)
