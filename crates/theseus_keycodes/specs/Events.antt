-- The Rust's key events, and ours that say the same.
use Rattle.keycodes_ascii.specs.declared.KeyAction.{KeyAction as OurAction}
use Rattle.keycodes_ascii.specs.declared.KeyEvent.{KeyEvent as OurEvent}
use Rattle.theseus_keycodes.specs.declared.KeyAction.{KeyAction}
use Rattle.theseus_keycodes.specs.declared.KeyEvent.{KeyEvent}
use Rattle.theseus_keycodes.specs.Flags.{ours_modifiers}
use Rattle.theseus_keycodes.specs.Keycode.{ours}

abbrev pub our_action : KeyAction → OurAction
our_action KeyAction.Pressed = OurAction.Pressed
our_action KeyAction.Released = OurAction.Released

abbrev pub our_event : KeyEvent → OurEvent
our_event e = record {
  keycode = ours e.keycode;
  action = our_action e.action;
  modifiers = ours_modifiers e.modifiers;
}
