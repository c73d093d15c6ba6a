-- A queue of events in an array.
use Rattle.std.specs.Prelude.{List, take}
use Rattle.theseus_keycodes.specs.declared.KeyEvent.{KeyEvent}
use Rattle.theseus_keyboard_uses.specs.declared.places.Places.{Places}

-- The events that wait are the first of its places, the oldest first.
abbrev pub waiting : Places → List KeyEvent
waiting q = take q.count q.events
