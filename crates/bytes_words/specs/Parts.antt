-- What the parts of the code that have contracts of their own promise.
use Rattle.std.specs.Prelude.{Bool, true, false}
use Rattle.std.specs.Prelude.{Option, Some, None}
use Rattle.keycodes_ascii.specs.declared.Keycode.{Keycode}

-- Whether a number has a keycode.
abbrev pub is_found : Option Keycode → Bool
is_found (Some k) = true
is_found None = false
