-- The lamps that the flags light.
use Rattle.std.specs.Prelude.{ℕ}
use Rattle.bits.specs.Bits.{bit}
use Rattle.keyboard_modifiers.specs.Flags.{caps_lock, num_lock, scroll_lock}
use Rattle.ps2_layouts.specs.Leds.{lamp_byte}

-- "ED, then scroll 1, number 2, caps 4 added": the byte
-- after ED, each lamp lit where its lock is on.
unfoldable pub lamps_lit : ℕ → ℕ
lamps_lit flags = lamp_byte (bit scroll_lock flags) (bit num_lock flags) (bit caps_lock flags)
