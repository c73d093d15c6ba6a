-- The byte of lamps, put together bit by bit.
use mathlib.Core.Path.{◌≡◌, refl}
use mathlib.Core.Bool.{Bool, true, false}
use Rattle.bits.specs.Bits.{put_bit}
use Rattle.ps2_layouts.specs.Leds.{scroll_lock, number_lock, caps_lock, lamp_byte}

pub lamps_put : (scroll number caps : Bool) → put_bit caps_lock caps (put_bit number_lock number (put_bit scroll_lock scroll 0)) ≡ lamp_byte scroll number caps
unfolding put_bit
lamps_put true true true = refl
lamps_put true true false = refl
lamps_put true false true = refl
lamps_put true false false = refl
lamps_put false true true = refl
lamps_put false true false = refl
lamps_put false false true = refl
lamps_put false false false = refl
