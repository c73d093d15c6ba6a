-- The LEDs' byte, put together bit by bit, is the sum of the lamps' weights.
use mathlib.Core.Path.{◌≡◌, refl}
use mathlib.Core.Bool.{Bool, true, false}
use Rattle.bits.specs.Bits.{put_bit}
use Rattle.ps2_layouts.specs.Leds.{scroll_lock, number_lock, caps_lock, lamp_byte}

pub put_lamps : (scroll number caps : Bool)
    → put_bit caps_lock caps (put_bit number_lock number (put_bit scroll_lock scroll 0)) ≡ lamp_byte scroll number caps
unfolding put_bit
put_lamps true true true = refl
put_lamps true true false = refl
put_lamps true false true = refl
put_lamps true false false = refl
put_lamps false true true = refl
put_lamps false true false = refl
put_lamps false false true = refl
put_lamps false false false = refl
