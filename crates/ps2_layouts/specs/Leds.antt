-- The keyboard's LEDs: the bits of the byte that follows ED.
use Rattle.std.specs.Prelude.{Bool, ℕ, ◌+◌, ◌*◌}
use Rattle.bits.specs.Bits.{weigh}

-- "PS/2 Keyboard", ED: bit 0 scroll, 1 number, 2 caps.
abbrev pub scroll_lock : ℕ
scroll_lock = 0

abbrev pub number_lock : ℕ
number_lock = 1

abbrev pub caps_lock : ℕ
caps_lock = 2

-- The byte of three lamps, added up: scroll 1, number 2, caps 4.
abbrev pub lamp_byte : Bool → Bool → Bool → ℕ
lamp_byte scroll number caps = weigh scroll * 1 + weigh number * 2 + weigh caps * 4
