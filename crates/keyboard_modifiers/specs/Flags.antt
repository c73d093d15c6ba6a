-- The modifier flags: a flag's number is its bit in the word of flags.
use Rattle.std.specs.Prelude.{ℕ}

abbrev pub shift_left : ℕ
shift_left = 0

abbrev pub shift_right : ℕ
shift_right = 1

abbrev pub control_left : ℕ
control_left = 2

abbrev pub control_right : ℕ
control_right = 3

abbrev pub alt : ℕ
alt = 4

abbrev pub super_key_left : ℕ
super_key_left = 5

abbrev pub super_key_right : ℕ
super_key_right = 6

abbrev pub caps_lock : ℕ
caps_lock = 7

abbrev pub num_lock : ℕ
num_lock = 8

abbrev pub scroll_lock : ℕ
scroll_lock = 9

-- "Add flag 10, ALT_RIGHT": the right Alt's own.
abbrev pub alt_right : ℕ
alt_right = 10
