-- Closed examples of the flags that bytes say, by computation.
use mathlib.Core.Path.{◌≡◌, refl}
use Rattle.bits.specs.Bits.{odd, put_bit}
use Rattle.theorem_history.specs.Past.{nothing, ◌▸◌}
use Rattle.theorem_history.specs.Said.{prefix_said, strokes, times, last_was_press, said_of, word_of, flags_said}
use Rattle.keyboard_scancodes.specs.declared.Profile.{Profile}
use Rattle.keyboard_scancodes.specs.Profile.{followed}
use Rattle.keyboard_scancodes.specs.FlagTable.{flag_table, is_of}

-- Every key but Control and the right Alt has its strokes after a prefix as without one: both Shifts, Alt and both Supers are held, the three locks on; after prefixes the right Alt is held too.
pub prefix_or_not :
    (flags_said Profile.Any (nothing ▸ 0x2A ▸ 0x36 ▸ 0x38 ▸ 0x5B ▸ 0x5C ▸ 0x3A ▸ 0x45 ▸ 0x46) ≡ 0x3F3)
    × (flags_said Profile.Any (nothing ▸ 0xE0 ▸ 0x2A ▸ 0xE0 ▸ 0x36 ▸ 0xE0 ▸ 0x38 ▸ 0xE0 ▸ 0x5B ▸ 0xE0 ▸ 0x5C ▸ 0xE0 ▸ 0x3A ▸ 0xE0 ▸ 0x45 ▸ 0xE0 ▸ 0x46) ≡ 0x7F3)
unfolding flags_said word_of said_of times last_was_press strokes prefix_said followed flag_table is_of put_bit odd
prefix_or_not = (refl, refl)

-- Released, the held keys are not held, and the locks stay on.
pub released :
    flags_said Profile.Any (nothing ▸ 0x2A ▸ 0x36 ▸ 0x38 ▸ 0x5B ▸ 0x5C ▸ 0x3A ▸ 0x45 ▸ 0x46 ▸ 0xAA ▸ 0xB6 ▸ 0xB8 ▸ 0xDB ▸ 0xDC ▸ 0xBA ▸ 0xC5 ▸ 0xC6) ≡ 0x380
unfolding flags_said word_of said_of times last_was_press strokes prefix_said followed flag_table is_of put_bit odd
released = refl

-- The right Alt: held after E0 38 or E1 38, with Alt; a lone B8 lets Alt go and leaves it; a release directly after a prefix lets both go.
pub alt_right :
    (flags_said Profile.Any (nothing ▸ 0xE0 ▸ 0x38) ≡ 0x410)
    × (flags_said Profile.Any (nothing ▸ 0xE1 ▸ 0x38) ≡ 0x410)
    × (flags_said Profile.Any (nothing ▸ 0x38) ≡ 0x010)
    × (flags_said Profile.Any (nothing ▸ 0xE0 ▸ 0x38 ▸ 0xB8) ≡ 0x400)
    × (flags_said Profile.Any (nothing ▸ 0xE0 ▸ 0x38 ▸ 0xE0 ▸ 0xB8) ≡ 0x000)
    × (flags_said Profile.Any (nothing ▸ 0xE0 ▸ 0x38 ▸ 0xE0 ▸ 0xFA ▸ 0xB8) ≡ 0x400)
unfolding flags_said word_of said_of times last_was_press strokes prefix_said followed flag_table is_of put_bit odd
alt_right = (refl, refl, refl, refl, refl, refl)

-- Under the tournament profile the same bytes leave the three locks off.
pub rated_flags :
    (flags_said Profile.Tournament (nothing ▸ 0x2A ▸ 0x36 ▸ 0x38 ▸ 0x5B ▸ 0x5C ▸ 0x3A ▸ 0x45 ▸ 0x46) ≡ 0x073)
    × (flags_said Profile.Tournament (nothing ▸ 0xE0 ▸ 0x1D ▸ 0xE0 ▸ 0x38 ▸ 0x3A ▸ 0x1D) ≡ 0x41C)
unfolding flags_said word_of said_of times last_was_press strokes prefix_said followed flag_table is_of put_bit odd
rated_flags = (refl, refl)
