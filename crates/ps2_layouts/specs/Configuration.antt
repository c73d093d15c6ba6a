-- The configuration byte: its bits as the OSDev wiki's "8042 PS/2 Controller" numbers them.
use Rattle.std.specs.Prelude.{ℕ}

-- The first port's interrupt is enabled.
abbrev pub port1_interrupt : ℕ
port1_interrupt = 0

-- The second port's interrupt is enabled.
abbrev pub port2_interrupt : ℕ
port2_interrupt = 1

-- System flag: the system passed its self test.
abbrev pub system_flag : ℕ
system_flag = 2

-- Should be zero.
abbrev pub should_be_zero : ℕ
should_be_zero = 3

-- The first port's clock is disabled.
abbrev pub port1_clock_disabled : ℕ
port1_clock_disabled = 4

-- The second port's clock is disabled; as read at initialisation, set means "has a mouse".
abbrev pub port2_clock_disabled : ℕ
port2_clock_disabled = 5

-- The first port's translation is enabled.
abbrev pub port1_translation : ℕ
port1_translation = 6

-- Must be zero.
abbrev pub must_be_zero : ℕ
must_be_zero = 7
