-- The status register: its bits as the OSDev wiki's "8042 PS/2 Controller" numbers them.
use Rattle.std.specs.Prelude.{ℕ}

-- Output buffer full: must be set before a read of port 60.
abbrev pub output_buffer_full : ℕ
output_buffer_full = 0

-- Input buffer full: must be clear before a write of port 60 or 64.
abbrev pub input_buffer_full : ℕ
input_buffer_full = 1

-- System flag: cleared on reset, set by firmware after its self test.
abbrev pub system_flag : ℕ
system_flag = 2

-- Whether what was written is a controller command (1) or data for a device (0).
abbrev pub input_is_command : ℕ
input_is_command = 3

-- Chipset specific: the keyboard lock of old machines.
abbrev pub keyboard_lock : ℕ
keyboard_lock = 4

-- Chipset specific: the second port's output buffer full. Mouse identity polls need it.
abbrev pub second_port_output_full : ℕ
second_port_output_full = 5

-- Time-out error.
abbrev pub time_out_error : ℕ
time_out_error = 6

-- Parity error.
abbrev pub parity_error : ℕ
parity_error = 7
