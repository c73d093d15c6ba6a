-- What is written to the data port: the byte of the configuration,
-- of a command to a device, or of a command's data.
use Rattle.std.specs.Prelude.{ℕ}
use Rattle.ps2_bytes.specs.Commands.{keyboard_byte, mouse_byte}
use Rattle.ps2_bytes.specs.Data.{scancode_set_byte, sample_rate_byte, resolution_byte}
use Rattle.ps2_bytes.specs.declared.writable.HostToKeyboardCommandOrData.{HostToKeyboardCommandOrData}
use Rattle.ps2_bytes.specs.declared.writable.HostToKeyboardCommandOrData.TheVariants.{KeyboardCommand, LEDState, ScancodeSet, RepeatRateAndDelay}
use Rattle.ps2_bytes.specs.declared.writable.HostToMouseCommandOrData.{HostToMouseCommandOrData}
use Rattle.ps2_bytes.specs.declared.writable.HostToMouseCommandOrData.TheVariants.{MouseCommand, SampleRate, MouseResolution}
use Rattle.ps2_bytes.specs.declared.writable.HostToDevice.{HostToDevice}
use Rattle.ps2_bytes.specs.declared.writable.HostToDevice.TheVariants.{Keyboard, Mouse}
use Rattle.ps2_bytes.specs.declared.writable.WritableData.{WritableData}
use Rattle.ps2_bytes.specs.declared.writable.WritableData.TheVariants as Written

-- To the keyboard: a command, the LEDs' byte, a scancode set, or the byte of repeat rate and delay.
abbrev pub to_keyboard : HostToKeyboardCommandOrData → ℕ
to_keyboard (KeyboardCommand c) = keyboard_byte c
to_keyboard (LEDState l) = l.bits
to_keyboard (ScancodeSet s) = scancode_set_byte s
to_keyboard (RepeatRateAndDelay b) = b

-- To the mouse: a command, a sample rate, or a resolution.
abbrev pub to_mouse : HostToMouseCommandOrData → ℕ
to_mouse (MouseCommand c) = mouse_byte c
to_mouse (SampleRate s) = sample_rate_byte s
to_mouse (MouseResolution r) = resolution_byte r

-- To a device.
abbrev pub to_device : HostToDevice → ℕ
to_device (Keyboard k) = to_keyboard k
to_device (Mouse m) = to_mouse m

-- To the data port: the configuration, or a byte for a device.
abbrev pub written : WritableData → ℕ
written (Written.Configuration c) = c.bits
written (Written.HostToDevice d) = to_device d
