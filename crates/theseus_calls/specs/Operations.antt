-- Operations that an argument chooses, and what their values are told by.
use Rattle.std.specs.Prelude.{ℕ}
use Rattle.exchange.specs.Exchange.{Exchange}
use Rattle.exchange.specs.Answer.{Answer}
use Rattle.ps2_layouts.specs.declared.configuration.ControllerConfigurationByte.{ControllerConfigurationByte}
use Rattle.ps2_layouts.specs.declared.leds.LEDState.{LEDState}
use Rattle.ps2_bytes.specs.declared.command.HostToKeyboardCommand.{HostToKeyboardCommand}
use Rattle.ps2_bytes.specs.declared.command.HostToMouseCommand.{HostToMouseCommand}
use Rattle.ps2_bytes.specs.declared.data.MouseResolution.{MouseResolution}
use Rattle.ps2_bytes.specs.declared.data.MouseSampleRate.{MouseSampleRate}
use Rattle.ps2_bytes.specs.declared.data.ScancodeSet.{ScancodeSet}
use Rattle.ps2_bytes.specs.declared.writable.HostToDevice.{HostToDevice}
use Rattle.ps2_bytes.specs.declared.writable.HostToKeyboardCommandOrData.{HostToKeyboardCommandOrData}
use Rattle.ps2_bytes.specs.declared.writable.HostToMouseCommandOrData.{HostToMouseCommandOrData}
use Rattle.ps2_answers.specs.Refusals.{Success}
use Rattle.ps2_polling.specs.Polling.{polling_send}
use Rattle.ps2_command.specs.Command.{command}
use Rattle.ps2_mouse.specs.Mouse.{command_to_mouse}

-- The configuration is told by its byte.
abbrev pub configuration_value : ControllerConfigurationByte → ℕ
configuration_value c = c.bits

-- A scancode set, sent to the keyboard.
abbrev pub sending_set : ScancodeSet → Exchange (Answer Success)
sending_set set = polling_send (HostToDevice.Keyboard (HostToKeyboardCommandOrData.ScancodeSet set))

-- A command, or a data byte, sent as a command is.
abbrev pub to_keyboard : HostToKeyboardCommandOrData → Exchange (Answer Success)
to_keyboard value = command (HostToDevice.Keyboard value)

abbrev pub commanding : HostToKeyboardCommand → Exchange (Answer Success)
commanding c = to_keyboard (HostToKeyboardCommandOrData.KeyboardCommand c)

abbrev pub commanding_set : ScancodeSet → Exchange (Answer Success)
commanding_set set = to_keyboard (HostToKeyboardCommandOrData.ScancodeSet set)

abbrev pub commanding_lamps : LEDState → Exchange (Answer Success)
commanding_lamps leds = to_keyboard (HostToKeyboardCommandOrData.LEDState leds)

abbrev pub commanding_mouse : HostToMouseCommand → Exchange (Answer Success)
commanding_mouse c = command_to_mouse (HostToMouseCommandOrData.MouseCommand c)

abbrev pub commanding_rate : MouseSampleRate → Exchange (Answer Success)
commanding_rate rate = command_to_mouse (HostToMouseCommandOrData.SampleRate rate)

abbrev pub commanding_resolution : MouseResolution → Exchange (Answer Success)
commanding_resolution resolution =
    command_to_mouse (HostToMouseCommandOrData.MouseResolution resolution)
