-- The byte by which a setting tells its device the value: the data behind its command.
use Rattle.std.specs.Prelude.{List, [], ◌∷◌, ℕ}
use Rattle.ps2_bytes.specs.declared.writable.HostToKeyboardCommandOrData.TheVariants as Keyboard
use Rattle.ps2_bytes.specs.declared.writable.HostToMouseCommandOrData.TheVariants as Mouse
use Rattle.ps2_bytes.specs.Writable.{to_keyboard, to_mouse}
use Rattle.preferences_application.specs.declared.Setting.{Setting}

abbrev pub byte_sent : Setting → ℕ
byte_sent (Setting.ScancodeSet set) = to_keyboard (Keyboard.ScancodeSet set)
byte_sent (Setting.SamplingRate rate) = to_mouse (Mouse.SampleRate rate)
byte_sent (Setting.Resolution resolution) = to_mouse (Mouse.MouseResolution resolution)
byte_sent (Setting.Lamps lamps) = to_keyboard (Keyboard.LEDState lamps)
byte_sent (Setting.RepeatRateAndDelay byte) = to_keyboard (Keyboard.RepeatRateAndDelay byte)

abbrev pub bytes_sent : List Setting → List ℕ
bytes_sent [] = []
bytes_sent (setting ∷ settings) = byte_sent setting ∷ bytes_sent settings
