-- What the numbers of an argument stand for.
use Rattle.std.specs.Prelude.{cond, List, [], ◌∷◌, ℕ, ltb}
use Rattle.std.proofs.Math.Option.{Option, none, some}
use Rattle.bits.specs.Table.{rows, decode}
use Rattle.ps2_layouts.specs.declared.leds.LEDState.{LEDState}
use Rattle.ps2_bytes.specs.declared.command.HostToKeyboardCommand.{HostToKeyboardCommand}
use Rattle.ps2_bytes.specs.declared.data.ScancodeSet.{ScancodeSet}
use Rattle.ps2_bytes.specs.declared.data.ScancodeSet.TheVariants.{Set1, Set2, Set3}
use Rattle.ps2_bytes.specs.Commands.{to_keyboard_commands}
use Rattle.ps2_bytes.specs.Data.{scancode_set_byte}

-- A command to the keyboard, by its byte.
abbrev pub command_at : ℕ → Option HostToKeyboardCommand
command_at n = decode some none to_keyboard_commands n

-- "F0 and its byte .. 1 to 3 set it": a scancode set, by its number.
abbrev pub set_numbers : List (ℕ × ScancodeSet)
set_numbers = rows scancode_set_byte (Set1 ∷ Set2 ∷ Set3 ∷ [])

abbrev pub scancode_set_at : ℕ → Option ScancodeSet
scancode_set_at n = decode some none set_numbers n

-- The three lamps, "scroll 1, number 2, caps 4 added": 0 to 7.
abbrev pub lamps_limit : ℕ
lamps_limit = 8

abbrev pub lamps_at : ℕ → Option LEDState
lamps_at n = cond (ltb n lamps_limit) (some (record { bits = n })) none

-- Any byte.
abbrev pub byte_limit : ℕ
byte_limit = 256

abbrev pub byte_at : ℕ → Option ℕ
byte_at n = cond (ltb n byte_limit) (some n) none
