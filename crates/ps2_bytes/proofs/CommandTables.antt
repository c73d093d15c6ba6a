-- The tables of commands list no byte twice, and which of their commands are never sent.
use mathlib.Core.Bool.{Bool, false, cond, ◌||◌}
use mathlib.Core.List.{List, [], ◌∷◌}
use mathlib.Core.Path.{◌≡◌, refl}
use Prim.Native.Nat.{ℕ}
use Prim.Native.String.{String}
use lib.Dec.{T, eqb}
use Rattle.bits.specs.Table.{ascending}
use Rattle.ps2_bytes.specs.declared.command.HostToControllerCommand.TheVariants as Controller
use Rattle.ps2_bytes.specs.declared.command.HostToKeyboardCommand.TheVariants as Keyboard
use Rattle.ps2_bytes.specs.declared.command.HostToMouseCommand.TheVariants as Mouse
use Rattle.ps2_bytes.specs.Commands.{controller_commands, controller_byte, controller_unsent, keyboard_commands, keyboard_byte, keyboard_unsent, mouse_commands, mouse_byte, mouse_unsent}

pub controller_ascending : T (ascending 0 controller_commands)
controller_ascending = tt

pub keyboard_ascending : T (ascending 0 keyboard_commands)
keyboard_ascending = tt

pub mouse_ascending : T (ascending 0 mouse_commands)
mouse_ascending = tt

-- ---- what is not sent

-- whether one of these commands has this byte
abbrev pub is_sent : {A : Type 0} → (A → ℕ) → List A → ℕ → Bool
is_sent byte [] b = false
is_sent byte (a ∷ commands) b = eqb b (byte a) || is_sent byte commands b

-- the bytes of a table that none of these commands has
abbrev pub unsent : {A : Type 0} → (A → ℕ) → List A → List (ℕ × String) → List ℕ
unsent byte commands [] = []
unsent byte commands (row ∷ rows) = cond (is_sent byte commands row.0) (unsent byte commands rows) (row.0 ∷ unsent byte commands rows)

pub controller_unsent_lem : unsent controller_byte
    (Controller.ReadFromInternalRAMByte0 ∷ Controller.WriteToInternalRAMByte0 ∷ Controller.DisablePort2 ∷ Controller.EnablePort2 ∷ Controller.TestPort2 ∷
    Controller.TestController ∷ Controller.TestPort1 ∷ Controller.DisablePort1 ∷ Controller.EnablePort1 ∷ Controller.WriteByteToPort2InputBuffer ∷ [])
    controller_commands
    ≡ controller_unsent
controller_unsent_lem = refl

pub keyboard_unsent_lem : unsent keyboard_byte
    (Keyboard.SetLEDStatus ∷ Keyboard.ScancodeSet ∷ Keyboard.IdentifyKeyboard ∷ Keyboard.SetRepeatRateAndDelay ∷ Keyboard.EnableScanning ∷
    Keyboard.DisableScanning ∷ Keyboard.ResendByte ∷ Keyboard.ResetAndStartSelfTest ∷ [])
    keyboard_commands
    ≡ keyboard_unsent
keyboard_unsent_lem = refl

pub mouse_unsent_lem : unsent mouse_byte
    (Mouse.SetScaling ∷ Mouse.SetResolution ∷ Mouse.StatusRequest ∷ Mouse.SetStreamMode ∷ Mouse.ReadData ∷ Mouse.ResetWrapMode ∷ Mouse.SetWrapMode ∷
    Mouse.SetRemoteMode ∷ Mouse.GetDeviceID ∷ Mouse.SampleRate ∷ Mouse.EnableDataReporting ∷ Mouse.DisableDataReporting ∷ Mouse.SetDefaults ∷
    Mouse.ResendByte ∷ Mouse.Reset ∷ [])
    mouse_commands
    ≡ mouse_unsent
mouse_unsent_lem = refl
