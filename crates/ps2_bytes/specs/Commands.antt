-- Commands: the bytes of the OSDev wiki's tables, which row of them each of our commands is, and
-- which command to a device a byte stands for.
use Rattle.std.specs.Prelude.{List, [], ◌∷◌, ℕ, Result, Ok, Err}
use Prim.Native.String.{String}
use Rattle.bits.specs.Table.{rows, decode, listed}
use Rattle.ps2_bytes.specs.declared.Unlisted.{Unlisted}
use Rattle.ps2_bytes.specs.declared.command.HostToControllerCommand.{HostToControllerCommand}
use Rattle.ps2_bytes.specs.declared.command.HostToControllerCommand.TheVariants.{ReadFromInternalRAMByte0, WriteToInternalRAMByte0, DisablePort2, EnablePort2, TestPort2, TestController, TestPort1, DisablePort1, EnablePort1, WriteByteToPort2InputBuffer}
use Rattle.ps2_bytes.specs.declared.command.HostToKeyboardCommand.{HostToKeyboardCommand}
use Rattle.ps2_bytes.specs.declared.command.HostToKeyboardCommand.TheVariants.{SetLEDStatus, ScancodeSet, IdentifyKeyboard, SetRepeatRateAndDelay, EnableScanning, DisableScanning, ResendByte, ResetAndStartSelfTest}
use Rattle.ps2_bytes.specs.declared.command.HostToMouseCommand.{HostToMouseCommand}
use Rattle.ps2_bytes.specs.declared.command.HostToMouseCommand.TheVariants.{SetScaling, SetResolution, StatusRequest, SetStreamMode, ReadData, ResetWrapMode, SetWrapMode, SetRemoteMode, GetDeviceID, SampleRate, EnableDataReporting, DisableDataReporting, SetDefaults, ResendByte as MouseResendByte, Reset}

-- ---- the controller, "8042 PS/2 Controller"

-- Its table of commands. Left out are the ranges: 21 to 3F and 61 to 7F (other bytes of internal
-- RAM) and F0 to FF (pulses of output lines).
abbrev pub controller_commands : List (ℕ × String)
controller_commands =
    (0x20, "read byte 0 of internal RAM")
    ∷ (0x60, "write the next data byte to byte 0 of internal RAM")
    ∷ (0xA7, "disable the second port")
    ∷ (0xA8, "enable the second port")
    ∷ (0xA9, "test the second port")
    ∷ (0xAA, "test the controller")
    ∷ (0xAB, "test the first port")
    ∷ (0xAC, "diagnostic dump")
    ∷ (0xAD, "disable the first port")
    ∷ (0xAE, "enable the first port")
    ∷ (0xC0, "read the controller's input port")
    ∷ (0xC1, "copy bits 0 to 3 of the input port to status bits 4 to 7")
    ∷ (0xC2, "copy bits 4 to 7 of the input port to status bits 4 to 7")
    ∷ (0xD0, "read the controller's output port")
    ∷ (0xD1, "write the next data byte to the controller's output port")
    ∷ (0xD2, "write the next data byte to the first port's output buffer")
    ∷ (0xD3, "write the next data byte to the second port's output buffer")
    ∷ (0xD4, "send the next data byte to the second port's device")
    ∷ []

-- The byte of a command is the one listed for its row.
abbrev pub controller_byte : HostToControllerCommand → ℕ
controller_byte ReadFromInternalRAMByte0 = listed controller_commands "read byte 0 of internal RAM"
controller_byte WriteToInternalRAMByte0 =
    listed controller_commands "write the next data byte to byte 0 of internal RAM"
controller_byte DisablePort2 = listed controller_commands "disable the second port"
controller_byte EnablePort2 = listed controller_commands "enable the second port"
controller_byte TestPort2 = listed controller_commands "test the second port"
controller_byte TestController = listed controller_commands "test the controller"
controller_byte TestPort1 = listed controller_commands "test the first port"
controller_byte DisablePort1 = listed controller_commands "disable the first port"
controller_byte EnablePort1 = listed controller_commands "enable the first port"
controller_byte WriteByteToPort2InputBuffer =
    listed controller_commands "send the next data byte to the second port's device"

-- ---- the keyboard, "PS/2 Keyboard"

-- Its table of commands. Left out is the range F7 to FD
-- (repeat and release of keys, scan code set 3 only).
abbrev pub keyboard_commands : List (ℕ × String)
keyboard_commands =
    (0xED, "set LEDs")
    ∷ (0xEE, "echo")
    ∷ (0xF0, "get or set the scan code set")
    ∷ (0xF2, "identify")
    ∷ (0xF3, "set typematic rate and delay")
    ∷ (0xF4, "enable scanning")
    ∷ (0xF5, "disable scanning")
    ∷ (0xF6, "set default parameters")
    ∷ (0xFE, "resend the last byte")
    ∷ (0xFF, "reset and self test")
    ∷ []

-- The byte of a command is the one listed for its row.
abbrev pub keyboard_byte : HostToKeyboardCommand → ℕ
keyboard_byte SetLEDStatus = listed keyboard_commands "set LEDs"
keyboard_byte ScancodeSet = listed keyboard_commands "get or set the scan code set"
keyboard_byte IdentifyKeyboard = listed keyboard_commands "identify"
keyboard_byte SetRepeatRateAndDelay = listed keyboard_commands "set typematic rate and delay"
keyboard_byte EnableScanning = listed keyboard_commands "enable scanning"
keyboard_byte DisableScanning = listed keyboard_commands "disable scanning"
keyboard_byte ResendByte = listed keyboard_commands "resend the last byte"
keyboard_byte ResetAndStartSelfTest = listed keyboard_commands "reset and self test"

abbrev pub to_keyboard_commands : List (ℕ × HostToKeyboardCommand)
to_keyboard_commands =
    rows keyboard_byte
    (SetLEDStatus ∷ ScancodeSet ∷ IdentifyKeyboard ∷ SetRepeatRateAndDelay ∷ EnableScanning
    ∷ DisableScanning ∷ ResendByte ∷ ResetAndStartSelfTest ∷ [])

-- A byte as a command.
abbrev pub keyboard_read : ℕ → Result HostToKeyboardCommand Unlisted
keyboard_read b = decode Ok (Err (record { 0 = b })) to_keyboard_commands b

-- ---- the mouse, "PS/2 Mouse"

-- Its table of commands.
abbrev pub mouse_commands : List (ℕ × String)
mouse_commands =
    (0xE6, "set scaling 1:1")
    ∷ (0xE7, "set scaling 2:1")
    ∷ (0xE8, "set resolution")
    ∷ (0xE9, "status request")
    ∷ (0xEA, "set stream mode")
    ∷ (0xEB, "request one packet")
    ∷ (0xEC, "leave wrap mode")
    ∷ (0xEE, "set wrap mode")
    ∷ (0xF0, "set remote mode")
    ∷ (0xF2, "get identity")
    ∷ (0xF3, "set sample rate")
    ∷ (0xF4, "enable packets")
    ∷ (0xF5, "disable packets")
    ∷ (0xF6, "set defaults")
    ∷ (0xFE, "resend")
    ∷ (0xFF, "reset")
    ∷ []

-- The byte of a command is the one listed for its row. The
-- Rust's one SetScaling is the wiki's scaling 1:1.
abbrev pub mouse_byte : HostToMouseCommand → ℕ
mouse_byte SetScaling = listed mouse_commands "set scaling 1:1"
mouse_byte SetResolution = listed mouse_commands "set resolution"
mouse_byte StatusRequest = listed mouse_commands "status request"
mouse_byte SetStreamMode = listed mouse_commands "set stream mode"
mouse_byte ReadData = listed mouse_commands "request one packet"
mouse_byte ResetWrapMode = listed mouse_commands "leave wrap mode"
mouse_byte SetWrapMode = listed mouse_commands "set wrap mode"
mouse_byte SetRemoteMode = listed mouse_commands "set remote mode"
mouse_byte GetDeviceID = listed mouse_commands "get identity"
mouse_byte SampleRate = listed mouse_commands "set sample rate"
mouse_byte EnableDataReporting = listed mouse_commands "enable packets"
mouse_byte DisableDataReporting = listed mouse_commands "disable packets"
mouse_byte SetDefaults = listed mouse_commands "set defaults"
mouse_byte MouseResendByte = listed mouse_commands "resend"
mouse_byte Reset = listed mouse_commands "reset"

abbrev pub to_mouse_commands : List (ℕ × HostToMouseCommand)
to_mouse_commands =
    rows mouse_byte
    (SetScaling ∷ SetResolution ∷ StatusRequest ∷ SetStreamMode ∷ ReadData ∷ ResetWrapMode
    ∷ SetWrapMode ∷ SetRemoteMode
    ∷ GetDeviceID ∷ SampleRate ∷ EnableDataReporting ∷ DisableDataReporting ∷ SetDefaults
    ∷ MouseResendByte ∷ Reset ∷ [])

-- A byte as a command.
abbrev pub mouse_read : ℕ → Result HostToMouseCommand Unlisted
mouse_read b = decode Ok (Err (record { 0 = b })) to_mouse_commands b

-- ---- what is not sent

-- The wiki's commands that the Rust has none for: diagnosis and the controller's own ports; echo
-- and defaults of the keyboard; the mouse's scaling 2:1.
abbrev pub controller_unsent : List ℕ
controller_unsent = 0xAC ∷ 0xC0 ∷ 0xC1 ∷ 0xC2 ∷ 0xD0 ∷ 0xD1 ∷ 0xD2 ∷ 0xD3 ∷ []

abbrev pub keyboard_unsent : List ℕ
keyboard_unsent = 0xEE ∷ 0xF6 ∷ []

abbrev pub mouse_unsent : List ℕ
mouse_unsent = 0xE7 ∷ []
