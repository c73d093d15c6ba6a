-- Each byte of a table, decoded, gives back the value that it belongs to.
use mathlib.Core.Path.{◌≡◌, refl}
use Rattle.std.specs.Prelude.{Ok}
use Rattle.bits.specs.Table.{decode}
use Rattle.ps2_bytes.specs.Commands.{keyboard_byte, keyboard_read, mouse_byte, mouse_read}
use Rattle.ps2_bytes.specs.Responses.{port_test_result_byte, port_test_read, response_byte, response_read, mouse_id_byte, mouse_id_read}
use Rattle.ps2_bytes.specs.Data.{scancode_set_byte, scancode_set_read, sample_rate_byte, sample_rate_read, resolution_byte, resolution_read}
use Rattle.ps2_bytes.specs.declared.command.HostToKeyboardCommand.{HostToKeyboardCommand}
use Rattle.ps2_bytes.specs.declared.command.HostToKeyboardCommand.TheVariants as Keyboard
use Rattle.ps2_bytes.specs.declared.command.HostToMouseCommand.{HostToMouseCommand}
use Rattle.ps2_bytes.specs.declared.command.HostToMouseCommand.TheVariants as Mouse
use Rattle.ps2_bytes.specs.declared.response.PortTestResult.{PortTestResult}
use Rattle.ps2_bytes.specs.declared.response.PortTestResult.TheVariants.{Passed, ClockLineStuckLow, ClockLineStuckHigh, DataLineStuckLow, DataLineStuckHigh}
use Rattle.ps2_bytes.specs.declared.response.DeviceToHostResponse.{DeviceToHostResponse}
use Rattle.ps2_bytes.specs.declared.response.DeviceToHostResponse.TheVariants.{KeyDetectionErrorOrInternalBufferOverrun1, SelfTestPassed, ResponseToEcho, Acknowledge, SelfTestFailed1, SelfTestFailed2, ResendCommand, KeyDetectionErrorOrInternalBufferOverrun2}
use Rattle.ps2_bytes.specs.declared.response.MouseId.{MouseId}
use Rattle.ps2_bytes.specs.declared.response.MouseId.TheVariants.{Zero, Three, Four}
use Rattle.ps2_bytes.specs.declared.data.ScancodeSet.{ScancodeSet}
use Rattle.ps2_bytes.specs.declared.data.ScancodeSet.TheVariants.{Get, Set1, Set2, Set3}
use Rattle.ps2_bytes.specs.declared.data.MouseSampleRate.{MouseSampleRate}
use Rattle.ps2_bytes.specs.declared.data.MouseSampleRate.TheVariants.{_10, _20, _40, _60, _80, _100, _200}
use Rattle.ps2_bytes.specs.declared.data.MouseResolution.{MouseResolution}
use Rattle.ps2_bytes.specs.declared.data.MouseResolution.TheVariants.{Count1PerMm, Count2PerMm, Count4PerMm, Count8PerMm}

pub keyboard_read_back : (v : HostToKeyboardCommand) → keyboard_read (keyboard_byte v) ≡ Ok v
unfolding decode
keyboard_read_back Keyboard.SetLEDStatus = refl
keyboard_read_back Keyboard.ScancodeSet = refl
keyboard_read_back Keyboard.IdentifyKeyboard = refl
keyboard_read_back Keyboard.SetRepeatRateAndDelay = refl
keyboard_read_back Keyboard.EnableScanning = refl
keyboard_read_back Keyboard.DisableScanning = refl
keyboard_read_back Keyboard.ResendByte = refl
keyboard_read_back Keyboard.ResetAndStartSelfTest = refl

pub mouse_read_back : (v : HostToMouseCommand) → mouse_read (mouse_byte v) ≡ Ok v
unfolding decode
mouse_read_back Mouse.SetScaling = refl
mouse_read_back Mouse.SetResolution = refl
mouse_read_back Mouse.StatusRequest = refl
mouse_read_back Mouse.SetStreamMode = refl
mouse_read_back Mouse.ReadData = refl
mouse_read_back Mouse.ResetWrapMode = refl
mouse_read_back Mouse.SetWrapMode = refl
mouse_read_back Mouse.SetRemoteMode = refl
mouse_read_back Mouse.GetDeviceID = refl
mouse_read_back Mouse.SampleRate = refl
mouse_read_back Mouse.EnableDataReporting = refl
mouse_read_back Mouse.DisableDataReporting = refl
mouse_read_back Mouse.SetDefaults = refl
mouse_read_back Mouse.ResendByte = refl
mouse_read_back Mouse.Reset = refl

pub port_test_read_back : (v : PortTestResult) → port_test_read (port_test_result_byte v) ≡ Ok v
unfolding decode
port_test_read_back Passed = refl
port_test_read_back ClockLineStuckLow = refl
port_test_read_back ClockLineStuckHigh = refl
port_test_read_back DataLineStuckLow = refl
port_test_read_back DataLineStuckHigh = refl

pub response_read_back : (v : DeviceToHostResponse) → response_read (response_byte v) ≡ Ok v
unfolding decode
response_read_back KeyDetectionErrorOrInternalBufferOverrun1 = refl
response_read_back SelfTestPassed = refl
response_read_back ResponseToEcho = refl
response_read_back Acknowledge = refl
response_read_back SelfTestFailed1 = refl
response_read_back SelfTestFailed2 = refl
response_read_back ResendCommand = refl
response_read_back KeyDetectionErrorOrInternalBufferOverrun2 = refl

pub mouse_id_read_back : (v : MouseId) → mouse_id_read (mouse_id_byte v) ≡ Ok v
unfolding decode
mouse_id_read_back Zero = refl
mouse_id_read_back Three = refl
mouse_id_read_back Four = refl

pub scancode_set_read_back : (v : ScancodeSet) → scancode_set_read (scancode_set_byte v) ≡ Ok v
unfolding decode
scancode_set_read_back Get = refl
scancode_set_read_back Set1 = refl
scancode_set_read_back Set2 = refl
scancode_set_read_back Set3 = refl

pub sample_rate_read_back : (v : MouseSampleRate) → sample_rate_read (sample_rate_byte v) ≡ Ok v
unfolding decode
sample_rate_read_back _10 = refl
sample_rate_read_back _20 = refl
sample_rate_read_back _40 = refl
sample_rate_read_back _60 = refl
sample_rate_read_back _80 = refl
sample_rate_read_back _100 = refl
sample_rate_read_back _200 = refl

pub resolution_read_back : (v : MouseResolution) → resolution_read (resolution_byte v) ≡ Ok v
unfolding decode
resolution_read_back Count1PerMm = refl
resolution_read_back Count2PerMm = refl
resolution_read_back Count4PerMm = refl
resolution_read_back Count8PerMm = refl
