-- Answers of the controller and of the devices: the byte of each, and what a byte stands for; one
-- that stands for nothing is handed back.
use Rattle.std.specs.Prelude.{List, [], ◌∷◌, ℕ, Result, Ok, Err}
use Rattle.bits.specs.Table.{rows, decode}
use Rattle.ps2_bytes.specs.declared.Unlisted.{Unlisted}
use Rattle.ps2_bytes.specs.declared.response.PortTestResult.{PortTestResult}
use Rattle.ps2_bytes.specs.declared.response.PortTestResult.TheVariants.{Passed, ClockLineStuckLow, ClockLineStuckHigh, DataLineStuckLow, DataLineStuckHigh}
use Rattle.ps2_bytes.specs.declared.response.DeviceToHostResponse.{DeviceToHostResponse}
use Rattle.ps2_bytes.specs.declared.response.DeviceToHostResponse.TheVariants.{KeyDetectionErrorOrInternalBufferOverrun1, SelfTestPassed, ResponseToEcho, Acknowledge, SelfTestFailed1, SelfTestFailed2, ResendCommand, KeyDetectionErrorOrInternalBufferOverrun2}
use Rattle.ps2_bytes.specs.declared.response.MouseId.{MouseId}
use Rattle.ps2_bytes.specs.declared.response.MouseId.TheVariants.{Zero, Three, Four}

-- ---- a port test, commands A9 and AB of "8042 PS/2 Controller"

-- Its answer: 00 passed; 01, 02 clock line stuck low, high; 03, 04 data line stuck low, high.
abbrev pub port_test_result_byte : PortTestResult → ℕ
port_test_result_byte Passed = 0x00
port_test_result_byte ClockLineStuckLow = 0x01
port_test_result_byte ClockLineStuckHigh = 0x02
port_test_result_byte DataLineStuckLow = 0x03
port_test_result_byte DataLineStuckHigh = 0x04

abbrev pub port_test_results : List (ℕ × PortTestResult)
port_test_results =
    rows port_test_result_byte
    (Passed ∷ ClockLineStuckLow ∷ ClockLineStuckHigh ∷ DataLineStuckLow ∷ DataLineStuckHigh ∷ [])

-- A byte as an answer.
abbrev pub port_test_read : ℕ → Result PortTestResult Unlisted
port_test_read b = decode Ok (Err (record { 0 = b })) port_test_results b

-- ---- a device's response, the special bytes of "PS/2 Keyboard"

-- 00 and FF key detection error or buffer overrun; AA self test passed; EE echo; FA acknowledge;
-- FC, FD self test failed; FE resend.
abbrev pub response_byte : DeviceToHostResponse → ℕ
response_byte KeyDetectionErrorOrInternalBufferOverrun1 = 0x00
response_byte SelfTestPassed = 0xAA
response_byte ResponseToEcho = 0xEE
response_byte Acknowledge = 0xFA
response_byte SelfTestFailed1 = 0xFC
response_byte SelfTestFailed2 = 0xFD
response_byte ResendCommand = 0xFE
response_byte KeyDetectionErrorOrInternalBufferOverrun2 = 0xFF

abbrev pub responses : List (ℕ × DeviceToHostResponse)
responses =
    rows response_byte
    (KeyDetectionErrorOrInternalBufferOverrun1 ∷ SelfTestPassed ∷ ResponseToEcho ∷ Acknowledge
    ∷ SelfTestFailed1 ∷ SelfTestFailed2 ∷ ResendCommand ∷ KeyDetectionErrorOrInternalBufferOverrun2
    ∷ [])

-- A byte as a response.
abbrev pub response_read : ℕ → Result DeviceToHostResponse Unlisted
response_read b = decode Ok (Err (record { 0 = b })) responses b

-- ---- a mouse's identity, "PS/2 Mouse"

-- 00 standard mouse; 03 mouse with wheel; 04 five-button mouse.
abbrev pub mouse_id_byte : MouseId → ℕ
mouse_id_byte Zero = 0
mouse_id_byte Three = 3
mouse_id_byte Four = 4

abbrev pub mouse_ids : List (ℕ × MouseId)
mouse_ids = rows mouse_id_byte (Zero ∷ Three ∷ Four ∷ [])

-- A byte as an identity.
abbrev pub mouse_id_read : ℕ → Result MouseId Unlisted
mouse_id_read b = decode Ok (Err (record { 0 = b })) mouse_ids b
