-- Sending and receiving by polling, and the configuration, by numbers.
use Rattle.std.specs.Prelude.{ℕ}
use Rattle.exchange.specs.Exchange.{Exchange, End, told_end}
use Rattle.exchange.specs.Answer.{Answer}
use Rattle.exchange.specs.Keeping.{Kept}
use Rattle.ps2_layouts.specs.declared.configuration.ControllerConfigurationByte.{ControllerConfigurationByte}
use Rattle.ps2_bytes.specs.declared.data.ScancodeSet.{ScancodeSet}
use Rattle.ps2_bytes.specs.declared.response.DeviceToHostResponse.{DeviceToHostResponse}
use Rattle.ps2_bytes.specs.declared.writable.HostToDevice.{HostToDevice}
use Rattle.ps2_bytes.specs.declared.writable.HostToKeyboardCommandOrData.{HostToKeyboardCommandOrData}
use Rattle.ps2_bytes.specs.Responses.{response_byte}
use Rattle.ps2_answers.specs.Refusals.{Success}
use Rattle.ps2_kept.specs.declared.KeptBytes.{KeptBytes}
use Rattle.ps2_polling.specs.Polling.{polling_send}
use Rattle.port_words.specs.Told.{told}
use Rattle.port_words.specs.ToldKept.{bytes_kept}
use Rattle.test_calls.specs.declared.polling.ReceivedWords.{ReceivedWords}

-- The configuration is told by its byte.
abbrev pub configuration_value : ControllerConfigurationByte → ℕ
configuration_value c = c.bits

-- A scancode set, sent to the keyboard.
abbrev pub sending_set : ScancodeSet → Exchange (Answer Success)
sending_set set = polling_send (HostToDevice.Keyboard (HostToKeyboardCommandOrData.ScancodeSet set))

-- A response by its byte, with the bytes that were thrown away before it.
abbrev pub told_received : End (Kept KeptBytes (Answer DeviceToHostResponse)) → ℕ → ℕ
    → ReceivedWords
told_received end used pairs =
    record {
      answer = told response_byte (told_end (λ v. v.value) end) used pairs;
      count = (bytes_kept end).count;
      others = (bytes_kept end).others;
      bytes = (bytes_kept end).bytes;
    }
