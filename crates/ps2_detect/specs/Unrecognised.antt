-- What a script brings to a keyboard detection that recognises no type.
use Rattle.std.specs.Prelude.{ℕ, List, ◌≡◌}
use Rattle.bits.specs.Bits.{bit}
use Rattle.exchange.specs.Exchange.{yields, play}
use Rattle.exchange.specs.Answer.{gives}
use Rattle.exchange.specs.Repeat.{found, again}
use Rattle.exchange.specs.Search.{Search, script_after, log_after}
use Rattle.ps2_bytes.specs.declared.command.HostToKeyboardCommand.TheVariants.{DisableScanning, IdentifyKeyboard}
use Rattle.ps2_layouts.specs.Status.{output_buffer_full}
use Rattle.ps2_polling.specs.Polling.{poll_limit}
use Rattle.ps2_answers.specs.Refusals.{success}
use Rattle.ps2_command.specs.Search.{listed_turn, PollBrings}
use Rattle.ps2_keyboard.specs.Keyboard.{keyboard_command}
use Rattle.ps2_detect.specs.Detection.{came_ab, first_turn, second_bytes}

-- Neither 00 nor AB came with 65,535 polls; or AB came, and
-- then 41, C1 or 83 did not with 65,535 more.
pub data Unrecognised (script : List ℕ) : Type 0 where
  no_first_byte : {rest : List ℕ}
      → Search (PollBrings (bit output_buffer_full) first_turn) poll_limit again script rest
      → Unrecognised script
  no_second_byte : {inner rest : List ℕ}
      → Search (PollBrings (bit output_buffer_full) first_turn) poll_limit (found came_ab) script
      inner
      → Search (PollBrings (bit output_buffer_full) (listed_turn second_bytes)) poll_limit again
      inner rest → Unrecognised script

-- F5 was accepted, then F2, and what the script brought next is no type.
pub record Undetected (script log : List ℕ) : Type 0 where
  pub stopped : (play (keyboard_command DisableScanning) script log).end ≡ yields (gives success)
  pub asked : (play (keyboard_command IdentifyKeyboard)
      (script_after (keyboard_command DisableScanning) script log)
      (log_after (keyboard_command DisableScanning) script log)).end ≡ yields (gives success)
  pub unrecognised : Unrecognised
      (script_after (keyboard_command IdentifyKeyboard)
      (script_after (keyboard_command DisableScanning) script log)
      (log_after (keyboard_command DisableScanning) script log))
