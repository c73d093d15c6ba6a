-- What the answers of the steps' code say of the ends of plays.
use Rattle.std.specs.Prelude.{Bool, ℕ, ◌≡◌, Result}
use Rattle.exchange.specs.Exchange.{told_end}
use Rattle.exchange.specs.Answer.{gives}
use Rattle.exchange.specs.Refuses.{given}
use Rattle.ps2_bytes.specs.declared.command.HostToControllerCommand.{HostToControllerCommand}
use Rattle.ps2_bytes.specs.declared.command.HostToControllerCommand.TheVariants.{EnablePort1, EnablePort2}
use Rattle.ps2_layouts.specs.Configuration.{port1_interrupt, port2_interrupt, port1_clock_disabled, port2_clock_disabled}
use Rattle.ps2_ports.specs.declared.DevicePort.{DevicePort}
use Rattle.ps2_ports.specs.declared.DevicePort.TheVariants.{Port1, Port2}
use Rattle.ps2_answers.specs.declared.Counted.{Counted}
use Rattle.ps2_answers.specs.declared.Refusal.{Refusal}
use Rattle.ps2_answers.specs.Refusals.{Success}
use Rattle.ps2_answers.specs.Answers.{ended, used_of, pairs_of}

-- ---- steps whose failure is forgiven

-- "2 and 3 are replaced by nothing, forgiven by nothing.": whether a step worked, where it ended
-- with an answer; its lack, where it lacked something; its counts.
pub record Forgiven (answer : Result (Counted Success) (Counted Refusal))
    (tried : Result (Counted Bool) (Counted Refusal)) : Type 0 where
  pub end : ended tried ≡ told_end gives (told_end given (ended answer))
  pub used : used_of tried ≡ used_of answer
  pub pairs : pairs_of tried ≡ pairs_of answer

-- ---- the two ports

-- "For port 1 passing: AE, clear bit 4, set bit 0; port 2: A8, clear bit 5, set bit 1."
abbrev pub enable_of : DevicePort → HostToControllerCommand
enable_of Port1 = EnablePort1
enable_of Port2 = EnablePort2

abbrev pub clock_of : DevicePort → ℕ
clock_of Port1 = port1_clock_disabled
clock_of Port2 = port2_clock_disabled

abbrev pub interrupt_of : DevicePort → ℕ
interrupt_of Port1 = port1_interrupt
interrupt_of Port2 = port2_interrupt
