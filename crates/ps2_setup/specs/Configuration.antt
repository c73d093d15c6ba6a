-- The configuration that initialisation writes last.
use Rattle.std.specs.Prelude.{Bool, true, false, ℕ}
use Rattle.exchange.specs.Exchange.{p64, Exchange, write}
use Rattle.ps2_layouts.specs.declared.configuration.ControllerConfigurationByte.{ControllerConfigurationByte}
use Rattle.ps2_layouts.specs.Configuration.{port1_interrupt, port2_interrupt, port1_clock_disabled, port2_clock_disabled}
use Rattle.ps2_setup.specs.declared.WorkingPorts.{WorkingPorts}
use Rattle.ps2_setup.specs.SetUp.{running}

-- A port that passed runs and interrupts; one that failed is left as it is.
abbrev pub running_if : Bool → ℕ → ℕ → ControllerConfigurationByte → ControllerConfigurationByte
running_if true clock interrupt c = running clock interrupt c
running_if false clock interrupt c = c

abbrev pub final_config : WorkingPorts → ControllerConfigurationByte → ControllerConfigurationByte
final_config ports c = running_if ports.port_2_works port2_clock_disabled port2_interrupt
    (running_if ports.port_1_works port1_clock_disabled port1_interrupt c)

-- A controller command that is written only for a port that passed.
abbrev pub written_if : {A : Type 0} → Bool → ℕ → Exchange A → Exchange A
written_if true command rest = write p64 command rest
written_if false command rest = rest
