-- `ControllerConfigurationByte::port2_clock_disabled` meets its contract: the bit that is asked for is the one that the table of the configuration names.
use Rattle.ps2_layouts.proofs.configuration.ControllerConfigurationByte.port2_clock_disabled.Goals as goal

pub returns : goal.returns
returns c = c.has.ensures
