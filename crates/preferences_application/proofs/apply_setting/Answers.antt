-- `preferences_application::apply_setting` meets its contract: each arm is its setting's operation.
use Rattle.ps2_kept.proofs.Contracts.{plays_forgets}
use Rattle.preferences_application.specs.Application.{apply_setting}
use Rattle.preferences_application.proofs.Turns.{plays_as}
use Rattle.preferences_application.proofs.apply_setting.Goals as goal

pub returns-in-ScancodeSet : goal.returns-in-ScancodeSet
unfolding apply_setting
returns-in-ScancodeSet c = plays_as _ _ c.in-ScancodeSet.is c.set_keyboard_scancode_set.ensures

pub returns-in-SamplingRate : goal.returns-in-SamplingRate
unfolding apply_setting
returns-in-SamplingRate c = plays_as _ _ c.in-SamplingRate.is c.set_mouse_sampling_rate.ensures

pub returns-in-Resolution : goal.returns-in-Resolution
unfolding apply_setting
returns-in-Resolution c = plays_as _ _ c.in-Resolution.is c.mouse_resolution.ensures

pub returns-in-Lamps : goal.returns-in-Lamps
unfolding apply_setting
returns-in-Lamps c = plays_as _ _ c.in-Lamps.is (plays_forgets _ c.set_keyboard_led.ensures)

pub returns-in-RepeatRateAndDelay : goal.returns-in-RepeatRateAndDelay
unfolding apply_setting
returns-in-RepeatRateAndDelay c = plays_as _ _ c.in-RepeatRateAndDelay.is c.set_keyboard_repeat.ensures
