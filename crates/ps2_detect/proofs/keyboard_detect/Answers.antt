-- `ps2_detect::keyboard_detect` meets its contract: two commands, then the identification.
use native.Mathlib.Omega.{arith}
use mathlib.Core.Path.{◌≡◌}
use Rattle.exchange.specs.Exchange.{Exchange}
use Rattle.exchange.specs.Answer.{Answer, and_then}
use Rattle.exchange.proofs.Grouping.{and_then_assoc}
use Rattle.exchange.proofs.Counts.{counts}
use Rattle.ps2_bytes.specs.declared.command.HostToKeyboardCommand.TheVariants.{DisableScanning, IdentifyKeyboard}
use Rattle.ps2_answers.specs.Refusals.{Success}
use Rattle.ps2_answers.proofs.Then.{exit, first_steps, first_stops, then_ends}
use Rattle.ps2_keyboard.specs.Keyboard.{command_to_keyboard, keyboard_command}
use Rattle.ps2_kept.proofs.Contracts.{plays_forgets}
use Rattle.ps2_detect.specs.Detection.{keyboard_detect}
use Rattle.ps2_detect.specs.Parts.{identification}
use Rattle.ps2_detect.proofs.keyboard_detect.Goals as goal

-- the two commands by themselves, and what follows them
abbrev pair : Exchange (Answer Success)
pair = and_then (keyboard_command DisableScanning) (λ _. keyboard_command IdentifyKeyboard)

detect_pair : and_then pair (λ _. identification) ≡ keyboard_detect
unfolding keyboard_detect
detect_pair = and_then_assoc (keyboard_command DisableScanning) (λ _. keyboard_command IdentifyKeyboard) (λ _. identification)

pub returns-in_err-asked : goal.returns-in_err-asked
unfolding command_to_keyboard
returns-in_err-asked c =
    rw (exit _ _ c.from_residual.ensures.1)
    (rw detect_pair at
    (first_stops pair (λ _. identification) _ _ c.in_err-asked.field-0.0 (rw c.in_err-asked.was at (plays_forgets _ c.command_pair.ensures))))

pub returns : goal.returns
unfolding command_to_keyboard
returns c =
    rw c.then.ensures
    (rw detect_pair at
    (then_ends (omega (arith, c.well_formed)) (omega (arith, c.well_formed)) c.in_ok-asked.asked identification
    (first_steps pair (λ _. identification) _ _ c.in_ok-asked.asked (rw c.in_ok-asked.was at (plays_forgets _ c.command_pair.ensures))) c.identify.result c.identify.ensures))

pub overflow_mul-tail : goal.overflow_mul-tail
overflow_mul-tail c = search (counts, rw c.in_ok-asked.was at (plays_forgets _ c.command_pair.ensures))

pub slice_bounds-identify-count : goal.slice_bounds-identify-count
slice_bounds-identify-count c = search (counts, rw c.in_ok-asked.was at (plays_forgets _ c.command_pair.ensures))

pub slice_bounds-identify-start : goal.slice_bounds-identify-start
slice_bounds-identify-start c = search (counts, rw c.in_ok-asked.was at (plays_forgets _ c.command_pair.ensures))

pub slice_bounds-identify-count-2 : goal.slice_bounds-identify-count-2
slice_bounds-identify-count-2 c = search (counts, rw c.in_ok-asked.was at (plays_forgets _ c.command_pair.ensures))

pub slice_bounds-identify-start-2 : goal.slice_bounds-identify-start-2
slice_bounds-identify-start-2 c = search (counts, rw c.in_ok-asked.was at (plays_forgets _ c.command_pair.ensures))
