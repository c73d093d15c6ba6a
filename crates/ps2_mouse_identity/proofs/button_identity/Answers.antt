-- `button_identity` meets its contract: the identity that was read, or the old one.
use Rattle.ps2_answers.proofs.Then.{exit, first_steps, first_stops, given_here}
use Rattle.ps2_mouse_identity.specs.Identity.{identity_if_read, button_rates}
use Rattle.ps2_mouse_identity.proofs.Forgives.{given_or, second_grouped}
use Rattle.ps2_mouse_identity.proofs.button_identity.Goals as goal

pub returns-in_err-second : goal.returns-in_err-second
returns-in_err-second c =
    let old = c.args.old in
    rw (exit _ _ c.from_residual.ensures.1) (second_grouped old _ _ (first_stops (identity_if_read button_rates) (given_or old) _ _ _ c.in_err-second.ensures))

pub returns : goal.returns
returns c =
    let old = c.args.old in
    rw (c.with.ensures, c.unwrap_or.ensures)
    (second_grouped old _ _ (given_here _ (first_steps (identity_if_read button_rates) (given_or old) _ _ _ c.in_ok-second.ensures)))
