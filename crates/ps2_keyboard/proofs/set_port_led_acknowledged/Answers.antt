-- `ps2_keyboard::set_port_led_acknowledged` meets its contract: two commands that are accepted, so no refusal is replaced.
use mathlib.Core.Path.{refl}
use Rattle.ps2_command.proofs.Replaced.{refusing_kept}
use Rattle.ps2_keyboard.specs.Keyboard.{set_led_by, set_port_led}
use Rattle.ps2_keyboard.proofs.set_port_led_acknowledged.Goals as goal

pub returns : goal.returns
unfolding set_port_led set_led_by
returns c =
    let e = c.command_pair_acknowledged.ensures in
    record { writes = e.writes; undone = e.undone; plays = λ done some k. refusing_kept _ _ k (e.plays done some k) refl }
