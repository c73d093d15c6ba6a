-- `poll_scancode_set` meets its contract: the loop has so many polls of the definition's repetition left.
use Rattle.std.proofs.Common.{◌≡◌, ◌-◌}
use Rattle.exchange.specs.Answer.{refuses}
use Rattle.exchange.specs.Repeat.{repeat}
use Rattle.ps2_bytes.specs.Data.{scancode_sets}
use Rattle.ps2_polling.specs.Polling.{poll}
use Rattle.ps2_command.specs.Search.{listed_turn}
use Rattle.theseus_ps2.specs.Hardware.{run}
use Rattle.theseus_ps2.specs.Controller.{on_controller}
use Rattle.ps2_keyboard.specs.Parts.{set_search}
use Rattle.theseus_ps2.proofs.PS2Keyboard.poll_scancode_set.Given as goal

abbrev pub invariant-loop : goal.invariant-loop
invariant-loop g l =
    (l.self.controller.ghost_name ≡ l.initial.self.controller.ghost_name)
    × (run (on_controller g.H.Hardware.device) set_search l.initial.self.controller.now
    ≡ run (on_controller g.H.Hardware.device) (repeat (65535 - l.counter) (refuses 11) (poll (listed_turn scancode_sets))) l.self.controller.now)
