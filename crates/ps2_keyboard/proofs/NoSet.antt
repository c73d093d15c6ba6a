-- 11: what must have been read before it.
use Prim.Native.Nat.{ℕ}
use mathlib.Core.List.{List}
use mathlib.Core.Path.{◌≡◌}
use Rattle.bits.specs.Bits.{bit}
use Rattle.exchange.specs.Exchange.{done, yields, play}
use Rattle.exchange.specs.Answer.{gives, refuses}
use Rattle.exchange.specs.Repeat.{again}
use Rattle.exchange.specs.Search.{Search, script_after, log_after}
use Rattle.exchange.proofs.Search.{then_refuses, refuses_then_both, gives_then_both}
use Rattle.ps2_bytes.specs.declared.data.ScancodeSet.{ScancodeSet}
use Rattle.ps2_bytes.specs.declared.data.ScancodeSet.TheVariants as Set
use Rattle.ps2_bytes.specs.Data.{scancode_sets}
use Rattle.ps2_layouts.specs.Status.{output_buffer_full}
use Rattle.ps2_answers.specs.Refusals.{success}
use Rattle.ps2_polling.specs.Polling.{poll_limit}
use Rattle.ps2_command.specs.Search.{listed_turn, PollBrings}
use Rattle.ps2_command.proofs.Refuses.{command_refusals}
use Rattle.ps2_command.proofs.Reset.{the_success}
use Rattle.ps2_command.proofs.Search.{listed_refuses_any}
use Rattle.ps2_keyboard.specs.Keyboard.{command_scancode_set, get_scancode_set, set_scancode_set}
use Rattle.ps2_keyboard.proofs.Refuses.{refuses_command_scancode_set}

-- F0 and 00 were accepted, and then none of 65,535 polls brought a byte 0 to 3

pub get_set_refuses : (s l : List ℕ) → (play get_scancode_set s l).end ≡ yields (refuses 11)
    → ((play (command_scancode_set Set.Get) s l).end ≡ yields (gives success))
    × (rest : List ℕ) × Search (PollBrings (bit output_buffer_full) (listed_turn scancode_sets)) poll_limit again (script_after (command_scancode_set Set.Get) s l) rest
unfolding get_scancode_set
get_set_refuses s l h =
    let t = command_scancode_set Set.Get in
    let z = then_refuses t _ s l command_refusals (refuses_command_scancode_set Set.Get) 11 (λ x. x) h in (
      rw (the_success z.0) at z.1.before,
      _,
      listed_refuses_any scancode_sets 11 poll_limit (script_after t s l) (log_after t s l) z.1.after,
    )

-- and 11, as every refusal of the getting, is the answer of the setting that asked for it
pub set_set_refuses : (set : ScancodeSet) (s l : List ℕ) (n : ℕ) → (play (command_scancode_set set) s l).end ≡ yields (gives success)
    → (play get_scancode_set (script_after (command_scancode_set set) s l) (log_after (command_scancode_set set) s l)).end ≡ yields (refuses n)
    → (play (set_scancode_set set) s l).end ≡ yields (refuses n)
unfolding set_scancode_set
set_set_refuses set s l n h k =
    let t = command_scancode_set set in
    gives_then_both t _ s l success (refuses n)
    (record { before = h; after = refuses_then_both get_scancode_set (λ _. done (gives success)) (script_after t s l) (log_after t s l) n k })
