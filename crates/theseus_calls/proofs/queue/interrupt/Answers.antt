-- It tells what the handler leaves.
use mathlib.Core.Path.{◌∙◌}
use mathlib.Core.Path.{ap}
use mathlib.Core.List.{List}
use Prim.Native.Nat.{ℕ}
use Rattle.std.specs.Borrow.{MutBor}
use Rattle.theseus_keycodes.specs.Flags.{renumbered}
use Rattle.theseus_keyboard.specs.Handler.{our_events}
use Rattle.theseus_calls.specs.Interrupts.{waiting_in}
use Rattle.theseus_calls.proofs.Interrupts.{interrupted_lent}
use Rattle.theseus_calls.proofs.queue.interrupt.Goals as goal

pub returns-clause-told : goal.returns-clause-told
returns-clause-told c =
    record {
      begun = c.begun-controller.result;
      left = c.interrupted.new.controller;
      prefix_left = c.interrupted.new.extended;
      flags_left = c.interrupted.new.modifiers.bits;
      queue = c.interrupted.new.queue;
      before = c.filled-queue.result;
      starts = c.begun-controller.ensures.starts;
      filled_are = c.filled-queue.ensures;
      interrupted = c.interrupted.ensures;
      answered = c.run_of.ensures.words ∙ c.interrupt_words-words.ensures;
      logged = ap (λ (l : MutBor (List ℕ)). l.now) c.run_of.ensures.log;
    }

pub returns-clause-same_log : goal.returns-clause-same_log
returns-clause-same_log c =
    ap (λ (l : MutBor (List ℕ)). l.ghost_name) c.run_of.ensures.log
    ∙ interrupted_lent c.begun-controller.result _ c.args.prefix _ (renumbered c.args.flags) _ (our_events (waiting_in c.filled-queue.result)) _ c.interrupted.ensures
    ∙ c.begun-controller.ensures.same_log
