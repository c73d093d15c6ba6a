-- `ps2_command::command_onto` meets its contract: each turn of the loop is one attempt on what is left, with the bytes kept so far.
use Rattle.exchange.specs.Answer.{refuses}
use Rattle.exchange.specs.Position.{Reached}
use Rattle.exchange.specs.Repeat.{repeat}
use Rattle.ps2_kept.specs.Added.{keeping_onto}
use Rattle.ps2_command.specs.Command.{attempt, command}
use Rattle.ps2_command.proofs.command_onto.Given as goal

abbrev pub invariant-loop-attempts : goal.invariant-loop-attempts
invariant-loop-attempts l =
    Reached (keeping_onto l.initial.kept (command l.value)) l.script l.initial.log (keeping_onto l.kept (repeat l.attempts (refuses 7) (attempt l.value))) l.at.used l.at.pairs l.log

abbrev pub decreases-loop-attempts : goal.decreases-loop-attempts
decreases-loop-attempts l = l.attempts
