-- `ps2_command::heard` meets its contract: up to each place the polls find nothing.
use Prim.Native.Nat.{◌-◌, ◌≤◌}
use Rattle.ps2_command.proofs.Accepted.{Waits}
use Rattle.ps2_command.proofs.heard.Given as goal

abbrev pub invariant-loop-begin : goal.invariant-loop-begin
invariant-loop-begin l = Waits l.script l.begin × (l.begin ≤ l.polls)

abbrev pub decreases-loop-begin : goal.decreases-loop-begin
decreases-loop-begin l = l.polls - l.begin

abbrev pub invariant-loop-silent : goal.invariant-loop-silent
invariant-loop-silent l = Waits l.script l.silent
