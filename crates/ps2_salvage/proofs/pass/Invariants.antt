-- `ps2_salvage::pass` meets its contract: at each turn the pass is under way (`Going`), and what ends it ends the definition's.
use Prim.Native.Nat.{◌-◌, ◌≤◌}
use lib.ListN.{length}
use Rattle.ps2_salvage.proofs.Going.{Going}
use Rattle.ps2_salvage.proofs.pass.Given as goal

abbrev pub invariant-loop-used : goal.invariant-loop-used
invariant-loop-used g l =
    Going g.id l.bytes l.initial.packets l.initial.positions l.packets l.positions l.used l.packet_bytes l.dropped

abbrev pub decreases-loop-used : goal.decreases-loop-used
decreases-loop-used g l = length l.bytes - l.used

-- no whole packet is left
abbrev pub invariant-loop-used-2 : goal.invariant-loop-used-2
invariant-loop-used-2 g l =
    Going g.id l.bytes l.fn.packets l.fn.positions l.packets l.positions l.used l.packet_bytes l.dropped × (l.starts ≤ l.used)

abbrev pub decreases-loop-used-2 : goal.decreases-loop-used-2
decreases-loop-used-2 g l = length l.bytes - l.used
