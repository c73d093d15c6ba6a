-- `report::sessions::pass` meets its contract: up to each packet the movements are summed.
use mathlib.Core.Path.{◌≡◌}
use Prim.Native.Nat.{◌*◌}
use Rattle.ps2_bytes.specs.declared.response.MouseId.{MouseId}
use Rattle.ps2_packet.specs.Packet.{packet_length}
use Rattle.report.proofs.Summing.{Summing}
use Rattle.report.proofs.sessions.pass.Given as goal

-- for an identity whose packets are so long
abbrev pub invariant-loop-i : goal.invariant-loop-i
invariant-loop-i g l = (id : MouseId) → packet_length id ≡ g.row.N → Summing id l.bytes (l.i * g.row.N) l.i l.x l.y
