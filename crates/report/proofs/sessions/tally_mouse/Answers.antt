-- `report::sessions::tally_mouse` meets its contract: the pass of packets that are as long as those of its identity.
use mathlib.Core.Path.{ap}
use mathlib.Core.Logic.{⊎_elim}
use Rattle.ps2_packet.specs.Packet.{packet_length}
use Rattle.report.proofs.sessions.tally_mouse.Goals as goal

pub returns-in-Three : goal.returns-in-Three
returns-in-Three c = c.pass-in-Three.ensures c.args.id (⊎_elim (λ e. ap packet_length e) (λ e. ap packet_length e) c.in-Three.is)
