-- Several sessions: joined, and in another order.
use Rattle.std.specs.Prelude.{◌≡◌, List, [], ◌∷◌, ◌++◌}
use Rattle.ps2_packet.specs.Packets.{packets_of, bytes_of}
use Rattle.report.specs.Totals.{Session}

-- "Joined at packet boundaries": what a session's bytes
-- have behind its last whole packet is left out.
abbrev pub join : Session → Session → Session
join s t = record {
  id = s.id;
  events = s.events ++ t.events;
  mouse = bytes_of (packets_of s.id s.mouse) ++ t.mouse;
}

unfoldable pub joined : Session → List Session → Session
joined s [] = s
joined s (t ∷ more) = join s (joined t more)

-- "Sessions of one identity."
pub data OneIdentity : Session → List Session → Type 0 where
  alone : {s : Session} → OneIdentity s []
  and : {s t : Session} {more : List Session} → s.id ≡ t.id → OneIdentity t more
      → OneIdentity s (t ∷ more)

-- The same sessions in another order: two neighbours changed places, any number of times.
pub data Reordered : List Session → List Session → Type 0 where
  same : {ss : List Session} → Reordered ss ss
  behind : {s : Session} {ss ts : List Session} → Reordered ss ts → Reordered (s ∷ ss) (s ∷ ts)
  swapped : {s t : Session} {ss : List Session} → Reordered (s ∷ t ∷ ss) (t ∷ s ∷ ss)
  then : {ss ts us : List Session} → Reordered ss ts → Reordered ts us → Reordered ss us
