-- `write` meets its contract: the pair lies in its place, and is counted once.
use native.Mathlib.Omega.{arith}
use Rattle.std.proofs.lemmas.Grind.{common_steps}
use Rattle.std.proofs.Common.{◌≡◌, length, ◌/◌, true, false}
use lib.Dec.{ltb}
use Rattle.exchange.specs.Exchange.{number}
use Rattle.theseus_ps2.specs.Ports.{io_port}
use Rattle.theseus_ps2.proofs.Paired.{pair_put}
use Rattle.theseus_ps2.proofs.recording.RecordingHardware.write.Goals as goal

pub returns-after-port : goal.returns-after-port
returns-after-port c =
    let s = c.args.self.now in
    let port : c.match-port.self ≡ number (io_port c.args.port) = grind (arith, common_steps) in
    let short : s.short ≡ false = grind (arith, common_steps) in
    let room : ltb s.pairs (length s.log.now / 2) ≡ true = grind (arith, common_steps) in
    pair_put s (io_port c.args.port) c.args.value port short room
