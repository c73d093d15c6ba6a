-- `ps2_salvage::salvage` meets its contract: the pass of its identity's length.
use Rattle.std.proofs.Common.{rules}
use Rattle.ps2_salvage.proofs.Pieces.{pieces_of_four}
use Rattle.ps2_salvage.proofs.salvage.Goals as goal

pub returns-in-Three : goal.returns-in-Three
returns-in-Three c = rw (pieces_of_four c.args.id (search rules) c.args.bytes.now) c.pass-in-Three.ensures
