-- `Writer::put_text` meets its contract: each turn puts one byte more.
use Rattle.std.proofs.lemmas.List.{take_more}
use Rattle.buffer.proofs.Buffer.{puts_none, puts_then}
use Rattle.buffer.proofs.Writer.put_text.Goals as goal

pub loop-byte-init : goal.loop-byte-init
loop-byte-init c = puts_none

pub loop-byte-preserved : goal.loop-byte-preserved
loop-byte-preserved c =
    rw (take_more c.args.text.now c.loop-byte.byte-index 0 c.loop-byte-test.true) (puts_then c.loop-byte.invariant c.put_byte.ensures)
