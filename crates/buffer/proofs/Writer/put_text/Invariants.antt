-- `Writer::put_text` meets its contract: so far it has put as much of the text as the loop has come.
use lib.ListN.{take}
use Rattle.buffer.specs.Writer.{Puts}
use Rattle.buffer.proofs.Writer.put_text.Given as goal

abbrev pub invariant-loop-byte : goal.invariant-loop-byte
invariant-loop-byte l = Puts (take l.byte-index l.text) l.initial.self l.self
