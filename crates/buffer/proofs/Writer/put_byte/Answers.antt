-- `Writer::put_byte` meets its contract: a byte at the next place, or nothing.
use mathlib.Core.Path.{refl}
use Rattle.buffer.proofs.Buffer.{put_room, put_full}
use Rattle.buffer.proofs.Writer.put_byte.Goals as goal

pub returns-then-self : goal.returns-then-self
returns-then-self c = record { puts = put_room _ _ _ c.if-self.true; same_buffer = (refl, refl) }

pub returns-else-self : goal.returns-else-self
returns-else-self c = record { puts = put_full _ _ _ c.if-self.false; same_buffer = (refl, refl) }
