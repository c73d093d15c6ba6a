-- `write_port` meets its contract: the play of one write, on a log with fewer than two bytes and on one with room.
use native.Mathlib.Omega.{arith}
use mathlib.Core.Path.{refl, sym}
use Rattle.exchange.proofs.Steps.{write_short, write_last}
use Rattle.ps2_ports.specs.Ports.{write_port}
use Rattle.ps2_ports.proofs.write_port.Goals as goal

pub returns-then-log-lt2 : goal.returns-then-log-lt2
unfolding write_port
returns-then-log-lt2 c p h = rw c.new.ensures (record { with_any = λ s. sym (write_short p _ _ s _ (omega arith)); no_bytes = refl })

pub returns : goal.returns
unfolding write_port
returns c p h = record { with_any = λ s. rw h (sym (write_last p _ _ s _ (omega arith))); no_bytes = refl }
