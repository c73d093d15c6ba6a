-- `key_listing::put_event` meets its contract: its parts one after another.
use Rattle.buffer.proofs.Buffer.{puts_then}
use Rattle.key_listing.specs.Lines.{event_line}
use Rattle.key_listing.proofs.put_event.Goals as goal

pub returns : goal.returns
unfolding event_line
returns c =
    rw (← c.from.ensures, ← c.to_ascii.ensures)
    (puts_then (puts_then (puts_then (puts_then (puts_then (puts_then (puts_then
    c.put_two_digits.ensures c.put_byte.ensures)
    c.put_action.ensures) c.put_byte-2.ensures)
    c.put_three_digits.ensures) c.put_byte-3.ensures)
    c.put_character.ensures) c.put_byte-4.ensures)
