-- `key_listing::put_refusal` meets its contract: the word and the number of a refusal, which is never 0.
use mathlib.Core.Path.{◌≡◌, refl}
use mathlib.Core.List.{◌++◌}
use Rattle.std.specs.Prelude.{Err}
use Rattle.exchange.specs.Answer.{number_ended}
use Rattle.ps2_answers.specs.declared.Lack.{Lack}
use Rattle.keyboard.specs.declared.HandlerRefusal.{HandlerRefusal}
use Rattle.keyboard.specs.Answers.{said_call}
use Rattle.key_listing.specs.Text.{ascii, decimal}
use Rattle.key_listing.specs.Lines.{refusal_line}
use Rattle.buffer.proofs.Buffer.{puts_none, puts_then}
use Rattle.key_listing.proofs.put_refusal.Goals as goal

line_of : (r : HandlerRefusal) → refusal_line (number_ended (said_call (Err r))) ≡ (ascii "refused " ++ decimal (number_ended (said_call (Err r)))) ++ ascii "\n"
unfolding refusal_line
line_of (HandlerRefusal.Lacking (Lack.Script p)) = refl
line_of (HandlerRefusal.Lacking Lack.Log) = refl
line_of HandlerRefusal.UnknownScancode = refl
line_of HandlerRefusal.QueueFull = refl
line_of HandlerRefusal.MalformedRecord = refl
line_of HandlerRefusal.SideFull = refl
line_of HandlerRefusal.OutsideProfile = refl

pub returns-in-Err : goal.returns-in-Err
returns-in-Err c = rw (c.in-Err.is, line_of c.in-Err.refusal, ← c.number.ensures) (puts_then (puts_then c.put_text.ensures c.put_decimal.ensures) c.put_byte.ensures)

pub returns-in_default : goal.returns-in_default
unfolding refusal_line
returns-in_default c = rw c.in_default.is puts_none
