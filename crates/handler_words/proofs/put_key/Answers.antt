-- `handler_words::put_key` meets its contract.
use mathlib.Core.Path.{sym, ap, ◌∙◌}
use mathlib.Core.Option.{some}
use Rattle.handler_words.specs.Words.{event_at}
use Rattle.handler_words.proofs.put_key.Goals as goal

pub returns : goal.returns
returns c =
    let w = c.key_word.ensures in
    (rw (w.0, c.with_side.ensures) at c.put_place.ensures, ap some (ap event_at (sym w.0) ∙ w.1))
