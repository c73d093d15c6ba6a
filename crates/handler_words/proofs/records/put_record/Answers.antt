-- `handler_words::records::put_record` meets its contract.
use mathlib.Core.Path.{◌∙◌}
use mathlib.Core.List.{map}
use Rattle.handler_words.specs.Words.{word_of}
use Rattle.handler_words.proofs.WholeRecords.{state_stored}
use Rattle.handler_words.proofs.records.put_record.Goals as goal

pub returns : goal.returns
returns c =
    let h = c.args.handler.now in
    c.put_events.ensures
    ∙ rw (c.put_keyboard-2.ensures.0, c.put_keyboard.ensures.0) (state_stored h.state c.keyboards_word.ensures c.profile_word.ensures (map word_of h.places) c.args.words.now c.told-words)
