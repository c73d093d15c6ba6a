-- `handler_words::handle_key` meets its contract: 21, or the byte is followed and its event queued.
use mathlib.Core.Bool.{not, true}
use mathlib.Core.Path.{ap, ◌≡◌, sym, ◌∙◌}
use borrow.Author.Tests.{not-true, not-false}
use Rattle.keyboard_record.specs.Record.{call_formed}
use Rattle.keyboard_record.proofs.AtSides.{table_with, start_with, count_with}
use Rattle.keyboard_record.proofs.WellFormed.{call_is}
use Rattle.handler_words.specs.Words.{state_of}
use Rattle.handler_words.proofs.Alone.{any_key_in, malformed_alone, handled_alone}
use Rattle.handler_words.proofs.handle_key.Goals as goal
use Rattle.handler_words.proofs.handle_key.Goals.{Else-not-call_formed}

pub returns-then-not-call_formed : goal.returns-then-not-call_formed
returns-then-not-call_formed c =
    let a = c.args in
    malformed_alone a.side a.words.now a.script.now (rw c.state_in-state.ensures at (sym c.call_formed.ensures ∙ not-true _ (ap not c.if-not-call_formed.true))) c.refusing_words.ensures

-- past the first question the record is well formed
well : (c : Else-not-call_formed) → let a = c.args in call_formed a.side (state_of a.words.now) ≡ true
well c = rw c.state_in-state.ensures at (sym c.call_formed.ensures ∙ not-false _ (ap not c.if-not-call_formed.false))

pub queue_key-requires : goal.queue_key-requires
queue_key-requires c =
    let a = c.args in
    let s = state_of a.words.now in
    let t = c.state_in-state.ensures in
    let w = (call_is a.side s (well (goal.at.queue_key-requires c).Else-not-call_formed)).1 in
    ((rw (c.put_keyboard-2.ensures, t, start_with a.side _ s) w.start_in, rw (c.put_keyboard-2.ensures, t, count_with a.side _ s) w.count_in), rw (c.put_keyboard-2.ensures, t, table_with a.side _ s) (any_key_in a.words.now c.requires.0.taken.any_key))

pub returns : goal.returns
returns c =
    let a = c.args in
    let t = c.state_in-state.ensures in
    let flags = rw (c.keyboard_at.ensures, t) at c.modifiers_after-modifiers.ensures in
    let g = c.followed-keyboard.ensures in
    rw c.byte_used.ensures
    (handled_alone a.side a.words.now a.script.now c.told-words (well (goal.at.returns c).Else-not-call_formed) c.requires.0 flags g c.put_keyboard.ensures (rw (t, g) at c.put_keyboard-2.ensures) c.queue_key.ensures)
