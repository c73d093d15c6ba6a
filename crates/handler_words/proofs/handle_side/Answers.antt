-- `handler_words::handle_side` meets its contract.
use mathlib.Core.Path.{sym, ◌∙◌}
use Rattle.handler_words.proofs.Alone.{malformed_alone}
use Rattle.handler_words.proofs.Calls.{placed, left_alone, written}
use Rattle.handler_words.proofs.Passing.{uncalled}
use Rattle.handler_words.proofs.handle_side.Goals as goal

pub returns-then-not-sides_pass : goal.returns-then-not-sides_pass
returns-then-not-sides_pass c =
    let a = c.args in
    (malformed_alone a.side a.words.now a.script.now (uncalled a.words.now a.side (sym c.sides_pass.ensures ∙ c.if-not-sides_pass.true)) c.refusing_words.ensures).with_any _

-- none waited, and a key's byte was followed
pub returns-then-is_key_alone : goal.returns-then-is_key_alone
returns-then-is_key_alone c = c.handle_key.ensures.with_any _

pub returns-then-leaves_as_passed : goal.returns-then-leaves_as_passed
returns-then-leaves_as_passed c =
    let a = c.args in
    left_alone a.side a.words.now a.script.now a.log.now c.handle_state-effect.result c.state_in-state.ensures c.handle_state-effect.ensures (c.from.ensures ∙ c.number_of.ensures) c.lamps_number.ensures c.port_lacked.ensures
    (sym c.leaves_as_passed.ensures ∙ c.if-leaves_as_passed.true)

pub put_new-requires : goal.put_new-requires
put_new-requires c =
    let a = c.args in
    placed a.side a.words.now a.script.now a.log.now c.handle_state-effect.result c.state_in-state.ensures c.handle_state-effect.ensures

pub returns : goal.returns
returns c =
    let a = c.args in
    written a.side a.words.now a.script.now a.log.now c.handle_state-effect.result c.state_in-state.ensures c.handle_state-effect.ensures (c.from.ensures ∙ c.number_of.ensures) c.lamps_number.ensures c.port_lacked.ensures c.told-words
    (sym c.leaves_as_passed.ensures ∙ c.if-leaves_as_passed.false) c.keyboard_at.ensures c.put_keyboard.ensures c.put_new.ensures
