-- `keyboard::handle_state` meets its contract: 21, or what the record makes of its keyboard's part.
use mathlib.Core.Path.{◌≡◌, refl, sym, ap, ◌∙◌}
use mathlib.Core.Bool.{not}
use borrow.Author.Tests.{not-true}
use Rattle.std.proofs.Common.{rules}
use Rattle.std.specs.Prelude.{Err}
use Rattle.exchange.specs.Answer.{gives}
use Rattle.ps2_answers.specs.Refusals.{success}
use Rattle.keyboard_record.specs.Queue.{place, joined, said_room}
use Rattle.keyboard_record.proofs.WellFormed.{call_is}
use Rattle.keyboard.specs.Answers.{said_call, said_given}
use Rattle.keyboard.specs.KeyboardLamps.{keyboard_lamps}
use Rattle.keyboard.specs.Outcomes.{said_key_effect}
use Rattle.keyboard.proofs.Refused.{malformed_effects, malformed_log}
use Rattle.keyboard.proofs.Effects.{formed_call, event_effects, full_effects, no_event_effects}
use Rattle.keyboard.proofs.handle_state.Goals as goal

pub returns-then-not-call_formed : goal.returns-then-not-call_formed
returns-then-not-call_formed c =
    let a = c.args in
    let f = sym c.call_formed.ensures ∙ not-true _ (ap not c.if-not-call_formed.true) in
    rw c.without_event.ensures
    (sym (malformed_effects keyboard_lamps a.side a.state.now _ _ f), sym (malformed_log keyboard_lamps a.side a.state.now _ _ f))

-- past the first test the record is well formed and the side at the table, so at most 16 bytes of its keyboard wait
pub key_call-effect-requires : goal.key_call-effect-requires
key_call-effect-requires c =
    let a = c.args in
    let q = call_is a.side a.state.now (search rules) in
    rw c.keyboard_at-keyboard.ensures (q.1.at a.side q.0).waiting_in

pub returns-in-Ok : goal.returns-in-Ok
returns-in-Ok c =
    let a = c.args in
    let left = c.put_keyboard.new.self in
    let key = c.in-Some.event.keycode in
    let j : (gives success ≡ place a.side key left) × (c.join.new.self ≡ joined a.side key left) =
    (rw c.in-Ok.is at c.join.ensures.room, c.join.ensures.state) in
    rw c.in-Some.is
    (formed_call a.side a.state.now _ _ (search rules) refl c.port_of.ensures c.keyboard_at-keyboard.ensures c.key_call-effect.ensures
    (event_effects a.side a.state.now (said_key_effect c.key_call-effect.result c.key_call-effect.new.keyboard) c.put_keyboard.ensures (ap (said_given c.key_call-effect.result.call.answer) c.in-Some.is) j))

pub returns-in-Err : goal.returns-in-Err
returns-in-Err c =
    let a = c.args in
    let left = c.put_keyboard.new.self in
    let key = c.in-Some.event.keycode in
    let j : (said_room (Err c.in-Err.full) ≡ place a.side key left) × (c.join.new.self ≡ joined a.side key left) =
    (rw c.in-Err.is at c.join.ensures.room, c.join.ensures.state) in
    formed_call a.side a.state.now _ _ (search rules) refl c.port_of.ensures c.keyboard_at-keyboard.ensures c.key_call-effect.ensures
    (full_effects a.side a.state.now (said_key_effect c.key_call-effect.result c.key_call-effect.new.keyboard) c.put_keyboard.ensures (ap (said_given c.key_call-effect.result.call.answer) c.in-Some.is) c.in-Err.full _ c.from.ensures j)

pub returns-in_default : goal.returns-in_default
returns-in_default c =
    let a = c.args in
    rw c.in_default.is
    (formed_call a.side a.state.now _ _ (search rules) refl c.port_of.ensures c.keyboard_at-keyboard.ensures c.key_call-effect.ensures
    (no_event_effects a.side a.state.now (said_key_effect c.key_call-effect.result c.key_call-effect.new.keyboard) c.put_keyboard.ensures (said_call c.key_call-effect.result.call.answer) (ap (said_given c.key_call-effect.result.call.answer) c.in_default.is)))
