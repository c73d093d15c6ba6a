-- `handler_words::handle_plain` meets its contract: the byte is followed, which changes no flag, and its event queued.
use Rattle.keyboard_scancodes.proofs.Plain.{plain_known}
use Rattle.keyboard_record.proofs.Ready.{ready_says}
use Rattle.keyboard_record.proofs.WellFormed.{WellFormed, call_is}
use Rattle.handler_words.specs.Words.{state_of}
use Rattle.handler_words.proofs.Passing.{ready_passes}
use Rattle.handler_words.proofs.Plain.{plain_handled}
use Rattle.handler_words.proofs.handle_plain.Goals as goal
use Rattle.handler_words.proofs.handle_plain.Goals.{After-state_in-state}

well : (c : After-state_in-state) → WellFormed c.state_in-state.result
well c =
    let s = state_of c.args.words.now in
    rw c.state_in-state.ensures (call_is c.args.side s (ready_says c.args.side s c.requires.ready).0).1

pub state_in-state-requires : goal.state_in-state-requires
state_in-state-requires c = ready_passes c.args.words.now c.args.side c.requires.ready

pub put_key-requires : goal.put_key-requires
put_key-requires c =
    let w = well (goal.at.put_key-requires c).After-state_in-state in
    (plain_known _ c.requires.plain, (w.start_in, w.count_in))

pub returns : goal.returns
returns c =
    let a = c.args in
    let t = c.state_in-state.ensures in
    rw c.byte_used.ensures
    (plain_handled a.side a.words.now a.script.now c.told-words c.requires (rw (c.keyboard_at.ensures, t) at c.followed.ensures) c.put_keyboard.ensures
    (rw (c.keyboard_at.ensures, t) at c.put_key.ensures))
