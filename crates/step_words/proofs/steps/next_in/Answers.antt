-- `next_in` meets its contract.
use Rattle.step_words.specs.Sessions.{kept_in}
use Rattle.step_words.proofs.Left.{unthrown_writing, unthrown_sending, unthrown_submitting, thrown_seeking}
use Rattle.step_words.proofs.steps.next_in.Goals as goal

pub returns-in-Writing : goal.returns-in-Writing
returns-in-Writing c =
    c.advance.ensures c.args.counts.now c.args.bytes.now c.args.counts.now c.args.bytes.now
    (unthrown_writing (kept_in c.args.counts.now c.args.bytes.now) c.args.byte c.in-Some.session.at c.in-Writing.field-0 c.in-Writing.field-1 c.in-Writing.is)

pub returns-in-Sending : goal.returns-in-Sending
returns-in-Sending c =
    c.advance-in-Sending.ensures c.args.counts.now c.args.bytes.now c.args.counts.now c.args.bytes.now
    (unthrown_sending (kept_in c.args.counts.now c.args.bytes.now) c.args.byte c.in-Some.session.at c.in-Sending.field-0 c.in-Sending.field-1 c.in-Sending.is)

pub returns-in-Submitting : goal.returns-in-Submitting
returns-in-Submitting c =
    c.advance-in-Submitting.ensures c.args.counts.now c.args.bytes.now c.args.counts.now c.args.bytes.now
    (unthrown_submitting (kept_in c.args.counts.now c.args.bytes.now) c.args.byte c.in-Some.session.at c.in-Submitting.field-0 c.in-Submitting.is)

pub returns-in-Seeking : goal.returns-in-Seeking
returns-in-Seeking c =
    c.advance-in-Seeking.ensures c.args.counts.now c.args.bytes.now c.note.new.counts c.note.new.bytes
    (thrown_seeking (kept_in c.args.counts.now c.args.bytes.now) c.args.byte c.in-Some.session.at (kept_in c.note.new.counts c.note.new.bytes) c.wanted_at.result c.wanted_at.ensures c.note.ensures)
