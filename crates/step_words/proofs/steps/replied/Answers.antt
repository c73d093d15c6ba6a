-- `replied` meets its contract.
use Prim.Native.Nat.{◌+◌, ◌<◌}
use native.Mathlib.Omega.{arith}
use mathlib.Core.Path.{sym, ◌∙◌}
use Rattle.std.specs.Prelude.{take, length}
use Rattle.sessions.specs.Operations.{talk_of}
use Rattle.sessions.specs.Rounds.{rounds}
use Rattle.sessions.proofs.Room.{short, most_asked}
use Rattle.step_words.proofs.Sessions.{parts}
use Rattle.step_words.proofs.Left.{more_known}
use Rattle.step_words.proofs.steps.replied.Goals as goal

pub overflow_add-count : goal.overflow_add-count
overflow_add-count c = omega (arith, (parts c.args.fields.now c.args.session c.requires.session).room)

pub remember-requires : goal.remember-requires
remember-requires c = omega (arith, (parts c.args.fields.now c.args.session c.requires.session).room, c.requires.replies)

pub go_on-requires-clause-room : goal.go_on-requires-clause-room
go_on-requires-clause-room c = λ q h.
    let s : length (take (c.args.session.count + 1) c.remember.new.replies) < 224 =
    short (rounds (talk_of c.args.session.operation)) 224 (take (c.args.session.count + 1) c.remember.new.replies) (most_asked c.args.session.operation) (sym c.replay-said.ensures ∙ h) in
    omega (arith, s, c.remember.ensures.counted)

pub returns-clause-rest : goal.returns-clause-rest
returns-clause-rest c =
    more_known c.args.session.operation (take c.args.session.count c.args.replies.now) (take (c.args.session.count + 1) c.remember.new.replies) c.word_of-word.result c.args.reply
    c.remember.ensures.known c.word_of-word.ensures
    (c.go_on.ensures.left c.args.session.operation c.remember.new.replies (parts c.args.fields.now c.args.session c.requires.session).operation c.replay-said.ensures).0

pub returns-clause-says : goal.returns-clause-says
returns-clause-says c =
    (c.go_on.ensures.left c.args.session.operation c.remember.new.replies (parts c.args.fields.now c.args.session c.requires.session).operation c.replay-said.ensures).1
