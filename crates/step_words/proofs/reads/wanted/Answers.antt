-- `wanted` meets its contract.
use mathlib.Core.Path.{sym, ◌∙◌}
use Rattle.step_words.specs.Whole.{replies_of}
use Rattle.step_words.specs.Reads.{wanted_too_few, asks, stands}
use Rattle.step_words.proofs.Left.{wants_rest}
use Rattle.step_words.proofs.reads.wanted.Goals as goal

pub returns-then-words-ne-STEP_WORDS : goal.returns-then-words-ne-STEP_WORDS
returns-then-words-ne-STEP_WORDS c = rw c.refusing_request.ensures (wanted_too_few c.if-words-ne-STEP_WORDS.true)

pub returns-in-Some : goal.returns-in-Some
returns-in-Some c =
    rw c.request_words.ensures
    (asks c.in-Some.session c.wanted_at.result c.if-words-ne-STEP_WORDS.false (sym c.in-Some.ensures) (wants_rest c.in-Some.session (replies_of c.args.words.now) ∙ c.wanted_at.ensures))

pub returns-in-None : goal.returns-in-None
returns-in-None c = rw (c.refusing_request-in-None.ensures, c.refusal_at.ensures) (stands c.if-words-ne-STEP_WORDS.false (sym c.in-None.ensures))
