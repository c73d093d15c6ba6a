-- It tells the operation's play.
use mathlib.Core.Path.{◌∙◌}
use Rattle.ps2_mouse_identity.specs.Identity.{set_mouse_id}
use Rattle.theseus_calls.proofs.Left.{identified}
use Rattle.theseus_calls.proofs.Recorded.{recorded_lent}
use Rattle.theseus_calls.proofs.identity.set_identity.Goals as goal

pub returns-clause-told : goal.returns-clause-told
returns-clause-told c =
    identified c.args.id _ _ c.begun-controller.ensures.starts c.rusts_set_mouse_id-rusts.ensures (c.run_of.ensures.words ∙ c.identified_words-words.ensures)
    c.run_of.ensures.log

pub returns-clause-same_log : goal.returns-clause-same_log
returns-clause-same_log c =
    recorded_lent (set_mouse_id (record { id = c.args.id })) _ _ c.begun-controller.ensures.same_log c.rusts_set_mouse_id-rusts.ensures c.run_of.ensures.log
