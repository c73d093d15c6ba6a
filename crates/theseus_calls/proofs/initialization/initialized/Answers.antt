-- It tells the operation's play.
use mathlib.Core.Path.{◌∙◌}
use mathlib.Core.Path.{refl}
use Rattle.ps2_init.specs.Init.{initialize}
use Rattle.theseus_ps2.specs.Recording.{recording}
use Rattle.theseus_ps2.proofs.SetUp.{init_left}
use Rattle.theseus_calls.proofs.Left.{initialized, initialized_lent, now_told}
use Rattle.theseus_calls.proofs.initialization.initialized.Goals as goal

pub returns-clause-told : goal.returns-clause-told
returns-clause-told c =
    let i = c.init-answer.ensures in
    let p = c.args.passed in
    initialized c.args.numbers (initialize p) _ _ c.begun_recording.ensures.starts
    (init_left recording p _ _ _ _ refl refl i.already i.ran i.completed)
    (c.run_of.ensures.words ∙ c.initialized_words-words.ensures ∙ now_told c.args.numbers _ _ p.initialized _ _ p c.init-answer.new.controller.hardware i.completed)
    c.run_of.ensures.log

pub returns-clause-same_log : goal.returns-clause-same_log
returns-clause-same_log c =
    let i = c.init-answer.ensures in
    let p = c.args.passed in
    initialized_lent (initialize p) _ _ c.begun_recording.ensures.same_log (init_left recording p _ _ _ _ refl refl i.already i.ran i.completed) c.run_of.ensures.log
