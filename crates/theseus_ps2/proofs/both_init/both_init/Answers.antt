-- The two agree, since each tells the operation's play.
use mathlib.Core.Path.{refl}
use Rattle.ps2_init.specs.Init.{initialize}
use Rattle.theseus_ps2.specs.Recording.{recording}
use Rattle.theseus_ps2.proofs.Agreed.{agree_left}
use Rattle.theseus_ps2.proofs.SetUp.{init_left}
use Rattle.theseus_ps2.proofs.both_init.both_init.Goals as goal

pub returns : goal.returns
returns c =
    let i = c.init-answer.ensures in
    agree_left c.args.controller _ _ _ _ (initialize c.args.controller) _ _ c.new.ensures
    (init_left recording c.args.controller _ _ _ _ refl refl i.already i.ran i.completed) c.init-ours.ensures
