-- The two agree, since each tells the operation's play.
use Rattle.ps2_mouse_identity.specs.Identity.{set_mouse_id}
use Rattle.theseus_ps2.specs.Recording.{recording}
use Rattle.theseus_ps2.proofs.Agreed.{agree_left}
use Rattle.theseus_ps2.proofs.SetUp.{hardware_ran}
use Rattle.theseus_ps2.proofs.both_identity.both_set_mouse_id.Goals as goal

pub returns : goal.returns
returns c =
    agree_left c.args.mouse _ _ _ _ (set_mouse_id c.args.mouse) _ _ c.start-controller.ensures
    (hardware_ran recording (set_mouse_id c.args.mouse) _ _ _ c.rusts_set_mouse_id-rusts.ensures) c.set_mouse_id-ours.ensures
