-- The two agree, since each tells the operation's play.
use Rattle.ps2_mouse.specs.Mouse.{set_resolution}
use Rattle.theseus_ps2.proofs.Agreed.{agree_run}
use Rattle.theseus_ps2.proofs.both_mouse.both_mouse_resolution.Goals as goal

pub returns : goal.returns
returns c = agree_run (set_resolution c.args.value) _ _ _ _ c.start-controller.ensures c.rusts_mouse_resolution-rusts.ensures c.mouse_resolution-ours.ensures
