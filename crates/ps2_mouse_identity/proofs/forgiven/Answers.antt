-- `forgiven` meets its contract: the outcome of asking, with a failure as no identity.
use mathlib.Core.Path.{refl, sym}
use Rattle.ps2_answers.proofs.Then.{exit}
use Rattle.ps2_answers.proofs.Forgiving.{outcome, lacked}
use Rattle.ps2_mouse_identity.proofs.Forgives.{asked_end, asked_lacks}
use Rattle.ps2_mouse_identity.proofs.forgiven.Goals as goal

pub returns-in_err-id : goal.returns-in_err-id
returns-in_err-id c =
    let k = lacked _ _ c.in_err-id.ensures in
    rw (exit _ _ c.from_residual.ensures.1) (record { end = asked_lacks _ _ c.in_err-id.ensures; used = rw k.is refl; pairs = rw k.is refl })

pub returns : goal.returns
returns c =
    let o = outcome _ _ c.in_ok-id.ensures in
    rw c.with.ensures (record { end = asked_end _ _ c.in_ok-id.ensures c.ok.ensures.value; used = sym o.used; pairs = sym o.pairs })
