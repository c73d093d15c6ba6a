-- The identity whose pass each call makes: the two with packets of four bytes share one.
use Rattle.ps2_bytes.specs.declared.response.MouseId.TheVariants.{Zero, Four}
use Rattle.ps2_salvage.proofs.salvage.Given as goal

abbrev pub ghost-pass : goal.ghost-pass
ghost-pass a = Zero

abbrev pub ghost-pass-2 : goal.ghost-pass-2
ghost-pass-2 a = Four
