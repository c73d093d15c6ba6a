-- Nothing is read, written or noted yet.
use mathlib.Core.Path.{refl}
use Rattle.theseus_calls.proofs.answers.begun_recording.Goals as goal

pub returns-clause-starts : goal.returns-clause-starts
returns-clause-starts c = ((refl, refl, refl, c.none_kept.ensures), refl, refl)
