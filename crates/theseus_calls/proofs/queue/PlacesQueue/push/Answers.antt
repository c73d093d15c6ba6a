-- A queue whose places are all filled has no room.
use native.Mathlib.Omega.{arith}
use mathlib.Core.Bool.{false}
use mathlib.Core.Path.{◌≡◌, refl}
use lib.Dec.{ltb}
use lib.Seq.{take_all}
use Rattle.std.proofs.lemmas.Grind.{common_steps}
use Rattle.std.specs.Prelude.{take, length}
use Rattle.theseus_calls.proofs.queue.PlacesQueue.push.Goals as goal

pub returns-else-self-lt128-clause-answer : goal.returns-else-self-lt128-clause-answer
returns-else-self-lt128-clause-answer c =
    let s = c.args.self.now in
    let places : length s.events ≡ 128 = grind (arith, common_steps) in
    let full : ltb (length (take s.count s.events)) 128 ≡ false =
    rw (take_all s.count s.events (omega (arith, places, c.if-self-lt128.false)), places) refl in
    rw full refl
