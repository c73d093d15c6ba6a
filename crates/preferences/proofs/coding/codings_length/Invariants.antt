-- `preferences::coding::codings_length` meets its contract: the count is that of the numbers so far, of which each takes five bytes at most.
use mathlib.Core.Path.{◌≡◌}
use Prim.Native.Nat.{◌*◌, ◌≤◌}
use lib.ListN.{length, take}
use Rattle.preferences.specs.Format.{codings}
use Rattle.preferences.proofs.coding.codings_length.Given as goal

abbrev pub invariant-loop-number : goal.invariant-loop-number
invariant-loop-number l = record { sum : l.length ≡ length (codings (take l.number-index l.numbers)); few : l.length ≤ 5 * l.number-index }
