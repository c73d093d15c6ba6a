-- `key_listing::put_two_digits` meets its contract: the first digit, then the last.
use native.Mathlib.Omega.{arith}
use mathlib.Core.Path.{◌≡◌}
use Rattle.std.specs.Prelude.{◌/◌, ◌%◌}
use Rattle.buffer.proofs.Buffer.{puts_then}
use Rattle.key_listing.proofs.put_two_digits.Goals as goal

pub returns : goal.returns
returns c =
    let e : c.args.byte / 16 % 16 ≡ c.args.byte / 16 = omega (arith, c.ranges.byte.fits) in
    rw e (puts_then c.put_digit.ensures c.put_digit-2.ensures)
