-- `key_listing::put_three_digits` meets its contract: the digits one after another.
use Rattle.buffer.proofs.Buffer.{puts_then}
use Rattle.key_listing.proofs.put_three_digits.Goals as goal

pub returns : goal.returns
returns c = puts_then (puts_then c.put_digit.ensures c.put_digit-2.ensures) c.put_digit-3.ensures
