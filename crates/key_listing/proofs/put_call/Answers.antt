-- `key_listing::put_call` meets its contract: what the writer left in the buffer its lender has.
use mathlib.Core.Path.{refl}
use Rattle.std.proofs.Common.{rules}
use Rattle.buffer.proofs.Buffer.{puts_holds}
use Rattle.key_listing.proofs.put_call.Goals as goal

pub returns-clause-puts : goal.returns-clause-puts
returns-clause-puts c = puts_holds c.call_once-used.ensures.puts refl refl (search rules)
