-- `typing::key_in` meets its contract: the table has the key of every byte.
use native.Mathlib.Omega.{arith}
use Rattle.typing.proofs.KeyTable.{keys_tabulated}
use Rattle.typing.proofs.key_in.Goals as goal

pub returns : goal.returns
returns c = rw c.from.ensures (keys_tabulated.at c.args.character (omega arith))
