-- `listed_id` meets its contract: the byte's worth by the table of identities, however the code says what it read.
use mathlib.Core.Path.{◌≡◌}
use Rattle.std.specs.Prelude.{Result, Ok, Err, Some, None}
use Rattle.std.specs.Result.{result_ok}
use Rattle.ps2_bytes.specs.declared.Unlisted.{Unlisted}
use Rattle.ps2_bytes.specs.declared.response.MouseId.{MouseId}
use Rattle.ps2_mouse.proofs.Polls.{identity_found}
use Rattle.ps2_mouse.proofs.listed_id.Goals as goal

read_ok : {r : Result MouseId Unlisted} {id : MouseId} → r ≡ Ok id → Some id ≡ result_ok r
read_ok e = rw e

read_err : {r : Result MouseId Unlisted} {unlisted : Unlisted} → r ≡ Err unlisted → None ≡ result_ok r
read_err e = rw e

pub returns : goal.returns
returns c = search (identity_found c.args.byte c.try_from.result c.try_from.ensures, read_ok, read_err)
