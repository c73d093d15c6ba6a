-- A byte of data that is no response is one that is thrown away.
use Prim.Native.Nat.{ℕ}
use mathlib.Core.Bool.{cond}
use mathlib.Core.Path.{◌≡◌, sym, ap, ◌∙◌}
use Rattle.std.specs.Prelude.{Result, Ok, Err}
use Rattle.bits.proofs.Table.{decode_map}
use Rattle.ps2_bytes.specs.declared.Unlisted.{Unlisted}
use Rattle.ps2_bytes.specs.declared.response.DeviceToHostResponse.{DeviceToHostResponse}
use Rattle.ps2_bytes.specs.Responses.{responses, response_read}
use Rattle.ps2_kept.specs.declared.KeptBytes.{KeptBytes}
use Rattle.ps2_kept.specs.Added.{added, added_thrown}
use Rattle.ps2_polling.proofs.Receiving.{is_unlisted}

pub added_heard : (k : KeptBytes) (b : ℕ) {x y : Result DeviceToHostResponse Unlisted} → x ≡ response_read b → x ≡ y
    → added_thrown k b ≡ cond (is_unlisted y) (added k b) k
added_heard k b p q =
    ap (λ t. cond t (added k b) k) (decode_map is_unlisted Ok (Err (record { 0 = b })) responses b ∙ ap is_unlisted (sym p ∙ q))
