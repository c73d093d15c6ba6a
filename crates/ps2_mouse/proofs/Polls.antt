-- One poll for an identity, from what the code's reads answer.
use Rattle.std.specs.Prelude.{Option, Result, Ok, Err}
use Rattle.std.specs.Result.{result_ok}
use Rattle.ps2_bytes.specs.declared.Unlisted.{Unlisted}
use Prim.Native.Nat.{ℕ}
use mathlib.Core.Bool.{Bool, cond}
use mathlib.Core.Path.{◌≡◌, refl, sym, ap, ◌∙◌}
use Rattle.bits.proofs.Table.{decode_map}
use Rattle.exchange.specs.Exchange.{Exchange, done}
use Rattle.exchange.specs.Answer.{Answer, gives}
use Rattle.exchange.specs.Repeat.{Turn, found, again}
use Rattle.ps2_bytes.specs.declared.response.MouseId.{MouseId}
use Rattle.ps2_bytes.specs.Responses.{mouse_ids, mouse_id_read}
use Rattle.ps2_polling.specs.Polling.{data_turn}
use Rattle.ps2_command.specs.Search.{listed_turn}
use Rattle.ps2_mouse.specs.Answers.{identified}

-- what a byte that was read as an identity is worth
abbrev pub identity_worth : Result MouseId Unlisted → Turn (Answer MouseId)
identity_worth (Ok id) = found (gives id)
identity_worth (Err e) = again

pub identity_turn : (b : ℕ) {x y : Result MouseId Unlisted} → x ≡ mouse_id_read b → x ≡ y → listed_turn mouse_ids b ≡ identity_worth y
identity_turn b p q = decode_map identity_worth Ok (Err (record { 0 = b })) mouse_ids b ∙ ap identity_worth (sym p ∙ q)

-- the identity that a byte is, if it is any, is worth the same
pub identity_found : (b : ℕ) (r : Result MouseId Unlisted) → r ≡ mouse_id_read b → {x : Option MouseId} → x ≡ result_ok r → identified x ≡ listed_turn mouse_ids b
identity_found b (Ok id) p q = rw q (sym (identity_turn b p refl))
identity_found b (Err e) p q = rw q (sym (identity_turn b p refl))

-- what follows the status
abbrev pub on_full : Bool → Exchange (Turn (Answer MouseId))
on_full full = cond full (data_turn (listed_turn mouse_ids)) (done again)
