-- A step with the bytes that are thrown away.
use Prim.Native.Nat.{ℕ}
use mathlib.Core.Bool.{Bool, true, false}
use mathlib.Core.Path.{◌≡◌, refl, sym, ap, ◌∙◌}
use Rattle.std.specs.Prelude.{Result, Ok, Err}
use Rattle.bits.proofs.Table.{decode_map}
use Rattle.exchange.specs.Exchange.{Exchange, done, read, write}
use Rattle.exchange.specs.Keeping.{keeping}
use Rattle.ps2_bytes.specs.declared.Unlisted.{Unlisted}
use Rattle.ps2_bytes.specs.declared.response.DeviceToHostResponse.{DeviceToHostResponse}
use Rattle.ps2_bytes.specs.Responses.{responses, response_read}
use Rattle.ps2_kept.specs.declared.KeptBytes.{KeptBytes}
use Rattle.ps2_kept.specs.Thrown.{unlisted}
use Rattle.ps2_kept.specs.Added.{keeping_onto}
use Rattle.questions.specs.Steps.{Wants, wants, after}
use Rattle.step_words.specs.Sessions.{noting}

abbrev pub unread : Result DeviceToHostResponse Unlisted → Bool
unread (Ok r) = false
unread (Err e) = true

pub unlisted_read : (b : ℕ) {x y : Result DeviceToHostResponse Unlisted} → x ≡ response_read b → x ≡ y → unread y ≡ unlisted b
unlisted_read b p q = ap unread (sym q ∙ p) ∙ sym (decode_map unread Ok (Err (record { 0 = b })) responses b)

module _ {A : Type 0} where
  keeps_one : (k : KeptBytes) (x : Exchange A) (b : ℕ) → ((a : A) → x ≡ done a → ⊥) → after (keeping_onto k x) b ≡ keeping_onto (noting (wants x) k b) (after x b)
  unfolding keeping
  keeps_one k (done a) b h = absurd (h a refl)
  keeps_one k (read p f) b h = refl
  keeps_one k (write p v t) b h = refl

  pub keeps : (k k' : KeptBytes) (x y : Exchange A) (b : ℕ) {w : Wants} → ((a : A) → x ≡ done a → ⊥) → wants x ≡ w → k' ≡ noting w k b → after x b ≡ y
      → after (keeping_onto k x) b ≡ keeping_onto k' y
  keeps k k' x y b h p q r =
      keeps_one k x b h ∙ ap (λ w. keeping_onto (noting w k b) (after x b)) p ∙ ap (λ n. keeping_onto n (after x b)) (sym q) ∙ ap (keeping_onto k') r
