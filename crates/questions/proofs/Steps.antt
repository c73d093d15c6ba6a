-- One byte of a wait.
use Prim.Native.Nat.{ℕ, suc}
use native.Mathlib.Omega.{arith}
use mathlib.Core.Bool.{Bool, true, false, cond}
use mathlib.Core.Path.{◌≡◌, refl, sym, ap, ◌∙◌}
use Rattle.std.specs.Prelude.{Option, Some, None, Result, Ok, Err}
use Rattle.bits.specs.Bits.{bit}
use Rattle.bits.proofs.Table.{decode_map}
use Rattle.exchange.specs.Exchange.{Exchange, done, bind}
use Rattle.exchange.specs.Repeat.{Turn, found, again, repeat}
use Rattle.exchange.proofs.Repeat.{repeat_step, repeat_over}
use Rattle.ps2_bytes.specs.declared.Unlisted.{Unlisted}
use Rattle.ps2_bytes.specs.declared.response.DeviceToHostResponse.{DeviceToHostResponse}
use Rattle.ps2_bytes.specs.Responses.{responses, response_read}
use Rattle.ps2_layouts.specs.Status.{input_buffer_full}
use Rattle.questions.specs.declared.Going.TheVariants.{Sending}
use Rattle.questions.specs.declared.Sought.{Sought}
use Rattle.questions.specs.declared.Sought.TheVariants.{InputFree, Response}
use Rattle.questions.specs.Asked.{meets, first, second, turn, further_turns, going, sent, submitted, input_stayed_full}
use Rattle.questions.specs.Steps.{after}

-- whether a byte is a response
abbrev pub came : ℕ → Result DeviceToHostResponse Unlisted → Turn (Option ℕ)
came b (Ok r) = found (Some b)
came b (Err e) = again

pub response_came : (b : ℕ) {x y : Result DeviceToHostResponse Unlisted} → x ≡ response_read b → x ≡ y → meets Response b ≡ came b y
response_came b p q = decode_map (came b) Ok (Err (record { 0 = b })) responses b ∙ ap (came b) (sym p ∙ q)

-- the turns that are left
module _ (s : Sought) where
  pub turns_end : (k : ℕ) → k ≡ 0 → repeat k None (turn s) ≡ done None
  turns_end k p = repeat_over k None (turn s) (omega arith)

  pub turns_on : (k m : ℕ) → k ≡ suc m → repeat k None (turn s) ≡ bind (turn s) (further_turns s m)
  turns_on k m p = repeat_step k m None (turn s) p

  -- the first byte of a turn
  module _ (k b : ℕ) where
    pub first_found : (x : Option ℕ) → first s b ≡ done (found x) → after (bind (turn s) (further_turns s k)) b ≡ done x
    unfolding bind
    first_found x p = ap (λ t. bind t (further_turns s k)) p

    pub first_again : {t : Exchange (Option ℕ)} → first s b ≡ done again → repeat k None (turn s) ≡ t → after (bind (turn s) (further_turns s k)) b ≡ t
    unfolding bind
    first_again p q = ap (λ t. bind t (further_turns s k)) p ∙ q

    pub first_data : first s b ≡ second s → after (bind (turn s) (further_turns s k)) b ≡ bind (second s) (further_turns s k)
    unfolding bind
    first_data p = ap (λ t. bind t (further_turns s k)) p

    pub second_found : meets s b ≡ found (Some b) → after (bind (second s) (further_turns s k)) b ≡ done (Some b)
    unfolding bind
    second_found p = ap (further_turns s k) p

    pub second_again : {t : Exchange (Option ℕ)} → meets s b ≡ again → repeat k None (turn s) ≡ t → after (bind (second s) (further_turns s k)) b ≡ t
    unfolding bind
    second_again p q = ap (further_turns s k) p ∙ q

-- one status of an attempt that waits to send its byte
module _ (v k : ℕ) where
  pub tries_end : k ≡ 0 → bind (repeat k None (turn InputFree)) (sent v) ≡ done (Some input_stayed_full)
  unfolding bind
  tries_end p = ap (λ t. bind t (sent v)) (turns_end InputFree k p)

  pub tries_on : (m : ℕ) → k ≡ suc m → bind (repeat k None (turn InputFree)) (sent v) ≡ going (Sending v m)
  tries_on m p = ap (λ t. bind t (sent v)) (turns_on InputFree k m p)

  try_either : (b : ℕ) (full : Bool) → bind (bind (cond full (done again) (done (found (Some b)))) (further_turns InputFree k)) (sent v)
      ≡ cond full (bind (repeat k None (turn InputFree)) (sent v)) (submitted v)
  unfolding bind
  try_either b true = refl
  try_either b false = refl

  pub sending : (b : ℕ) (full : Bool) → full ≡ bit input_buffer_full b → after (going (Sending v k)) b ≡ cond full (bind (repeat k None (turn InputFree)) (sent v)) (submitted v)
  unfolding bind
  sending b full p = try_either b (bit input_buffer_full b) ∙ ap (λ full. cond full (bind (repeat k None (turn InputFree)) (sent v)) (submitted v)) (sym p)
