-- One poll of a receiving that keeps what it throws away, from what the code's one poll answers.
use Rattle.std.specs.Prelude.{Result, Ok, Err}
use Rattle.ps2_bytes.specs.declared.response.DeviceToHostResponse.{DeviceToHostResponse}
use Rattle.ps2_bytes.specs.declared.Unlisted.{Unlisted}
use Prim.Native.Nat.{ℕ}
use mathlib.Core.Bool.{Bool, true, false, cond}
use mathlib.Core.List.{List}
use mathlib.Core.Path.{◌≡◌, refl, sym, ap, ◌∙◌, fun_ext}
use Rattle.bits.specs.Bits.{bit}
use Rattle.bits.proofs.Table.{decode_map}
use Rattle.std.specs.Prelude.{Some, None}
use Rattle.exchange.specs.Exchange.{p60, p64, done, read, write, bind, End, yields, told_end, Reads}
use Rattle.exchange.specs.Answer.{Answer, gives, refuses}
use Rattle.exchange.specs.Keeping.{Kept, kept, keeping, kept_end, NoData, no_data_done, no_data_read, no_data_write}
use Rattle.exchange.specs.Repeat.{Turn, found, again, found_end}
use Rattle.exchange.proofs.NoData.{no_data_repeat}
use Rattle.exchange.proofs.Told.{bind_told}
use Rattle.ps2_bytes.specs.declared.writable.HostToDevice.{HostToDevice}
use Rattle.ps2_bytes.specs.Responses.{responses, response_read}
use Rattle.ps2_bytes.specs.Writable.{to_device}
use Rattle.ps2_layouts.specs.Status.{output_buffer_full, input_buffer_full}
use Rattle.ps2_answers.specs.Refusals.{success, refused}
use Rattle.ps2_answers.specs.declared.Refusal.{Refusal}
use Rattle.ps2_answers.specs.declared.Refusal.TheVariants.{Lacking, Failed}
use Rattle.ps2_kept.specs.declared.KeptBytes.{KeptBytes}
use Rattle.ps2_kept.specs.Added.{added, added_thrown, keeping_onto}
use Rattle.ps2_polling.specs.Polling.{send_tries, send_try, polling_send, data_turn, poll, poll_data, response_turn, polled}
use Rattle.ps2_polling.proofs.Polls.{heard, response_turn_lem}

-- ---- a poll with its note, by what the poll by itself brings

module _ {S A : Type 0} (note : S → ℕ → S) (worth : ℕ → Turn (Answer A)) (s : S) where
  abbrev kept_judged : Turn (Answer ℕ) → Kept S (Turn (Answer A))
  kept_judged (found (gives b)) = kept (worth b) (note s b)
  kept_judged (found (refuses n)) = kept (found (refuses n)) s
  kept_judged again = kept again s

  judged_data : (full : Bool)
      → bind (cond full (data_turn (λ b. found (gives b))) (done again)) (λ r. done (kept_judged r)) ≡ keeping note s (cond full (data_turn worth) (done again))
  unfolding bind keeping
  judged_data true = refl
  judged_data false = refl

  kept_judged_lem : bind poll_data (λ r. done (kept_judged r)) ≡ keeping note s (poll worth)
  unfolding poll bind keeping
  kept_judged_lem = ap (read p64) (fun_ext (λ status. judged_data (bit output_buffer_full status)))

  kept_poll : (script : List ℕ) {e : End (Turn (Answer ℕ))} {u w : ℕ} → Reads poll_data script e u w → Reads (keeping note s (poll worth)) script (told_end (λ r. kept_judged r) e) u 0
  kept_poll script r =
      record { with_any = λ l. rw kept_judged_lem at (bind_told poll_data (λ r. kept_judged r) script l (r.with_any l) refl); no_pairs = refl }

-- ---- a byte that is a response, and one that is thrown away

abbrev pub is_unlisted : Result DeviceToHostResponse Unlisted → Bool
is_unlisted (Ok r) = false
is_unlisted (Err e) = true

module _ (k : KeptBytes) (script : List ℕ) where
  abbrev pub kept_heard : ℕ → Result DeviceToHostResponse Unlisted → KeptBytes
  kept_heard b y = cond (is_unlisted y) (added k b) k

  noted_heard : (b : ℕ) {x y : Result DeviceToHostResponse Unlisted} → x ≡ response_read b → x ≡ y → added_thrown k b ≡ kept_heard b y
  noted_heard b p q =
      ap (λ t. cond t (added k b) k) (decode_map is_unlisted Ok (Err (record { 0 = b })) responses b ∙ ap is_unlisted (sym p ∙ q))

  -- the poll brought a byte
  pub poll_heard : (b : ℕ) {x y : Result DeviceToHostResponse Unlisted} → x ≡ response_read b → x ≡ y → {u w : ℕ}
      → Reads poll_data script (yields (polled (Some b))) u w → Reads (keeping_onto k (poll response_turn)) script (kept_end (yields (heard y)) (kept_heard b y)) u 0
  poll_heard b p q r = rw (noted_heard b p q, response_turn_lem b p q) at (kept_poll added_thrown response_turn k script r)

  -- it brought none
  pub poll_nothing : {u w : ℕ} → Reads poll_data script (yields (polled None)) u w → Reads (keeping_onto k (poll response_turn)) script (kept_end (yields again) k) u 0
  poll_nothing r = kept_poll added_thrown response_turn k script r

  -- it ended for lack of a byte
  pub poll_refused : (x : Refusal) {u w : ℕ} → Reads poll_data script (found_end (refused x)) u w
      → Reads (keeping_onto k (poll response_turn)) script (kept_end (found_end (refused x)) k) u 0
  poll_refused (Lacking x) r = kept_poll added_thrown response_turn k script r
  poll_refused (Failed f) r = kept_poll added_thrown response_turn k script r

-- ---- a sending reads the status alone

no_data_try : (byte : ℕ) (full : Bool) → NoData (cond full (done again) (write p60 byte (done (found (gives success)))))
no_data_try byte true = no_data_done
no_data_try byte false = no_data_write no_data_done

pub no_data_send : (value : HostToDevice) → NoData (polling_send value)
unfolding polling_send send_try
no_data_send value = no_data_repeat (no_data_read (λ status. no_data_try (to_device value) (bit input_buffer_full status))) (refuses 4) send_tries
