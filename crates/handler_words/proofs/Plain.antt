-- A call whose byte is of a key that has no flag, on a record that is ready for its event: what it gives back.
use mathlib.Core.Path.{◌≡◌, refl, sym}
use mathlib.Core.Bool.{true}
use mathlib.Core.List.{List}
use mathlib.Core.Option.{some}
use Prim.Native.Nat.{ℕ}
use lib.ListN.{length, get_or}
use Rattle.exchange.specs.Answer.{gives}
use Rattle.ps2_answers.specs.Refusals.{success}
use Rattle.keyboard_scancodes.specs.declared.KeyboardState.{KeyboardState}
use Rattle.keyboard_scancodes.specs.declared.Profile.{Profile}
use Rattle.keyboard_scancodes.specs.Events.{is_known, event_of}
use Rattle.keyboard_scancodes.proofs.Plain.{plain_known, plain_flags}
use Rattle.keyboard_sides.specs.declared.Side.{Side}
use Rattle.keyboard_record.specs.declared.HandlerState.{HandlerState}
use Rattle.keyboard_record.specs.Queue.{room, one_more, free_place}
use Rattle.keyboard_record.specs.Record.{keyboard_at, with_keyboard}
use Rattle.keyboard_record.proofs.Ready.{ready_says}
use Rattle.keyboard.specs.Byte.{key_event}
use Rattle.keyboard.specs.Handler.{queued}
use Rattle.handler_words.specs.declared.HandledWords.{HandledWords}
use Rattle.handler_words.specs.Layout.{keyboard_from, words_length}
use Rattle.handler_words.specs.Words.{state_of}
use Rattle.handler_words.specs.Calls.{with_keyboard_at, with_event, AtSide}
use Rattle.handler_words.specs.Parts.{Narrow, reread, followed_by, byte_used, PlainKey, KeyQueued, KeyHandled}
use Rattle.handler_words.proofs.Alone.{any_key_in, joins, handled_alone}

-- the event finds its place whatever is remembered of its keyboard
module _ (s : HandlerState) (k : KeyboardState) (b flags : ℕ) (us : List ℕ) where
  joined : (side : Side) → is_known b ≡ true → s.table.profile ≡ Profile.Any → gives success ≡ room side s
      → {ws' : List ℕ} → (ws' ≡ with_event (free_place s) (one_more side s) (some (event_of b flags)) us) × (reread (some (event_of b flags)) ≡ some (event_of b flags))
      → KeyQueued (queued side (with_keyboard side k s) (key_event b flags) (gives success) 0) (free_place (with_keyboard side k s)) us 0 ws'
  joined Side.First n any r w = joins Side.First (with_keyboard Side.First k s) b flags (free_place s) us n any r w
  joined Side.Second n any r w = joins Side.Second (with_keyboard Side.Second k s) b flags (free_place s) us n any r w

module _ (side : Side) (ws script : List ℕ) (h : length ws ≡ words_length) (p : PlainKey side ws script) where
  abbrev flags_now : ℕ
  flags_now = (keyboard_at side (state_of ws)).modifiers.bits

  pub plain_handled : {k : KeyboardState} → k ≡ followed_by flags_now → {us : List ℕ} → (us ≡ with_keyboard_at (keyboard_from side) k ws) × Narrow k
      → {ws' : List ℕ} → (ws' ≡ with_event (free_place (state_of ws)) (one_more side (state_of ws)) (some (event_of (get_or script 0 0) flags_now)) us)
      × (reread (some (event_of (get_or script 0 0) flags_now)) ≡ some (event_of (get_or script 0 0) flags_now))
      → KeyHandled side ws script (byte_used 0) ws'
  plain_handled q {us} u w =
      let s = state_of ws in
      let b = get_or script 0 0 in
      let r = ready_says side s p.ready in
      handled_alone side ws script h r.0 p.alone (sym (plain_flags b p.plain (keyboard_at side s).prefix flags_now)) q u refl
      (joined s (followed_by flags_now) b flags_now us side (plain_known b p.plain) (any_key_in ws p.alone.taken.any_key) (sym r.1) w)

-- it is the call with any log, which it leaves as it is
pub plain_at : {side : Side} {ws script log : List ℕ} {answer : HandledWords} {ws' : List ℕ} → length ws ≡ words_length → KeyHandled side ws script answer ws'
    → AtSide (some side) ws script log answer ws' log
plain_at {log = log} e h = (λ _. h.with_any log, λ n. absurd (n e))
