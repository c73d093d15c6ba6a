-- A listing is what the history rule's words say byte by byte; 3, 20, 21, 31 and 33 never occur. So it has a line at most for each script byte, since a byte that waited was one, and 13 bytes for each hold it.
use mathlib.Core.Path.{◌≡◌, refl, sym, ap, ◌∙◌}
use mathlib.Core.Bool.{Bool, true, false, cond}
use mathlib.Core.List.{List, [], ◌∷◌, ◌++◌, append-nil}
use mathlib.Core.Option.{Option, none, some}
use Prim.Native.Nat.{ℕ, zero, suc, ◌+◌, ◌*◌, ◌<◌, ◌≤◌}
use native.Mathlib.Nat.{zero-add}
use native.Mathlib.Omega.{arith}
use lib.Dec.{eqb, ltb}
use lib.ListN.{length, take, drop, length-append, length-take, length-drop}
use Rattle.std.specs.Prelude.{Some, None}
use Rattle.std.specs.Prelude as prelude
use Rattle.keycodes_ascii.specs.declared.KeyAction.{KeyAction}
use Rattle.keycodes_ascii.specs.declared.KeyEvent.{KeyEvent}
use Rattle.keycodes_ascii.specs.Characters.{character_of}
use Rattle.exchange.specs.Exchange.{End}
use Rattle.exchange.specs.Answer.{Answer, gives, refuses, number_ended}
use Rattle.ps2_answers.specs.Refusals.{Success}
use Rattle.keyboard_record.specs.declared.KeyboardHandler.{KeyboardHandler}
use Rattle.keyboard.specs.Answers.{ends2_3_21}
use Rattle.keyboard_sides.specs.declared.Side.{Side}
use Rattle.keyboard_sides.specs.Named.{Sided}
use Rattle.keyboard.specs.Rules.{rules_at}
use Rattle.keyboard.specs.KeyboardLamps.{keyboard_lamps}
use Rattle.keyboard.specs.Scancode.{Took, took, takes}
use Rattle.keyboard_scancodes.specs.declared.Profile.{Profile}
use Rattle.keyboard_scancodes.specs.Events.{event_of}
use Rattle.keyboard_scancodes.specs.Waiting.{waiting_bytes}
use Rattle.theorem_history.specs.Past.{Past, nothing, ◌▸◌}
use Rattle.theorem_history.specs.Said.{flags_said}
use Rattle.keyboard_record.specs.Taking.{taken}
use Rattle.theorem_history.proofs.AsKeyboard.{as_bytes, as_then}
use Rattle.theorem_history.proofs.Row.{sided}
use Rattle.key_listing.specs.Text.{ascii, digits, decimal}
use Rattle.key_listing.specs.Lines.{action_text, character_text, event_line, taken_line, refusal_line}
use Rattle.key_listing.specs.Listing.{script_limit, table, free_log, at_first, call_on, call_text, record_after, bytes_left, calls_text, listing}
use Rattle.key_listing.specs.Listed.{waits_then, cut_short, lamps_read, After, Listed, used_up, an_event, no_event, a_19, a_2}
use Rattle.key_listing.proofs.Calls.{took_length, script_behind, count_behind, call_text_lem, calls_over, calls_last, calls_more}
use Rattle.key_listing.proofs.Used.{used_behind, behind_le, used_lem}
use Rattle.key_listing.proofs.Steps.{AsOne, one_fresh, Step, step_2, step_19, step_silent, step_event, step}

-- ---- the lines

-- a call that is not refused prints its event alone, or nothing
silent_line : refusal_line 0 ++ taken_line (gives none) ≡ []
unfolding refusal_line
silent_line = refl

event_line_lem : (e : KeyEvent) → refusal_line 0 ++ taken_line (gives (some (sided Side.First e))) ≡ event_line e
unfolding refusal_line
event_line_lem e = refl

module _ (n : ℕ) {h : KeyboardHandler} {bytes : Past ℕ} {ws : List ℕ} (a : AsOne h bytes ws []) (s : List ℕ) (t : Took) (g : takes ws s ≡ some t) where
  abbrev left : List ℕ
  left = drop (call_on h s).used s

  -- the byte that the call takes
  took_so : takes (waiting_bytes h.state.first.waiting) s ≡ some t
  took_so = ap (λ (w : List ℕ). takes w s) (a.at Side.First).bytes_wait ∙ g

  some_left : 0 < bytes_left h s
  some_left = omega (arith, took_length ws s g, as_bytes (a.at Side.First))

  -- the bytes that its lamp exchange read are those that the call used behind it
  read_is : used_behind (rules_at h.state.table keyboard_lamps Side.First) h.state.first t free_log ≡ lamps_read bytes t
  read_is =
      rw (a.laid, sym (as_then (a.at Side.First) t.byte)) (used_lem (rules_at table keyboard_lamps Side.First) h.state.first t free_log)

  after_byte : ends2_3_21 (call_on h s).end ≡ false → cut_short bytes t ≡ false → AsOne (record_after h s) (bytes ▸ t.byte) (waits_then bytes ws s) [] → After bytes t (waits_then bytes ws s) left
  after_byte e u r =
      record {
        not_cut = u;
        in_script = rw read_is at (behind_le (rules_at h.state.table keyboard_lamps Side.First) h.state.first t free_log);
        is_left = script_behind h s e t took_so ∙ ap (λ (n : ℕ). drop n t.script) read_is;
        few_new = omega (arith, as_bytes (r.at Side.First), count_behind h s e t took_so, read_is);
      }

  -- a call that another follows: its line, and the text of what is left
  goes_on : {x : End (Answer Success)} {y : Answer (Option (Sided KeyEvent))} {line : List ℕ} → (call_on h s).end ≡ x → (taken (call_on h s).handler).answer ≡ y
      → cut_short bytes t ≡ false → AsOne (record_after h s) (bytes ▸ t.byte) (waits_then bytes ws s) [] → ends2_3_21 x ≡ false → refusal_line (number_ended x) ++ taken_line y ≡ line
      → (After bytes t (waits_then bytes ws s) left → Listed bytes ws s (line ++ calls_text n (record_after h s) left)) → Listed bytes ws s (calls_text (suc n) h s)
  goes_on x y u r e l more =
      let f = ap ends2_3_21 x ∙ e in
      rw (calls_more n h s some_left f, call_text_lem h s (ap number_ended x) y ∙ l) (more (after_byte f u r))

  by_step : (AsOne (record_after h s) (bytes ▸ t.byte) (waits_then bytes ws s) [] → After bytes t (waits_then bytes ws s) left → Listed (bytes ▸ t.byte) (waits_then bytes ws s) left (calls_text n (record_after h s) left))
      → Step h bytes ws s t → Listed bytes ws s (calls_text (suc n) h s)
  by_step ih (step_2 p k x y) =
      rw (calls_last n h s some_left (ap ends2_3_21 x), call_text_lem h s (ap number_ended x) y, append-nil (refusal_line 2)) (a_2 g k)
  by_step ih (step_19 u q v x y r) = goes_on x y u r refl (append-nil (refusal_line 19)) (λ f. a_19 g q v f (ih r f))
  by_step ih (step_silent u q x y r) = goes_on x y u r refl silent_line (λ f. no_event g q f (ih r f))
  by_step ih (step_event u v x y r) = goes_on x y u r refl (event_line_lem (event_of t.byte (flags_said Profile.Any (bytes ▸ t.byte)))) (λ f. an_event g v f (ih r f))

-- for each byte that is taken one fewer is left
left_le : {bytes : Past ℕ} (ws s : List ℕ) {waits left : List ℕ} {t : Took} → takes ws s ≡ some t → After bytes t waits left → length waits + length left < length ws + length s
left_le {bytes} ws s {t = t} g f =
    omega (arith, took_length ws s g, f.few_new, f.in_script, ap length f.is_left, length-drop (lamps_read bytes t) t.script)

one_listed : (n : ℕ) {h : KeyboardHandler} {bytes : Past ℕ} {ws : List ℕ} (s : List ℕ) (t : Took) → length ws + length s ≤ suc n → AsOne h bytes ws [] → takes ws s ≡ some t
    → ((h : KeyboardHandler) (bytes : Past ℕ) (ws s : List ℕ) → length ws + length s ≤ n → AsOne h bytes ws [] → Listed bytes ws s (calls_text n h s))
    → Listed bytes ws s (calls_text (suc n) h s)
one_listed n {h} {bytes} {ws} s t i a g next =
    by_step n a s t g (λ r f. next (record_after h s) (bytes ▸ t.byte) (waits_then bytes ws s) (drop (call_on h s).used s) (omega (arith, left_le ws s g f)) r) (step a s t g)

calls_listed : (n : ℕ) {h : KeyboardHandler} {bytes : Past ℕ} (ws s : List ℕ) → length ws + length s ≤ n → AsOne h bytes ws [] → Listed bytes ws s (calls_text n h s)
calls_listed zero {h} [] [] i a = rw (calls_over zero h [] (omega (arith, as_bytes (a.at Side.First)))) used_up
calls_listed zero [] (b ∷ s) i a = absurd (omega arith)
calls_listed zero (b ∷ ws) s i a = absurd (omega arith)
calls_listed (suc n) {h} [] [] i a = rw (calls_over (suc n) h [] (omega (arith, as_bytes (a.at Side.First)))) used_up
calls_listed (suc n) [] (b ∷ s) i a = one_listed n (b ∷ s) (took b [] s) i a refl (λ h bytes ws s l r. calls_listed n ws s l r)
calls_listed (suc n) (b ∷ ws) s i a = one_listed n s (took b ws s) i a refl (λ h bytes ws s l r. calls_listed n ws s l r)

pub listing_listed : (script : List ℕ) → Listed nothing [] (take script_limit script) (listing script)
unfolding listing
listing_listed script = calls_listed (bytes_left at_first (take script_limit script)) [] (take script_limit script) (omega arith) one_fresh

-- ---- the bytes

by_places : (n : ℕ) (c d : Bool) → length (digits 10 (cond c 1 (cond d 2 3)) n) ≤ 3
by_places n true d = omega arith
by_places n false true = omega arith
by_places n false false = omega arith

decimal-length : (n : ℕ) → length (decimal n) ≤ 3
unfolding decimal
decimal-length n = by_places n (ltb n 10) (ltb n 100)

action_length : (a : KeyAction) → length (action_text a) ≡ 1
action_length KeyAction.Pressed = refl
action_length KeyAction.Released = refl

character_length : (c : prelude.Option ℕ) → length (character_text c) ≤ 3
character_length (Some c) = decimal-length c
character_length None = omega arith

event_length : (e : KeyEvent) → length (event_line e) ≤ 13
unfolding event_line
event_length e =
    simp length-append
    (omega (arith, action_length e.action, character_length (character_of e.keycode e.modifiers)))

by_number : (n : ℕ) (c : Bool) → length (cond c [] (ascii "refused " ++ decimal n ++ ascii "\n")) ≤ 13
by_number n true = omega arith
by_number n false = simp length-append (omega (arith, decimal-length n))

refusal_length : (n : ℕ) → length (refusal_line n) ≤ 13
unfolding refusal_line
refusal_length n = by_number n (eqb n 0)

taken_length : (a : Answer (Option (Sided KeyEvent))) → length (taken_line a) ≤ 13
taken_length (gives (some e)) = event_length e.one
taken_length (gives none) = omega arith
taken_length (refuses n) = omega arith

-- the room of a call is large enough for what it prints
pub call_fits : (h : KeyboardHandler) (s : List ℕ) → length (call_text h s) ≤ 26
unfolding call_text
call_fits h s =
    let refused = number_ended (call_on h s).end in
    let event = (taken (call_on h s).handler).answer in
    omega (arith, length-append (refusal_line refused) (taken_line event), refusal_length refused, taken_length event)

listed_length : {bytes : Past ℕ} {ws s text : List ℕ} → Listed bytes ws s text → length text ≤ 13 * (length ws + length s)
listed_length used_up = omega arith
listed_length (an_event {bytes = bytes} {waiting = ws} {script = s} {text = text} {t = t} g v f l) =
    let e = event_of t.byte (flags_said Profile.Any (bytes ▸ t.byte)) in
    omega (arith, length-append (event_line e) text, event_length e, left_le ws s g f, listed_length l)
listed_length (no_event {waiting = ws} {script = s} g q f l) = omega (arith, left_le ws s g f, listed_length l)
listed_length (a_19 {waiting = ws} {script = s} {text = text} g q v f l) =
    omega (arith, length-append (refusal_line 19) text, refusal_length 19, left_le ws s g f, listed_length l)
listed_length (a_2 {waiting = ws} {script = s} g k) = omega (arith, refusal_length 2, took_length ws s g)

pub listing-length : (script : List ℕ) → length (listing script) ≤ 13 * length (take script_limit script)
listing-length script = rw zero-add at (listed_length (listing_listed script))

-- so many bytes hold the listing of every script
pub listing_fits : (script : List ℕ) → length (listing script) ≤ 851968
listing_fits script = omega (arith, listing-length script, length-take script_limit script)
