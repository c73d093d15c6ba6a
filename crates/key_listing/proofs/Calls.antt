-- The calls of a listing, one after another: for each that another follows one byte fewer is left, of the script or waiting.
use mathlib.Core.Path.{◌≡◌, refl, ap, ap₂, sym, subst, ◌∙◌}
use mathlib.Core.Bool.{Bool, true, false, cond, true≢false}
use mathlib.Core.List.{List, [], ◌∷◌, ◌++◌, append-nil}
use mathlib.Core.Logic.{⊎_elim}
use mathlib.Core.Option.{Option, some}
use Prim.Native.Nat.{ℕ, zero, suc, ◌+◌, ◌-◌, ◌<◌, ◌≤◌}
use native.Mathlib.Nat.{le_refl}
use native.Mathlib.Omega.{arith}
use lib.Dec.{eqb}
use lib.ListN.{length, drop, length-append, length-take, length-drop}
use borrow.Author.Tests.{eq-eqb, ne_eqb, eqb-true, eqb-false}
use Rattle.std.specs.Prelude.{Some, None}
use Rattle.std.specs.Prelude as prelude
use Rattle.exchange.specs.Exchange.{Played}
use Rattle.exchange.specs.Parts.{part}
use Rattle.exchange.proofs.Kept.{used_le}
use Rattle.exchange.proofs.Parts.{part_drop}
use Rattle.exchange.specs.Answer.{Answer, number_ended}
use Rattle.ps2_answers.specs.Refusals.{Success}
use Rattle.keycodes_ascii.specs.declared.KeyEvent.{KeyEvent}
use Rattle.keyboard_scancodes.specs.declared.KeyboardState.{KeyboardState}
use Rattle.keyboard_scancodes.specs.FlagsAfter.{flags_then}
use Rattle.keyboard_scancodes.specs.Waiting.{waiting_bytes}
use Rattle.keyboard_scancodes.proofs.Tests.{which}
use Rattle.keyboard_scancodes.proofs.Waiting.{length_bytes}
use Rattle.keyboard_sides.specs.declared.Side.{Side}
use Rattle.keyboard_sides.specs.Named.{Sided}
use Rattle.keyboard_record.specs.declared.KeyboardHandler.{KeyboardHandler}
use Rattle.keyboard_record.specs.Record.{call_formed}
use Rattle.keyboard_record.specs.Taking.{taken}
use Rattle.keyboard_record.proofs.Taking.{keyboard_at-taken}
use Rattle.keyboard_record.proofs.WellFormed.{call_is}
use Rattle.keyboard.specs.Answers.{ends2_3_21}
use Rattle.keyboard.specs.Rules.{Rules, rules_at}
use Rattle.keyboard.specs.Scancode.{Took, takes, caught}
use Rattle.keyboard.specs.Byte.{key_effects}
use Rattle.keyboard.specs.Handler.{Outcome, handle, effects, handled, end_outcome}
use Rattle.keyboard.specs.KeyboardLamps.{keyboard_lamps}
use Rattle.keyboard.proofs.Ways.{end_of, scanned, waits_after, lacking, at_silent, at_key}
use Rattle.keyboard.proofs.Calls.{call_end, CallCourse, malformed, formed, call_course, formed_play}
use Rattle.keyboard.proofs.Formed.{left_at}
use Rattle.keyboard.proofs.Counted.{answer_end, lack_ends}
use Rattle.keyboard.proofs.Refused.{malformed_handled}
use Rattle.keyboard.proofs.Waiting.{waits_left}
use Rattle.buffer.specs.declared.Writer.{Writer}
use Rattle.buffer.specs.Writer.{Puts}
use Rattle.buffer.proofs.Buffer.{puts_then}
use Rattle.key_listing.specs.Lines.{taken_line, refusal_line}
use Rattle.key_listing.specs.Listing.{free_log, call_on, call_text, record_after, bytes_left, calls_text, listing_from}
use Rattle.key_listing.proofs.Used.{same_took, used_behind, behind_le, left_behind, caught-le}

-- ---- the bytes that a call uses and leaves

pub call_used-le : (h : KeyboardHandler) (s : List ℕ) → (call_on h s).used ≤ length s
unfolding handled effects
call_used-le h s = used_le (handle keyboard_lamps Side.First h.state) s free_log

-- a byte leaves the bytes that wait and those of the script
pub took_length : (ws s : List ℕ) {t : Took} → takes ws s ≡ some t → suc (length t.waiting + length t.script) ≡ length ws + length s
took_length [] [] q = let z : ◌≡◌ {A = ℕ} 0 1 = cc in absurd (omega arith)
took_length [] (b ∷ s) {t} q =
    let x : t.waiting ≡ [] = cc in
    let y : t.script ≡ s = cc in
    rw (x, y) (omega arith)
took_length (b ∷ ws) s {t} q =
    let x : t.waiting ≡ ws = cc in
    let y : t.script ≡ s = cc in
    rw (x, y) (omega arith)

module _ (h : KeyboardHandler) (s : List ℕ) where
  -- the keyboard that is called, its rules, and its bytes that wait
  abbrev keyboard : KeyboardState
  keyboard = h.state.first

  abbrev rules : Rules Success
  rules = rules_at h.state.table keyboard_lamps Side.First

  abbrev ws : List ℕ
  ws = waiting_bytes keyboard.waiting

  abbrev log : List ℕ
  log = free_log

  -- a call that another follows takes a byte, which is counted
  took_by : CallCourse keyboard_lamps Side.First h.state s log → ends2_3_21 (answer_end (call_end keyboard_lamps Side.First h.state s log)) ≡ false
      → (t : Took) × (takes ws s ≡ some t) × (scanned rules keyboard s log ≡ some t.byte)
  took_by (malformed w e n) f = absurd (true≢false (rw e at f))
  took_by (formed w e n (lacking x q m)) f = absurd (true≢false (sym (lack_ends x) ∙ (rw (e, q) at f)))
  took_by (formed w e n (at_silent t q g u m)) f = (t, g, m)
  took_by (formed w e n (at_key t lit q g u m)) f = (t, g, m)

  module _ (f : ends2_3_21 (call_on h s).end ≡ false) where
    call_took : (t : Took) × (takes ws s ≡ some t) × (scanned rules keyboard s log ≡ some t.byte)
    unfolding handled effects
    call_took = took_by (call_course keyboard_lamps Side.First h.state s log) f

    call_formed_lem : call_formed Side.First h.state ≡ true
    call_formed_lem =
        ⊎_elim (λ w. w) (λ w. absurd (true≢false (rw (malformed_handled keyboard_lamps Side.First h s log w) at f))) (which (call_formed Side.First h.state))

    -- the keyboard after the call is as its part of it leaves it
    keyboard_after : (call_on h s).handler.state.first ≡ (key_effects rules keyboard s log).keyboard
    unfolding handled effects key_effects
    keyboard_after =
        ap (λ (o : Played Outcome). (end_outcome h.state o.end).state.first) (formed_play keyboard_lamps Side.First h.state s log call_formed_lem)
        ∙ left_at Side.First h.state (end_of rules keyboard s log)

    -- what is left behind the byte t
    module _ (t : Took) (g : takes ws s ≡ some t) where
      abbrev used : ℕ
      used = used_behind rules keyboard t log

      pub script_behind : drop (call_on h s).used s ≡ drop used t.script
      unfolding handled effects
      script_behind =
          ap (λ (o : Played Outcome). drop o.used s) (formed_play keyboard_lamps Side.First h.state s log call_formed_lem)
          ∙ left_behind rules keyboard s log t g

      counted_byte : scanned rules keyboard s log ≡ some t.byte
      counted_byte =
          let c = call_took in
          subst (λ (u : Took). scanned rules keyboard s log ≡ some u.byte) (same_took (sym c.1 ∙ g)) c.2

      pub count_behind : (record_after h s).state.first.waiting.count ≤ length t.waiting + used
      unfolding record_after
      count_behind =
          let after = (key_effects rules keyboard s log).keyboard.waiting in
          let all = waits_after rules keyboard t log in
          let c = call_is Side.First h.state call_formed_lem in
          let x = waits_left rules keyboard (c.1.at Side.First c.0).waiting_in s log t g counted_byte in
          omega (
            arith,
            ap (λ (k : KeyboardState). k.waiting.count) (keyboard_at-taken Side.First (call_on h s).handler ∙ keyboard_after),
            length_bytes after.bytes 0 after.count,
            ap length x.0,
            length-take 16 all,
            length-append t.waiting (caught rules (flags_then h.state.table.profile keyboard) t log),
            caught-le rules keyboard t log,
          )

      bytes_behind : bytes_left (record_after h s) (drop (call_on h s).used s) < bytes_left h s
      bytes_behind =
          omega (
            arith,
            count_behind,
            ap length script_behind,
            length-drop used t.script,
            behind_le rules keyboard t log,
            took_length ws s g,
            length_bytes keyboard.waiting.bytes 0 keyboard.waiting.count,
          )

    -- so fewer are left for the call that follows
    pub fewer_left : bytes_left (record_after h s) (drop (call_on h s).used s) < bytes_left h s
    fewer_left = bytes_behind call_took.0 call_took.1

-- ---- the text of a call, and of those that follow it

pub call_text_lem : (h : KeyboardHandler) (s : List ℕ) {n : ℕ} {t : Answer (Option (Sided KeyEvent))} → number_ended (call_on h s).end ≡ n → (taken (call_on h s).handler).answer ≡ t
    → call_text h s ≡ refusal_line n ++ taken_line t
unfolding call_text
call_text_lem h s e f = ap₂ {C = List ℕ} (λ (x : ℕ) (y : Answer (Option (Sided KeyEvent))). refusal_line x ++ taken_line y) e f

pub calls_over : (n : ℕ) (h : KeyboardHandler) (s : List ℕ) → bytes_left h s ≡ 0 → calls_text n h s ≡ []
unfolding calls_text
calls_over zero h s z = refl
calls_over (suc n) h s z = rw (eq-eqb (bytes_left h s) 0 z)

module _ (n : ℕ) (h : KeyboardHandler) (s : List ℕ) (i : 0 < bytes_left h s) where
  -- no call follows
  pub calls_last : ends2_3_21 (call_on h s).end ≡ true → calls_text (suc n) h s ≡ call_text h s
  unfolding calls_text
  calls_last e = rw (ne_eqb (bytes_left h s) 0 (λ z. omega arith), e, append-nil)

  -- another follows on what is left
  pub calls_more : ends2_3_21 (call_on h s).end ≡ false
      → calls_text (suc n) h s ≡ call_text h s ++ calls_text n (record_after h s) (drop (call_on h s).used s)
  unfolding calls_text
  calls_more e = rw (ne_eqb (bytes_left h s) 0 (λ z. omega arith), e)

-- ---- more calls than bytes change nothing

pub calls_enough : (n m : ℕ) (h : KeyboardHandler) (s : List ℕ) → bytes_left h s ≤ n → bytes_left h s ≤ m → calls_text n h s ≡ calls_text m h s
calls_enough zero m h s i j = calls_over zero h s (omega arith) ∙ sym (calls_over m h s (omega arith))
calls_enough (suc n) zero h s i j = calls_over (suc n) h s (omega arith) ∙ sym (calls_over zero h s (omega arith))
calls_enough (suc n) (suc m) h s i j =
    ⊎_elim
    (λ z. let e = eqb-true (bytes_left h s) 0 z in calls_over (suc n) h s e ∙ sym (calls_over (suc m) h s e))
    (λ z. let p : 0 < bytes_left h s = omega (arith, eqb-false (bytes_left h s) 0 z) in
    ⊎_elim (λ e. calls_last n h s p e ∙ sym (calls_last m h s p e))
    (λ e. let l = fewer_left h s e in
    calls_more n h s p e
    ∙ ap (λ (t : List ℕ). call_text h s ++ t) (calls_enough n m (record_after h s) (drop (call_on h s).used s) (omega arith) (omega arith))
    ∙ sym (calls_more m h s p e))
    (which (ends2_3_21 (call_on h s).end)))
    (which (eqb (bytes_left h s) 0))

-- ---- so the listing of a script is that of its first call, then the listing of what is left, unless that call is the last

one_less : (n : ℕ) → 0 < n → n ≡ suc (n - 1)
one_less n i = omega arith

module _ (h : KeyboardHandler) (s : List ℕ) (i : 0 < bytes_left h s) where
  abbrev fewer : ℕ
  fewer = bytes_left h s - 1

  first_of : listing_from h s ≡ calls_text (suc fewer) h s
  first_of = ap (λ (n : ℕ). calls_text n h s) (one_less (bytes_left h s) i)

  pub listing_last : ends2_3_21 (call_on h s).end ≡ true → listing_from h s ≡ call_text h s
  listing_last e = first_of ∙ calls_last fewer h s i e

  pub listing_more : ends2_3_21 (call_on h s).end ≡ false
      → listing_from h s ≡ call_text h s ++ listing_from (record_after h s) (drop (call_on h s).used s)
  listing_more e =
      let rest = drop (call_on h s).used s in
      let l = fewer_left h s e in
      first_of ∙ calls_more fewer h s i e
      ∙ ap (λ (t : List ℕ). call_text h s ++ t)
      (calls_enough fewer (bytes_left (record_after h s) rest) (record_after h s) rest (omega arith) (le_refl (bytes_left (record_after h s) rest)))

-- ---- a turn of the code's loop: a call on what is left of the script

-- what the code's call answers: the bytes it used, if another follows
goes_on : (last : Bool) (n : ℕ) {u : ℕ} → Some u ≡ cond last None (Some n) → (last ≡ false) × (u ≡ n)
goes_on false n e = (refl, cc)
goes_on true n e = cc

is_over : (last : Bool) (n : ℕ) → None ≡ cond last None (Some n) → last ≡ true
is_over true n e = refl
is_over false n e = cc

module _ (h : KeyboardHandler) (s : List ℕ) where
  abbrev pub answer : prelude.Option ℕ
  answer = cond (ends2_3_21 (call_on h s).end) None (Some (call_on h s).used)

  went_on : {u : ℕ} → Some u ≡ answer → (ends2_3_21 (call_on h s).end ≡ false) × (u ≡ (call_on h s).used)
  went_on e = goes_on (ends2_3_21 (call_on h s).end) (call_on h s).used e

  pub turn_used : {u : ℕ} → Some u ≡ answer → u ≤ length s
  turn_used e = rw (went_on e).1 (call_used-le h s)

  pub turn_fewer : {u : ℕ} → Some u ≡ answer → bytes_left (record_after h s) (part u s) < bytes_left h s
  turn_fewer {u} e = rw (part_drop u s, (went_on e).1) (fewer_left h s (went_on e).0)

  module _ (i : 0 < bytes_left h s) where
    pub last_is : None ≡ answer → listing_from h s ≡ call_text h s
    last_is e = listing_last h s i (is_over (ends2_3_21 (call_on h s).end) (call_on h s).used e)

    pub more_is : {u : ℕ} → Some u ≡ answer → listing_from h s ≡ call_text h s ++ listing_from (record_after h s) (part u s)
    more_is {u} e = rw (part_drop u s, (went_on e).1) (listing_more h s i (went_on e).0)

    -- what it prints put by a writer
    pub turn_last : {p q : Writer} → None ≡ answer → Puts (call_text h s) p q → Puts (listing_from h s) p q
    turn_last e t = rw (last_is e) t

    pub turn_more : {p q w : Writer} {u : ℕ} → Some u ≡ answer → Puts (call_text h s) p q → Puts (listing_from (record_after h s) (part u s)) q w → Puts (listing_from h s) p w
    turn_more e t r = rw (more_is e) (puts_then t r)
