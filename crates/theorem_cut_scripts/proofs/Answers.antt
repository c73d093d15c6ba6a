-- The code's answers, each by what says its meaning. docs/CUT-SCRIPTS.md has which functions give them.
use Prim.Native.Nat.{ℕ, ◌-◌}
use mathlib.Core.Bool.{Bool, true, false}
use mathlib.Core.List.{List, [], ◌∷◌}
use mathlib.Core.Option.{Option, none, some}
use mathlib.Core.Path.{◌≡◌, refl, ap, sym, ◌∙◌}
use lib.ListN.{get_or}
use Rattle.std.specs.Prelude.{Option as Maybe, Some, None, Result, Ok, Err}
use Rattle.exchange.specs.Exchange.{Port, p60, p64, no_script, no_log, End, yields, lacks, Played}
use Rattle.exchange.specs.Exchange as exchange
use Rattle.exchange.specs.Answer.{Answer, gives, refuses}
use Rattle.exchange.specs.Repeat.{Turn, found, again}
use Rattle.ps2_answers.specs.declared.ReadPort.{ReadPort}
use Rattle.ps2_answers.specs.declared.Lack.{Lack}
use Rattle.ps2_answers.specs.declared.Failure.{Failure}
use Rattle.ps2_answers.specs.declared.Failure.TheVariants.{AlreadyInitialized, InputBufferFull, NoResponse, SelfTestFailed, NotAcknowledged, ControllerTestFailed, PortTestFailed, ResetFailed, NoSetOrIdentity, UnknownKeyboard, FirstIdentityFour, LedsNotSet, RateOrResolutionNotSet, PacketsNotStopped, PacketsNotStarted, KeyboardNotDetected, FieldOutsideValues}
use Rattle.ps2_answers.specs.declared.Refusal.{Refusal}
use Rattle.ps2_answers.specs.declared.Counted.{Counted}
use Rattle.ps2_answers.specs.Refusals.{Success, number_of, port_of, lack_of}
use Rattle.ps2_answers.specs.Answers.{ended, turn_end, used_of, pairs_of, told}
use Rattle.ps2_kept.specs.declared.KeptBytes.{KeptBytes}
use Rattle.ps2_kept.specs.Kept.{nothing_kept}
use Rattle.ps2_polling.specs.Polling.{polled}
use Rattle.keycodes_ascii.specs.declared.KeyEvent.{KeyEvent}
use Rattle.keyboard_record.specs.declared.HandlerState.{HandlerState}
use Rattle.keyboard_record.specs.declared.KeyboardHandler.{KeyboardHandler}
use Rattle.keyboard.specs.declared.HandlerRefusal.{HandlerRefusal}
use Rattle.keyboard.specs.Answers.{said_call, said_lamps}
use Rattle.keyboard.specs.Outcomes.{said_event}
use Rattle.theorem_cut_scripts.specs.CutShort.{Handed}
use Rattle.theorem_cut_scripts.specs.Forms.{lack, lack_kept, StateBack, RecordBack, lack_state, lack_record}
use Rattle.theorem_cut_scripts.specs.Coded.{read_port, Codes, uncounted, recounted, said_result, said_turn, refused_for, handed_answer, StateCoded, RecordCoded, said_state, said_record, coded_state, coded_record, coded_with, said_with}
use Rattle.theorem_cut_scripts.proofs.Coded.{codes_by, with_codes}

-- ---- refusals

-- the failure of each number; what stands at a number that none has makes no difference
failures : List Failure
failures =
    FieldOutsideValues ∷ AlreadyInitialized ∷ FieldOutsideValues ∷ FieldOutsideValues ∷ InputBufferFull ∷ NoResponse ∷ SelfTestFailed ∷ NotAcknowledged ∷ ControllerTestFailed ∷ PortTestFailed
    ∷ ResetFailed ∷ NoSetOrIdentity ∷ UnknownKeyboard ∷ FirstIdentityFour ∷ LedsNotSet ∷ RateOrResolutionNotSet ∷ PacketsNotStopped ∷ PacketsNotStarted ∷ KeyboardNotDetected ∷ []

abbrev failure_at : ℕ → Failure
failure_at n = get_or failures n FieldOutsideValues

failure_back : (f : Failure) → failure_at (number_of f) ≡ f
unfolding failures
failure_back AlreadyInitialized = refl
failure_back InputBufferFull = refl
failure_back NoResponse = refl
failure_back SelfTestFailed = refl
failure_back NotAcknowledged = refl
failure_back ControllerTestFailed = refl
failure_back PortTestFailed = refl
failure_back ResetFailed = refl
failure_back NoSetOrIdentity = refl
failure_back UnknownKeyboard = refl
failure_back FirstIdentityFour = refl
failure_back LedsNotSet = refl
failure_back RateOrResolutionNotSet = refl
failure_back PacketsNotStopped = refl
failure_back PacketsNotStarted = refl
failure_back KeyboardNotDetected = refl
failure_back FieldOutsideValues = refl

abbrev lack_back : exchange.Lack → Lack
lack_back (no_script p) = Lack.Script (read_port p)
lack_back no_log = Lack.Log

lack_back_lem : (l : Lack) → lack_back (lack_of l) ≡ l
lack_back_lem (Lack.Script ReadPort.Data) = refl
lack_back_lem (Lack.Script ReadPort.Status) = refl
lack_back_lem Lack.Log = refl

port_back : (p : Port) → port_of (read_port p) ≡ p
port_back p60 = refl
port_back p64 = refl

-- ---- what an exchange answers: a value or a refusal, whatever the value

abbrev answer_back : {T : Type 0} → End (Answer T) → Result T Refusal
answer_back (yields (gives a)) = Ok a
answer_back (yields (refuses n)) = Err (Refusal.Failed (failure_at n))
answer_back (lacks x) = Err (Refusal.Lacking (lack_back x))

abbrev answer_err : (T : Type 0) → Refusal → Result T Refusal
answer_err T e = Err e

answer_back_lem : {T : Type 0} (x : Result T Refusal) → answer_back (said_result x) ≡ x
answer_back_lem (Ok a) = refl
answer_back_lem {T} (Err (Refusal.Lacking l)) = ap (λ (m : Lack). answer_err T (Refusal.Lacking m)) (lack_back_lem l)
answer_back_lem {T} (Err (Refusal.Failed f)) = ap (λ (g : Failure). answer_err T (Refusal.Failed g)) (failure_back f)

pub answer_codes : {T : Type 0} → Codes (said_result {T = T}) lack refused_for
answer_codes {T} = codes_by answer_back answer_back_lem (λ p. ap (lack {A = Answer T}) (port_back p))

-- its counts leave what it says as it is, and with them it is the whole answer
pub said_ended : {T : Type 0} (r : Result (Counted T) (Counted Refusal)) → said_result (uncounted r) ≡ ended r
said_ended (Ok a) = refl
said_ended (Err e) = refl

recounted_lem : {T : Type 0} (r : Result (Counted T) (Counted Refusal)) → recounted (uncounted r) (used_of r) (pairs_of r) ≡ r
recounted_lem (Ok a) = refl
recounted_lem (Err e) = refl

-- so what is handed back is the same only where the answers are, with their counts; and no two answers tell the same play
module _ {T : Type 0} (r r' : Result (Counted T) (Counted Refusal)) {l l' : List ℕ} where
  pub whole_answer : handed_answer r l ≡ handed_answer r' l' → r ≡ r'
  whole_answer e =
      sym (recounted_lem r) ∙ ap (λ (o : Handed (Result T Refusal)). recounted o.back o.used o.pairs) e ∙ recounted_lem r'

  pub told_apart : told r l ≡ told r' l' → r ≡ r'
  told_apart e =
      let same : uncounted r ≡ uncounted r' = answer_codes.apart _ _ (said_ended r ∙ ap (λ (o : Played (Answer T)). o.end) e ∙ sym (said_ended r')) in
      let used : used_of r ≡ used_of r' = ap (λ (o : Played (Answer T)). o.used) e in
      let pairs : pairs_of r ≡ pairs_of r' = ap (λ (o : Played (Answer T)). o.pairs) e in
      rw (← recounted_lem r, ← recounted_lem r', same, used, pairs) refl

-- ---- one poll: a byte, none yet, or a refusal

abbrev poll_back : End (Turn (Answer ℕ)) → Result (Maybe ℕ) Refusal
poll_back (yields (found (gives b))) = Ok (Some b)
poll_back (yields (found (refuses n))) = Err (Refusal.Failed (failure_at n))
poll_back (yields again) = Ok None
poll_back (lacks x) = Err (Refusal.Lacking (lack_back x))

poll_back_lem : (x : Result (Maybe ℕ) Refusal) → poll_back (said_turn polled x) ≡ x
poll_back_lem (Ok (Some b)) = refl
poll_back_lem (Ok None) = refl
poll_back_lem (Err (Refusal.Lacking l)) = ap (λ (m : Lack). Err (Refusal.Lacking m)) (lack_back_lem l)
poll_back_lem (Err (Refusal.Failed f)) = ap (λ (g : Failure). Err (Refusal.Failed g)) (failure_back f)

pub polled_codes : Codes (said_turn polled) lack refused_for
polled_codes = codes_by poll_back poll_back_lem (λ p. ap (lack {A = Turn (Answer ℕ)}) (port_back p))

pub said_turned : {T B : Type 0} (worth : T → Turn (Answer B)) (r : Result (Counted T) (Counted Refusal)) → said_turn worth (uncounted r) ≡ turn_end worth r
said_turned worth (Ok a) = refl
said_turned worth (Err e) = refl

-- ---- with kept bytes

pub kept_codes : {X A : Type 0} {said : X → End A} {coded : Port → X} → Codes said lack coded → Codes (said_with {K = KeptBytes} said) lack_kept (coded_with nothing_kept coded)
kept_codes c = with_codes nothing_kept c

-- ---- a handler call

-- its answers by their numbers: 19, 20 and 21, then 31 and 33
abbrev call_at : ℕ → HandlerRefusal
call_at n = get_or (HandlerRefusal.UnknownScancode ∷ HandlerRefusal.QueueFull ∷ HandlerRefusal.MalformedRecord ∷ []) (n - 19) (get_or (HandlerRefusal.SideFull ∷ []) (n - 31) HandlerRefusal.OutsideProfile)

abbrev call_back : End (Answer Success) → Result (Unit {0}) HandlerRefusal
call_back (yields (gives s)) = Ok tt
call_back (yields (refuses n)) = Err (call_at n)
call_back (lacks x) = Err (HandlerRefusal.Lacking (lack_back x))

call_back_lem : (x : Result (Unit {0}) HandlerRefusal) → call_back (said_call x) ≡ x
call_back_lem (Ok tt) = refl
call_back_lem (Err (HandlerRefusal.Lacking l)) = ap (λ (x : Lack). Err (HandlerRefusal.Lacking x)) (lack_back_lem l)
call_back_lem (Err HandlerRefusal.UnknownScancode) = refl
call_back_lem (Err HandlerRefusal.QueueFull) = refl
call_back_lem (Err HandlerRefusal.MalformedRecord) = refl
call_back_lem (Err HandlerRefusal.SideFull) = refl
call_back_lem (Err HandlerRefusal.OutsideProfile) = refl

abbrev lamps_back : Answer Success → Bool
lamps_back (gives s) = false
lamps_back (refuses n) = true

lamps_back_lem : (b : Bool) → lamps_back (said_lamps b) ≡ b
lamps_back_lem false = refl
lamps_back_lem true = refl

abbrev event_back : Option KeyEvent → Maybe KeyEvent
event_back (some e) = Some e
event_back none = None

event_back_lem : (x : Maybe KeyEvent) → event_back (said_event x) ≡ x
event_back_lem (Some e) = refl
event_back_lem None = refl

abbrev state_coded : StateBack → StateCoded
state_coded r = record { answer = call_back r.end; failed = lamps_back r.lamps; state = r.state; event = event_back r.event; dropped = r.dropped }

abbrev record_coded : RecordBack → RecordCoded
record_coded r = record { answer = call_back r.end; failed = lamps_back r.lamps; handler = r.handler; dropped = r.dropped }

pub state_codes : (passed : HandlerState) → Codes said_state (lack_state passed) (coded_state passed)
state_codes passed = codes_by state_coded back two
  where
    back : (x : StateCoded) → state_coded (said_state x) ≡ x
    back x = rw (call_back_lem x.answer, lamps_back_lem x.failed, event_back_lem x.event)

    two : (p : Port) → said_state (coded_state passed p) ≡ lack_state passed p
    two p = rw (port_back p)

pub record_codes : (passed : KeyboardHandler) → Codes said_record (lack_record passed) (coded_record passed)
record_codes passed = codes_by record_coded back two
  where
    back : (x : RecordCoded) → record_coded (said_record x) ≡ x
    back x = rw (call_back_lem x.answer, lamps_back_lem x.failed)

    two : (p : Port) → said_record (coded_record passed p) ≡ lack_record passed p
    two p = rw (port_back p)
