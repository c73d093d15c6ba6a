-- Scripts that are cut short, for the code's own answers and records: by the form of contract where an answer stands alone or with kept bytes, and entry by entry where there is a record. The premises are the contracts of one call on the script and of one on its first n bytes.
use Prim.Native.Nat.{ℕ}
use mathlib.Core.List.{List}
use mathlib.Core.Path.{◌≡◌}
use lib.ListN.{take}
use Rattle.std.specs.Prelude.{Option, Result}
use Rattle.exchange.specs.Exchange.{Port, Exchange, End, played, play, Reads}
use Rattle.exchange.specs.Answer.{Answer}
use Rattle.exchange.specs.Keeping.{Kept}
use Rattle.exchange.specs.Left.{record_after}
use Rattle.ps2_answers.specs.declared.Counted.{Counted}
use Rattle.ps2_answers.specs.declared.Refusal.{Refusal}
use Rattle.ps2_answers.specs.Answers.{ended, turn_end, used_of, pairs_of, told}
use Rattle.ps2_kept.specs.declared.KeptBytes.{KeptBytes}
use Rattle.ps2_kept.specs.Kept.{nothing_kept}
use Rattle.ps2_kept.specs.Added.{keeping_onto}
use Rattle.ps2_kept.specs.Promises.{ReadsKept, PlaysKept, PlaysLentTold}
use Rattle.ps2_polling.specs.Polling.{poll_data, polled}
use Rattle.ps2_init.specs.declared.Initialized.{Initialized}
use Rattle.ps2_init.specs.declared.PS2Controller.{PS2Controller}
use Rattle.ps2_init.specs.Init.{initialize}
use Rattle.ps2_init.specs.Answers.{said_init}
use Rattle.ps2_mouse.specs.declared.PS2Mouse.{PS2Mouse}
use Rattle.ps2_mouse_identity.specs.declared.MouseLeft.{MouseLeft}
use Rattle.ps2_mouse_identity.specs.Identity.{set_mouse_id}
use Rattle.ps2_mouse_identity.specs.Answers.{said_mouse}
use Rattle.keyboard_sides.specs.declared.Side.{Side}
use Rattle.keyboard_record.specs.declared.HandlerState.{HandlerState}
use Rattle.keyboard_record.specs.declared.KeyboardHandler.{KeyboardHandler}
use Rattle.keyboard_record.specs.declared.Table.{Table}
use Rattle.keyboard_record.specs.Record.{fresh}
use Rattle.keyboard.specs.declared.Effect.{Effect}
use Rattle.keyboard.specs.declared.Handled.{Handled}
use Rattle.keyboard.specs.KeyboardLamps.{keyboard_lamps}
use Rattle.keyboard.specs.Handler.{handle, effects, log_left, handled}
use Rattle.keyboard.specs.Outcomes.{said_effect, said_in_place, said_handled}
use Rattle.keyboard.specs.declared.CallAnswer.{CallAnswer}
use Rattle.keyboard_init.specs.declared.KeyboardInitialized.{KeyboardInitialized}
use Rattle.keyboard_init.specs.KeyboardInit.{keyboard_init}
use Rattle.theorem_cut_scripts.specs.CutShort.{Handed, handed, next_port, CutShort}
use Rattle.theorem_cut_scripts.specs.Forms.{lack, answer_with, lack_with}
use Rattle.theorem_cut_scripts.specs.Coded.{Codes, coded_with, refused_for, handed_answer, handed_beside, StateCoded, RecordCoded, coded_state, coded_record}
use Rattle.theorem_cut_scripts.proofs.Forms.{plays_cut, reads_cut, plays_kept_cut, reads_kept_cut, plays_keeping_cut, left_cut, made_cut, effects_cut, handled_cut}
use Rattle.theorem_cut_scripts.proofs.Coded.{as_coded, with_codes}
use Rattle.theorem_cut_scripts.proofs.Answers.{answer_codes, said_ended, polled_codes, said_turned, kept_codes, state_codes, record_codes}

-- ---- an answer alone, or with kept bytes

module _ {X A : Type 0} {said : X → End A} {coded : Port → X} (c : Codes said lack coded) (n : ℕ) (script log : List ℕ) where
  module _ (t : Exchange A) {x x' : X} {u u' w w' : ℕ} where
    pub plays_coded : {l l' : List ℕ} → played (said x) u w l ≡ play t script log → played (said x') u' w' l' ≡ play t (take n script) log
        → CutShort n (coded (next_port n t script log)) log (handed x u w l) (handed x' u' w' l')
    plays_coded p q = as_coded c (next_port n t script log) (plays_cut t n script log p q)

    pub reads_coded : Reads t script (said x) u w → Reads t (take n script) (said x') u' w' → CutShort n (coded (next_port n t script log)) log (handed x u w log) (handed x' u' w' log)
    reads_coded p q = as_coded c (next_port n t script log) (reads_cut t n script log p q)

  module _ (t : Exchange (Kept KeptBytes A)) {x x' : X} {u u' w w' : ℕ} {k k' : KeptBytes} where
    pub plays_kept_coded : {l l' : List ℕ} → PlaysKept t script log (said x) u w l k → PlaysKept t (take n script) log (said x') u' w' l' k'
        → CutShort n (coded_with nothing_kept coded (next_port n t script log)) log (handed (record { answer = x; beside = k }) u w l) (handed (record { answer = x'; beside = k' }) u' w' l')
    plays_kept_coded p q = as_coded (kept_codes c) (next_port n t script log) (plays_kept_cut t n script log p q)

    pub reads_kept_coded : ReadsKept t script (said x) u w k → ReadsKept t (take n script) (said x') u' w' k'
        → CutShort n (coded_with nothing_kept coded (next_port n t script log)) log (handed (record { answer = x; beside = k }) u w log) (handed (record { answer = x'; beside = k' }) u' w' log)
    reads_kept_coded p q = as_coded (kept_codes c) (next_port n t script log) (reads_kept_cut t n script log p q)

-- ---- what an exchange answers, by its contract's words

module _ {T : Type 0} (r r' : Result (Counted T) (Counted Refusal)) (p : Port) {n : ℕ} {log l l' : List ℕ} where
  answer_coded : CutShort n (lack p) log (handed (ended r) (used_of r) (pairs_of r) l) (handed (ended r') (used_of r') (pairs_of r') l')
      → CutShort n (refused_for p) log (handed_answer r l) (handed_answer r' l')
  answer_coded c = as_coded answer_codes p (rw (said_ended r, said_ended r') c)

  beside_coded : {K : Type 0} (passed : K) {k k' : K}
      → CutShort n (lack_with passed p) log (handed (answer_with (ended r) k) (used_of r) (pairs_of r) l) (handed (answer_with (ended r') k') (used_of r') (pairs_of r') l')
      → CutShort n (coded_with passed refused_for p) log (handed_beside r k l) (handed_beside r' k' l')
  beside_coded passed c = as_coded (with_codes passed answer_codes) p (rw (said_ended r, said_ended r') c)

module _ {T : Type 0} (r r' : Result (Counted T) (Counted Refusal)) (n : ℕ) (script log : List ℕ) where
  module _ (t : Exchange (Answer T)) where
    pub answer_cut : {l l' : List ℕ} → told r l ≡ play t script log → told r' l' ≡ play t (take n script) log
        → CutShort n (refused_for (next_port n t script log)) log (handed_answer r l) (handed_answer r' l')
    answer_cut p q = answer_coded r r' (next_port n t script log) (plays_cut t n script log p q)

    pub answer_read_cut : Reads t script (ended r) (used_of r) (pairs_of r) → Reads t (take n script) (ended r') (used_of r') (pairs_of r')
        → CutShort n (refused_for (next_port n t script log)) log (handed_answer r log) (handed_answer r' log)
    answer_read_cut p q = answer_coded r r' (next_port n t script log) (reads_cut t n script log p q)

  module _ (t : Exchange (Kept KeptBytes (Answer T))) where
    module _ {k k' : KeptBytes} where
      pub answer_kept_cut : {l l' : List ℕ} → PlaysKept t script log (ended r) (used_of r) (pairs_of r) l k → PlaysKept t (take n script) log (ended r') (used_of r') (pairs_of r') l' k'
          → CutShort n (coded_with nothing_kept refused_for (next_port n t script log)) log (handed_beside r k l) (handed_beside r' k' l')
      answer_kept_cut p q = beside_coded r r' (next_port n t script log) nothing_kept (plays_kept_cut t n script log p q)

      pub answer_read_kept_cut : ReadsKept t script (ended r) (used_of r) (pairs_of r) k → ReadsKept t (take n script) (ended r') (used_of r') (pairs_of r') k'
          → CutShort n (coded_with nothing_kept refused_for (next_port n t script log)) log (handed_beside r k log) (handed_beside r' k' log)
      answer_read_kept_cut p q = beside_coded r r' (next_port n t script log) nothing_kept (reads_kept_cut t n script log p q)

  -- bytes that were lent
  module _ (lent : KeptBytes) (t : Exchange (Answer T)) {k k' : KeptBytes} where
    pub answer_keeping_cut : {l l' : List ℕ} → PlaysLentTold lent t script log r l k → PlaysLentTold lent t (take n script) log r' l' k'
        → CutShort n (coded_with lent refused_for (next_port n (keeping_onto lent t) script log)) log (handed_beside r k l) (handed_beside r' k' l')
    answer_keeping_cut p q = beside_coded r r' (next_port n (keeping_onto lent t) script log) lent (plays_keeping_cut lent t n script log p q)

-- one poll
pub poll_cut : (n : ℕ) (script log : List ℕ) (r r' : Result (Counted (Option ℕ)) (Counted Refusal)) → Reads poll_data script (turn_end polled r) (used_of r) (pairs_of r)
    → Reads poll_data (take n script) (turn_end polled r') (used_of r') (pairs_of r') → CutShort n (refused_for (next_port n poll_data script log)) log (handed_answer r log) (handed_answer r' log)
poll_cut n script log r r' p q =
    as_coded polled_codes (next_port n poll_data script log) (rw (said_turned polled r, said_turned polled r') (reads_cut poll_data n script log p q))

-- ---- entries with a record: it is as passed in after the cut's 2

module _ (n : ℕ) (script log : List ℕ) where
  pub init_cut : (controller : PS2Controller) (r r' : Initialized) {l l' : List ℕ}
      → (played (said_init r.answer r.controller) (used_of r.answer) (pairs_of r.answer) l ≡ play (initialize controller) script log)
      × (r.controller ≡ record_after controller (play (initialize controller) script log).end)
      → (played (said_init r'.answer r'.controller) (used_of r'.answer) (pairs_of r'.answer) l' ≡ play (initialize controller) (take n script) log)
      × (r'.controller ≡ record_after controller (play (initialize controller) (take n script) log).end)
      → CutShort n (coded_with controller refused_for (next_port n (initialize controller) script log)) log (handed_beside r.answer r.controller l) (handed_beside r'.answer r'.controller l')
  init_cut controller r r' p q =
      beside_coded r.answer r'.answer (next_port n (initialize controller) script log) controller (left_cut (initialize controller) controller n script log p q)

  pub set_mouse_id_cut : (mouse : PS2Mouse) (r r' : MouseLeft) {l l' : List ℕ}
      → (played (said_mouse r.answer r.mouse) (used_of r.answer) (pairs_of r.answer) l ≡ play (set_mouse_id mouse) script log)
      × (r.mouse ≡ record_after mouse (play (set_mouse_id mouse) script log).end)
      → (played (said_mouse r'.answer r'.mouse) (used_of r'.answer) (pairs_of r'.answer) l' ≡ play (set_mouse_id mouse) (take n script) log)
      × (r'.mouse ≡ record_after mouse (play (set_mouse_id mouse) (take n script) log).end)
      → CutShort n (coded_with mouse refused_for (next_port n (set_mouse_id mouse) script log)) log (handed_beside r.answer r.mouse l) (handed_beside r'.answer r'.mouse l')
  set_mouse_id_cut mouse r r' p q =
      beside_coded r.answer r'.answer (next_port n (set_mouse_id mouse) script log) mouse (left_cut (set_mouse_id mouse) mouse n script log p q)

  -- no record is passed in: the fresh one is given whatever happens
  pub keyboard_init_cut : (table : Table) (r r' : KeyboardInitialized) {l l' : List ℕ}
      → (told r.answer l ≡ play keyboard_init script log) × (r.handler ≡ fresh table)
      → (told r'.answer l' ≡ play keyboard_init (take n script) log) × (r'.handler ≡ fresh table)
      → CutShort n (coded_with (fresh table) refused_for (next_port n keyboard_init script log)) log (handed_beside r.answer r.handler l) (handed_beside r'.answer r'.handler l')
  keyboard_init_cut table r r' p q =
      beside_coded r.answer r'.answer (next_port n keyboard_init script log) (fresh table) (made_cut keyboard_init (fresh table) n script log p q)

  -- ---- the handler call of either side, with waiting bytes or without, on any record

  module _ (side : Side) where
    abbrev handed_effect : Effect → HandlerState → List ℕ → Handed StateCoded
    handed_effect r s l = handed (record { answer = r.call.answer; failed = r.call.lamps_failed; state = s; event = r.event; dropped = r.call.dropped }) r.call.used r.call.pairs l

    -- the state is the one behind the reference at exit
    pub handle_state_cut : (state : HandlerState) {r r' : Effect} {s s' : HandlerState} {l l' : List ℕ}
        → (said_effect r s ≡ effects keyboard_lamps side state script log) × (l ≡ log_left keyboard_lamps side state script log)
        → (said_effect r' s' ≡ effects keyboard_lamps side state (take n script) log) × (l' ≡ log_left keyboard_lamps side state (take n script) log)
        → CutShort n (coded_state state (next_port n (handle keyboard_lamps side state) script log)) log (handed_effect r s l) (handed_effect r' s' l')
    handle_state_cut state p q =
        as_coded (state_codes state) (next_port n (handle keyboard_lamps side state) script log) (effects_cut keyboard_lamps side n script log state p q)

    abbrev handed_call : Handled → List ℕ → Handed RecordCoded
    handed_call r l = handed (record { answer = r.answer; failed = r.lamps_failed; handler = r.handler; dropped = r.dropped }) r.used r.pairs l

    pub handle_cut : (handler : KeyboardHandler) {r r' : Handled} {l l' : List ℕ}
        → (said_handled r ≡ handled keyboard_lamps side handler script log) × (l ≡ log_left keyboard_lamps side handler.state script log)
        → (said_handled r' ≡ handled keyboard_lamps side handler (take n script) log) × (l' ≡ log_left keyboard_lamps side handler.state (take n script) log)
        → CutShort n (coded_record handler (next_port n (handle keyboard_lamps side handler.state) script log)) log (handed_call r l) (handed_call r' l')
    handle_cut handler p q =
        as_coded (record_codes handler) (next_port n (handle keyboard_lamps side handler.state) script log) (handled_cut keyboard_lamps side n script log handler p q)

    -- the record is the one behind the reference at exit
    abbrev handed_in_place : CallAnswer → KeyboardHandler → List ℕ → Handed RecordCoded
    handed_in_place r h l = handed (record { answer = r.answer; failed = r.lamps_failed; handler = h; dropped = r.dropped }) r.used r.pairs l

    pub handle_in_place_cut : (handler : KeyboardHandler) {r r' : CallAnswer} {h h' : KeyboardHandler} {l l' : List ℕ}
        → (said_in_place r h ≡ handled keyboard_lamps side handler script log) × (l ≡ log_left keyboard_lamps side handler.state script log)
        → (said_in_place r' h' ≡ handled keyboard_lamps side handler (take n script) log) × (l' ≡ log_left keyboard_lamps side handler.state (take n script) log)
        → CutShort n (coded_record handler (next_port n (handle keyboard_lamps side handler.state) script log)) log (handed_in_place r h l) (handed_in_place r' h' l')
    handle_in_place_cut handler p q =
        as_coded (record_codes handler) (next_port n (handle keyboard_lamps side handler.state) script log) (handled_cut keyboard_lamps side n script log handler p q)
