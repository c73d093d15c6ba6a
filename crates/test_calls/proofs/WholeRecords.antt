-- A handler call and a taking on the record that lent numbers stand for.
use mathlib.Core.Path.{◌≡◌, refl, ap, ◌∙◌}
use mathlib.Core.Bool.{true, false}
use mathlib.Core.List.{List}
use mathlib.Core.Option.{some}
use Prim.Native.Nat.{ℕ}
use lib.ListN.{length}
use Rattle.std.specs.Prelude.{Option as Maybe, Some}
use Rattle.exchange.specs.Answer.{refuses}
use Rattle.argument_words.specs.Arguments.{said_found}
use Rattle.keyboard_sides.specs.declared.Side.{Side}
use Rattle.keyboard_record.specs.declared.KeyboardHandler.{KeyboardHandler}
use Rattle.keyboard.specs.declared.CallAnswer.{CallAnswer}
use Rattle.keyboard.specs.Handler.{Called, handled, log_left}
use Rattle.keyboard.specs.KeyboardLamps.{keyboard_lamps}
use Rattle.keyboard.specs.Outcomes.{said_in_place}
use Rattle.handler_words.specs.declared.HandledWords.{HandledWords}
use Rattle.handler_words.specs.declared.TakenWords.{TakenWords}
use Rattle.handler_words.specs.Layout.{words_length}
use Rattle.handler_words.specs.Words.{record_of, words_of}
use Rattle.handler_words.specs.Arguments.{side_at}
use Rattle.handler_words.specs.Calls.{numbers_of, refusing, taken_numbers}
use Rattle.handler_words.specs.Records.{holds_record}
use Rattle.handler_words.proofs.Alone.{malformed_alone}
use Rattle.handler_words.proofs.Passing.{uncalled}
use Rattle.handler_words.proofs.Taken.{take_unread}
use Rattle.handler_words.proofs.WholeRecords.{unfit_fails}
use Rattle.test_calls.specs.Records.{RecordHandled, HandlesRecord, RecordTaken}

-- by the side that a number stands for
pub at_side : (number : ℕ) {found : Maybe Side} → said_found found ≡ side_at number → {side : Side} → found ≡ Some side → (ws script log : List ℕ) (answer : HandledWords) (ws' log' : List ℕ)
    → HandlesRecord (some side) ws script log answer ws' log' → HandlesRecord (side_at number) ws script log answer ws' log'
at_side number q e ws script log answer ws' log' a = rw (← q, e) a

-- numbers that fit no record, and such as do
module _ (ws script log : List ℕ) where
  pub handles_unfit : (side : Side) → holds_record ws ≡ false → {answer : HandledWords} → answer ≡ refusing 21 → RecordHandled side ws script log answer ws log
  handles_unfit side e q =
      let h = (malformed_alone side ws script (uncalled ws side (unfit_fails ws e)) q).with_any log in
      record { answered = h.answered; writes = rw e refl; logged = h.logged }

  pub handles_fit : (side : Side) → {h : KeyboardHandler} → (holds_record ws ≡ true) × (h ≡ record_of ws) → (call : CallAnswer) (after : KeyboardHandler) {log' : List ℕ}
      → (said_in_place call after ≡ handled keyboard_lamps side h script log) × (log' ≡ log_left keyboard_lamps side h.state script log) → {ws' : List ℕ} → ws' ≡ words_of after
      → {answer : HandledWords} → ((k : KeyboardHandler) → answer ≡ numbers_of (said_in_place call k)) → RecordHandled side ws script log answer ws' log'
  handles_fit side {h} r call after made {ws'} w {answer} a =
      let made = rw r.1 at made in
      record { answered = a after ∙ ap numbers_of made.0; writes = rw r.0 (w ∙ ap (λ (x : Called). words_of x.handler) made.0); logged = made.1 }

module _ (ws : List ℕ) (h : length ws ≡ words_length) where
  pub takes_unfit : holds_record ws ≡ false → {answer : TakenWords} → answer ≡ taken_numbers (refuses 21) → RecordTaken ws answer ws
  takes_unfit e q =
      let t = (take_unread ws h (unfit_fails ws e) q).long h in
      record { answered = t.answered; writes = rw e refl }
