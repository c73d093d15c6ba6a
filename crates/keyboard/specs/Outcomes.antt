-- What the code gives back, as the definitions have it, and
-- the parts of a call that code has of its own.
use Rattle.std.specs.Prelude.{false, List, [], ◌∷◌, ◌++◌, ◌≡◌, ℕ, ◌≤◌, length, Option as Maybe, Some, None, Result}
use Rattle.std.proofs.Math.Option.{Option, none, some}
use Rattle.exchange.specs.Exchange.{p60, no_script, Exchange, done, bind, End, yields, lacks, play}
use Rattle.exchange.specs.Answer.{Answer, gives}
use Rattle.exchange.specs.Keeping.{keeping}
use Rattle.ps2_kept.specs.declared.KeptBytes.{KeptBytes}
use Rattle.ps2_kept.specs.Thrown.{thrown}
use Rattle.ps2_kept.specs.Kept.{kept_limit, kept_of}
use Rattle.keycodes_ascii.specs.declared.KeyEvent.{KeyEvent}
use Rattle.keyboard_scancodes.specs.declared.KeyboardState.{KeyboardState}
use Rattle.keyboard.specs.declared.CallAnswer.{CallAnswer}
use Rattle.keyboard_record.specs.declared.HandlerState.{HandlerState}
use Rattle.keyboard_record.specs.declared.KeyboardHandler.{KeyboardHandler}
use Rattle.keyboard.specs.declared.Effect.{Effect}
use Rattle.keyboard.specs.declared.Handled.{Handled}
use Rattle.keyboard.specs.declared.HandlerRefusal.{HandlerRefusal}
use Rattle.keyboard.specs.Rules.{Rules}
use Rattle.keyboard.specs.Answers.{said_call, said_lamps, said_given}
use Rattle.keyboard.specs.Scancode.{Took, takes}
use Rattle.keyboard.specs.Byte.{Keyed, after_lamps, KeyEffects, key_effects_by, lamp_exchange}
use Rattle.keyboard.specs.Handler.{Effects, Called}

-- A call that gives no event and shows no lamp exchange that failed, by its answer and counts.
abbrev pub without_event : Result (Unit {0}) HandlerRefusal → ℕ → ℕ → Effect
without_event answer used pairs =
    record {
      call = record {
        answer = answer;
        lamps_failed = false;
        used = used;
        pairs = pairs;
        dropped = 0;
      };
      event = None;
    }

-- What a call gives back for its keyboard, with what is then remembered of it.
abbrev pub said_key_effect : Effect → KeyboardState → KeyEffects
said_key_effect x k =
    record {
      end = said_given x.call.answer x.event;
      lamps = said_lamps x.call.lamps_failed;
      used = x.call.used;
      pairs = x.call.pairs;
      keyboard = k;
      dropped = x.call.dropped;
    }

-- An outcome with the script bytes used and the pairs written.
abbrev pub key_effects_of : Keyed → ℕ → ℕ → KeyEffects
key_effects_of o used pairs = record {
  end = yields o.given;
  lamps = o.lamps;
  used = used;
  pairs = pairs;
  keyboard = o.keyboard;
  dropped = o.dropped;
}

-- How the taking of a byte ends, the script bytes that it uses, and the bytes that then wait.
abbrev pub taken_end : Option Took → End (Answer ℕ)
taken_end none = lacks (no_script p60)
taken_end (some t) = yields (gives t.byte)

abbrev pub taken_used : List ℕ → List ℕ → ℕ
taken_used [] [] = 0
taken_used [] (b ∷ script) = 1
taken_used (b ∷ waiting) script = 0

abbrev pub still_waiting : List ℕ → List ℕ
still_waiting [] = []
still_waiting (b ∷ waiting) = waiting

pub record Takes (waiting script : List ℕ) (end : End (Answer ℕ)) (used : ℕ) (kept : KeptBytes)
    : Type 0 where
  pub ends : end ≡ taken_end (takes waiting script)
  pub uses : used ≡ taken_used waiting script
  pub keeps : kept ≡ kept_of (still_waiting waiting)

-- What is left of a call at the byte of a key, with the
-- flags just after it: the lamp exchange, then the event.
abbrev pub on_key : {A : Type 0} → Rules A → List ℕ → ℕ → ℕ → Exchange Keyed
on_key rules waiting b flags =
    bind (keeping thrown [] (lamp_exchange rules b flags))
    (λ lit. done (after_lamps b flags (kept_of (waiting ++ lit.bytes)) lit.value))

-- What a call gives back, and the log that it leaves, are those of the operation's play: for every
-- list of at most 16 bytes that wait, where these are the kept bytes.
pub record PlaysOn (k : KeyboardState) (kept : KeptBytes) (t : List ℕ → Exchange Keyed)
    (script log : List ℕ) (x : KeyEffects) (log_left : List ℕ) : Type 0 where
  pub at : (waiting : List ℕ) → kept ≡ kept_of waiting → length waiting ≤ kept_limit
      → (x ≡ key_effects_by k (play (t waiting) script log))
      × (log_left ≡ (play (t waiting) script log).log)

-- The event that joins the queue, if one does.
abbrev pub said_event : Maybe KeyEvent → Option KeyEvent
said_event (Some e) = some e
said_event None = none

-- What a call gives back but for the places, with the state that it left.
abbrev pub said_effect : Effect → HandlerState → Effects
said_effect x s =
    record {
      end = said_call x.call.answer;
      lamps = said_lamps x.call.lamps_failed;
      used = x.call.used;
      pairs = x.call.pairs;
      state = s;
      event = said_event x.event;
      dropped = x.call.dropped;
    }

-- With the record that it left behind the reference, and by value: all that a call gives back.
abbrev pub said_in_place : CallAnswer → KeyboardHandler → Called
said_in_place x left =
    record {
      end = said_call x.answer;
      lamps = said_lamps x.lamps_failed;
      used = x.used;
      pairs = x.pairs;
      handler = left;
      dropped = x.dropped;
    }

abbrev pub said_handled : Handled → Called
said_handled x =
    record {
      end = said_call x.answer;
      lamps = said_lamps x.lamps_failed;
      used = x.used;
      pairs = x.pairs;
      handler = x.handler;
      dropped = x.dropped;
    }
