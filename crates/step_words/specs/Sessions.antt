-- A session in numbers: an operation, the replies so far and a place in the question that is being
-- asked; what is left of the operation then.
use Rattle.std.specs.Prelude.{cond, ℕ, ltb, List, Option, Some, None, Result, Ok, Err, get_or, take}
use Rattle.exchange.specs.Exchange.{Exchange, done, bind}
use Rattle.exchange.specs.Keeping.{noted}
use Rattle.ps2_answers.specs.declared.Failure.{Failure}
use Rattle.ps2_kept.specs.declared.KeptBytes.{KeptBytes}
use Rattle.ps2_kept.specs.Added.{added_thrown}
use Rattle.questions.specs.Steps.{Wants, a_read, a_write, nothing, requested}
use Rattle.sessions.specs.declared.Operation.{Operation}
use Rattle.sessions.specs.declared.Ending.{Ending}
use Rattle.sessions.specs.Operations.{talk_of, refusal_told}
use Rattle.sessions.specs.Rounds.{rounds, exchange_of, rest_of}
use Rattle.step_words.specs.declared.ends.Session.{Session}
use Rattle.step_words.specs.declared.ends.Advance.{Advance}
use Rattle.step_words.specs.declared.ends.Advance.TheVariants.{Malformed, Asks, Ends}
use Rattle.step_words.specs.Places.{onward, place_in}
use Rattle.step_words.specs.Arguments.{operation_in}

-- The replies that there is room for. No operation asks more questions.
abbrev pub room : ℕ
room = 224

-- The session that the first twelve numbers stand for, if it runs.
abbrev pub counted_in : Option Operation → List ℕ → Option Session
counted_in o f = onward o (λ o. cond (ltb (get_or f 2 0) room)
    (onward (place_in f) (λ g. Some (record { operation = o; count = get_or f 2 0; at = g }))) None)

abbrev pub session_in : List ℕ → Option Session
session_in f = counted_in (operation_in (get_or f 0 0) (get_or f 1 0)) f

-- What the operation came to, once it is at its end.
abbrev pub ending_in : List ℕ → Ending
ending_in f = record {
  refusal = get_or f 7 0;
  first = get_or f 8 0;
  second = get_or f 9 0;
  third = get_or f 10 0;
  fourth = get_or f 11 0;
}

-- The bytes that were thrown away so far.
abbrev pub kept_in : List ℕ → List ℕ → KeptBytes
kept_in counts bytes =
    record { bytes = bytes; count = get_or counts 0 0; others = get_or counts 1 0 }

-- A failure is handed back by its number.
abbrev pub ended : Result Ending Failure → Ending
ended (Ok e) = e
ended (Err f) = refusal_told f

-- An operation that hands back numbers; and what is left of a session on its replies.
abbrev pub whole : Operation → Exchange Ending
whole o = bind (exchange_of (rounds (talk_of o))) (λ r. done (ended r))

abbrev pub rest : Session → List ℕ → Exchange Ending
rest s replies =
    bind (rest_of (rounds (talk_of s.operation)) (take s.count replies) s.at) (λ r. done (ended r))

-- What a byte adds to the bytes that are kept: one from port 60 that is thrown away.
abbrev pub noting : Wants → KeptBytes → ℕ → KeptBytes
noting (a_read p) k b = noted added_thrown p k b
noting (a_write p v) k b = k
noting nothing k b = k

-- What the code says that is asked next, and what is left then.
abbrev pub said_request : Advance → Wants
said_request Malformed = nothing
said_request (Asks q) = requested q
said_request (Ends n) = nothing

abbrev pub left_in : Option Session → List ℕ → Exchange Ending
left_in None replies = done (record { refusal = 0; first = 0; second = 0; third = 0; fourth = 0 })
left_in (Some s) replies = rest s replies

abbrev pub said_rest : Advance → List ℕ → List ℕ → Exchange Ending
said_rest Malformed f p = done (ending_in f)
said_rest (Asks q) f p = left_in (session_in f) p
said_rest (Ends n) f p = done (ending_in f)
