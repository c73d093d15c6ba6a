-- What an operation answers: what it is for, or a refusal by its number (docs/REFUSALS.md).
use Rattle.std.specs.Prelude.{ℕ}
use Rattle.exchange.specs.Exchange.{Exchange, done, bind, Lack, no_script, no_log, End, yields, lacks}

-- An operation either gives a value or refuses, by the
-- number of the question that was answered "no".
pub data Answer (A : Type 0) : Type 0 where
  gives : A → Answer A
  refuses : ℕ → Answer A

-- The number of a lack: 2 where a read found the script used up, 3 where a write found no room. No
-- operation makes these numbers; only the play does.
abbrev pub lack_number : Lack → ℕ
lack_number (no_script p) = 2
lack_number no_log = 3

-- The answer of a play's end.
unfoldable pub answered : {A : Type 0} → End (Answer A) → Answer A
answered (yields a) = a
answered (lacks x) = refuses (lack_number x)

-- The number that is answered, and 0 where nothing is refused: of an answer, and of a play's end.
abbrev pub number_answered : {A : Type 0} → Answer A → ℕ
number_answered (gives a) = 0
number_answered (refuses n) = n

abbrev pub number_ended : {A : Type 0} → End (Answer A) → ℕ
number_ended (yields a) = number_answered a
number_ended (lacks x) = lack_number x

-- One operation, then another that goes by what the first gave; the refusal of the first ends both.
abbrev pub on_given : {A B : Type 0} → (A → Exchange (Answer B)) → Answer A → Exchange (Answer B)
on_given next (gives a) = next a
on_given next (refuses n) = done (refuses n)

unfoldable pub and_then : {A B : Type 0} → Exchange (Answer A) → (A → Exchange (Answer B))
    → Exchange (Answer B)
and_then t next = bind t (on_given next)

-- An operation whose refusals, whichever they are, are all the number n. A used-up script and a
-- full log are no refusals of the operation, so they stay.
abbrev pub renumbered : {A : Type 0} → ℕ → Answer A → Answer A
renumbered n (gives a) = gives a
renumbered n (refuses m) = refuses n

unfoldable pub refusing_as : {A : Type 0} → ℕ → Exchange (Answer A) → Exchange (Answer A)
refusing_as n t = bind t (λ a. done (renumbered n a))
