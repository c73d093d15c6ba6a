-- What a function of the Rust answered, and how it left its recording, as numbers.
use Rattle.std.specs.Prelude.{ℕ, Bool, List, cond, eqb, drop}
use Rattle.std.proofs.Math.Option.{Option}
use Rattle.exchange.specs.Exchange.{Exchange, End, yields, told_end}
use Rattle.exchange.specs.Answer.{Answer, number_answered}
use Rattle.exchange.specs.Keeping.{Kept}
use Rattle.argument_words.specs.Arguments.{invalid_argument}
use Rattle.ps2_kept.specs.declared.KeptBytes.{KeptBytes}
use Rattle.ps2_kept.specs.Kept.{nothing_kept}
use Rattle.ps2_kept.specs.Added.{keeping_onto}
use Rattle.port_words.specs.declared.PortWords.{PortWords}
use Rattle.port_words.specs.Told.{refusing, given_or, told}
use Rattle.port_words.specs.ToldKept.{bytes_kept}
use Rattle.port_words.specs.Tells.{Tells, TellsAt}
use Rattle.theseus_ps2.specs.Messages.{messages}
use Rattle.theseus_ps2.specs.declared.recording.Recording.{Recording}
use Rattle.theseus_calls.specs.declared.answers.NotedWords.{NotedWords}

-- The texts behind the first twelve.
abbrev pub later_messages : List (List ℕ × ℕ)
later_messages = drop 12 messages

abbrev pub with_bytes : PortWords → KeptBytes → NotedWords
with_bytes answer kept =
    record { answer = answer; count = kept.count; others = kept.others; bytes = kept.bytes }

abbrev pub refusing_noted : ℕ → NotedWords
refusing_noted n = with_bytes (refusing n) nothing_kept

-- A run that fell short asked for a byte of a port, which is 2, or for room, which is 3: whatever
-- it answers is no answer then.
abbrev pub told_run : {A : Type 0} → (A → ℕ) → Answer A → Bool → ℕ → ℕ → ℕ → PortWords
told_run value answer short asked used pairs =
    record {
      refusal = cond short (cond (eqb asked 0) 3 2) (number_answered answer);
      port = cond short asked 0;
      used = used;
      pairs = pairs;
      value = cond short 0 (given_or 0 value (yields answer));
    }

-- The same with the bytes that the recording noted; none where it fell short.
abbrev pub told_recorded : {A : Type 0} → (A → ℕ) → Answer A → Recording → NotedWords
told_recorded value answer left =
    with_bytes (told_run value answer left.short left.asked left.used left.pairs)
    (cond left.short nothing_kept left.thrown)

-- ---- what a play is told by whose bytes are noted

abbrev pub told_noted : {A : Type 0} → (A → ℕ) → End (Kept KeptBytes (Answer A)) → ℕ → ℕ
    → NotedWords
told_noted value end used pairs =
    with_bytes (told value (told_end (λ k. k.value) end) used pairs) (bytes_kept end)

-- What the exports promise: the answer, with the bytes of
-- data that were read and are no response, and the log.
abbrev pub TellsNoted : {A : Type 0} → (A → ℕ) → Exchange (Answer A) → List ℕ → List ℕ → NotedWords
    → List ℕ → Type 0
TellsNoted value t script log answer log' =
    Tells (told_noted value) (keeping_onto nothing_kept t) script log answer log'

-- The same of one with a number for its argument.
abbrev pub TellsNotedAt : {X A : Type 0} → (A → ℕ) → (X → Exchange (Answer A)) → Option X → List ℕ
    → List ℕ → NotedWords → List ℕ → Type 0
TellsNotedAt value operation argument script log answer log' =
    TellsAt (refusing_noted invalid_argument) (told_noted value)
    (λ v. keeping_onto nothing_kept (operation v)) argument script log answer log'
