-- What is read of a session between two steps.
use Rattle.std.specs.Prelude.{Bool, false, ◌&&◌, cond, ℕ, zero, suc, ◌%◌, List, [], ◌∷◌, Option, Some, None, eqb, ltb, leb, get_or, length, ◌≡◌}
use Rattle.port_words.specs.declared.KeptWords.{KeptWords}
use Rattle.port_words.specs.ToldKept.{refusing_kept}
use Rattle.questions.specs.declared.Request.{Request}
use Rattle.questions.specs.Steps.{wants, requested}
use Rattle.sessions.specs.declared.Operation.{Operation}
use Rattle.step_words.specs.declared.ends.Session.{Session}
use Rattle.step_words.specs.declared.ends.Advance.TheVariants.{Asks}
use Rattle.step_words.specs.declared.whole.RequestWords.{RequestWords}
use Rattle.step_words.specs.Arguments.{operation_in}
use Rattle.step_words.specs.Sessions.{session_in, rest}
use Rattle.step_words.specs.Whole.{fields_of, replies_of, refusing, request_numbers}

-- The refusal of an operation that is at its end, 0 where there is none: then the place is none,
-- and the refusal a number below 256. 21 otherwise.
abbrev pub over_at : Option Operation → List ℕ → ℕ
over_at None w = 21
over_at (Some o) w = cond (eqb (get_or w 3 0) 0 && ltb (get_or w 7 0) 256) (get_or w 7 0) 21

abbrev pub over_in : List ℕ → ℕ
over_in w = over_at (operation_in (get_or w 0 0) (get_or w 1 0)) w

-- What a session asks, once more.
pub data WantedWords (w : List ℕ) : RequestWords → Type 0 where
  wanted_too_few : (length w ≡ 256 → ⊥) → WantedWords w (refusing 21)
  asks : (s : Session) (q : Request) → length w ≡ 256 → session_in (fields_of w) ≡ Some s
      → wants (rest s (replies_of w)) ≡ requested q → WantedWords w (request_numbers (Asks q))
  stands : length w ≡ 256 → session_in (fields_of w) ≡ None → WantedWords w (refusing (over_in w))

-- A byte in a number.
abbrev pub low_byte : ℕ → ℕ
low_byte w = w % 256

-- The bytes in so many numbers, from this place on.
unfoldable pub bytes_from : ℕ → ℕ → List ℕ → List ℕ
bytes_from zero at w = []
bytes_from (suc n) at w = low_byte (get_or w at 0) ∷ bytes_from n (suc at) w

-- The bytes that were thrown away: the earliest 16 at most, and how many others there were.
abbrev pub kept_told : List ℕ → KeptWords
kept_told w = record {
  refusal = 0;
  port = 0;
  used = 0;
  pairs = 0;
  count = get_or w 12 0;
  others = get_or w 13 0;
  bytes = bytes_from 16 16 w;
}

abbrev pub holds_at : Option Operation → List ℕ → Bool
holds_at None w = false
holds_at (Some o) w = leb (get_or w 12 0) 16 && leb (get_or w 13 0) 4294967295

abbrev pub KeptRead : List ℕ → KeptWords → Type 0
KeptRead w r = r ≡ cond (eqb (length w) 256)
    (cond (holds_at (operation_in (get_or w 0 0) (get_or w 1 0)) w) (kept_told w)
    (refusing_kept 21)) (refusing_kept 21)
