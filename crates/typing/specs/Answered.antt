-- The answers, each with what it is given for: what the laws compare typing with.
use Rattle.std.specs.Prelude.{Bool, ◌||◌, ◌&&◌, List, ◌∷◌, ◌≡◌, ℕ, ◌<◌, ◌≤◌, eqb, leb}
use Rattle.std.proofs.Math.Option.{none, some}
use Rattle.exchange.specs.Answer.{Answer, gives, refuses}
use Rattle.typing.specs.Keys.{Key, key_of, keys_of}
use Rattle.typing.specs.Typing.{scancodes}
use Rattle.typing.specs.Lengths.{widths}

-- Some character of a text has no key.
pub data Keyless : List ℕ → Type 0 where
  first : {c : ℕ} {text : List ℕ} → key_of c ≡ none → Keyless (c ∷ text)
  later : {c : ℕ} {text : List ℕ} → Keyless text → Keyless (c ∷ text)

-- "25 if a character has no key; 26 if the output is too short; 25 is asked first."
pub data Answered (room : ℕ) (text : List ℕ) : Answer (List ℕ) → Type 0 where
  a_25 : Keyless text → Answered room text (refuses 25)
  a_26 : (keys : List Key) → keys_of text ≡ some keys → room < widths keys
      → Answered room text (refuses 26)
  done : (keys : List Key) → keys_of text ≡ some keys → widths keys ≤ room
      → Answered room text (gives (scancodes keys))

-- The characters that have a key: backspace, tab, line
-- feed, escape, and those from the space to the tilde.
abbrev pub is_typable : ℕ → Bool
is_typable c =
    eqb c 0x08 || (eqb c 0x09 || (eqb c 0x0A || (eqb c 0x1B || (leb 0x20 c && leb c 0x7E))))
