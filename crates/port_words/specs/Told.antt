-- What the end of a play and its counts are as numbers.
use Rattle.std.specs.Prelude.{ℕ}
use Rattle.exchange.specs.Exchange.{Lack, no_script, no_log, End, yields, lacks, number}
use Rattle.exchange.specs.Answer.{Answer, gives, refuses, number_ended}
use Rattle.ps2_bytes.specs.declared.response.KeyboardType.{KeyboardType}
use Rattle.ps2_bytes.specs.declared.response.KeyboardType.TheVariants.{MF2Keyboard, MF2KeyboardWithPSControllerTranslator, AncientATKeyboard}
use Rattle.ps2_answers.specs.declared.Refusal.{Refusal}
use Rattle.ps2_answers.specs.Refusals.{Success, lack_of}
use Rattle.port_words.specs.declared.PortWords.{PortWords}

-- The port of the read that a script was too short for, and 0 where there was none.
abbrev pub port_of_lack : Lack → ℕ
port_of_lack (no_script p) = number p
port_of_lack no_log = 0

abbrev pub port_lacked : {A : Type 0} → End A → ℕ
port_lacked (yields a) = 0
port_lacked (lacks x) = port_of_lack x

abbrev pub port_of_refusal : Refusal → ℕ
port_of_refusal (Refusal.Lacking l) = port_of_lack (lack_of l)
port_of_refusal (Refusal.Failed f) = 0

-- What is made of the value that is given, and something else where none is.
abbrev pub given_or : {A B : Type 0} → B → (A → B) → End (Answer A) → B
given_or other make (yields (gives a)) = make a
given_or other make (yields (refuses n)) = other
given_or other make (lacks x) = other

-- An answer: the refusal's number, 0 where there is none; the port of a lack; script bytes used and
-- pairs written; and the number of what is given, 0 where nothing is.
abbrev pub told : {A : Type 0} → (A → ℕ) → End (Answer A) → ℕ → ℕ → PortWords
told value end used pairs = record {
  refusal = number_ended end;
  port = port_lacked end;
  used = used;
  pairs = pairs;
  value = given_or 0 value end;
}

-- A refusal before anything is read.
abbrev pub refusing : ℕ → PortWords
refusing n = record { refusal = n; port = 0; used = 0; pairs = 0; value = 0 }

-- ---- the numbers of values

-- Success is no value.
abbrev pub no_value : Success → ℕ
no_value s = 0

-- A byte is its own number.
abbrev pub byte_value : ℕ → ℕ
byte_value b = b

-- The types of a keyboard, numbered as the Rust lists them.
abbrev pub type_number : KeyboardType → ℕ
type_number MF2Keyboard = 1
type_number MF2KeyboardWithPSControllerTranslator = 2
type_number AncientATKeyboard = 3
