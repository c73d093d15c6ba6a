-- One turn of the two searches of a detection, from what the code made of a byte.
use Prim.Native.Nat.{ℕ}
use mathlib.Core.Bool.{true, false}
use mathlib.Core.Path.{◌≡◌, refl}
use lib.Dec.{eqb}
use Rattle.std.specs.Prelude.{Option, Some, None, Result, Ok, Err}
use Rattle.exchange.specs.Answer.{Answer, gives}
use Rattle.exchange.specs.Repeat.{Turn, found, again}
use Rattle.ps2_bytes.specs.declared.response.KeyboardType.{KeyboardType}
use Rattle.ps2_answers.specs.declared.Failure.{Failure}
use Rattle.ps2_answers.proofs.Forgiving.{said}
use Rattle.ps2_command.specs.Search.{listed_turn}
use Rattle.ps2_keyboard.proofs.Turns.{heard_turn}
use Rattle.ps2_detect.specs.Detection.{came00, came_ab, first_turn, second_bytes}
use Rattle.ps2_detect.specs.Parts.{enabled_after}
use Rattle.ps2_detect.specs.Answers.{said_found, second_byte_read}

abbrev pub told_type : Option KeyboardType → Turn (Answer KeyboardType)
told_type (Some t) = found (gives t)
told_type None = again

pub second_turn : (b : ℕ) {x y : Option KeyboardType} → x ≡ second_byte_read b → x ≡ y → listed_turn second_bytes b ≡ told_type y
second_turn b = heard_turn told_type Some None second_bytes b

-- what a search found is what the outcome of its answer says
pub found_said : (o : Result KeyboardType Failure) → enabled_after (said o) ≡ enabled_after (said_found o)
found_said (Ok t) = refl
found_said (Err f) = refl

-- the first byte of an identity, by the code's two tests
module _ (b : ℕ) where
  pub first_00 : eqb b 0x00 ≡ true → first_turn b ≡ found came00
  first_00 q = rw q

  pub first_ab : eqb b 0x00 ≡ false → eqb b 0xAB ≡ true → first_turn b ≡ found came_ab
  first_ab p q = rw (p, q)

  pub first_other : eqb b 0x00 ≡ false → eqb b 0xAB ≡ false → first_turn b ≡ again
  first_other p q = rw (p, q)
