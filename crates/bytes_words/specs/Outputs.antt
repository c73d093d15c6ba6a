-- What the operations that write bytes answer as numbers, and what they leave in their outputs.
use Rattle.std.specs.Prelude.{List, ◌≡◌, ℕ, length}
use Rattle.std.proofs.Math.Option.{Option, none, some}
use Rattle.argument_words.specs.Arguments.{invalid_argument}
use Rattle.exchange.specs.Answer.{number_answered}
use Rattle.ps2_bytes.specs.declared.response.MouseId.{MouseId}
use Rattle.ps2_salvage.specs.Salvage.{answer_number, salvaged, over}
use Rattle.ps2_salvage.specs.Salvage as salvage
use Rattle.scancode_set2.specs.Convert.{converted}
use Rattle.scancode_set2.specs.Convert as convert
use Rattle.typing.specs.Typing.{typed, leaves}
use Rattle.typing.specs.Typing as typing
use Rattle.bytes_words.specs.declared.ConvertedWords.{ConvertedWords}
use Rattle.bytes_words.specs.declared.WrittenWords.{WrittenWords}
use Rattle.bytes_words.specs.declared.SalvagedWords.{SalvagedWords}

-- ---- conversion from set 2

abbrev pub converted_words : convert.Outcome → ConvertedWords
converted_words o = record { refusal = number_answered o.end; used = o.used; written = o.count }

-- A stream converted into an output: the answer, and every byte of the output.
pub record StreamConverted (stream out : List ℕ) (answer : ConvertedWords) (out' : List ℕ)
    : Type 0 where
  pub answered : answer ≡ converted_words (converted stream out)
  pub output : out' ≡ (converted stream out).output

-- ---- typing

abbrev pub written_words : typing.Outcome → WrittenWords
written_words o = record { refusal = number_answered o.end; written = o.count }

-- A text typed into an output.
pub record TextTyped (text out : List ℕ) (answer : WrittenWords) (out' : List ℕ) : Type 0 where
  pub answered : answer ≡ written_words (leaves out (typed (length out) text))
  pub output : out' ≡ (leaves out (typed (length out) text)).output

-- ---- salvage

abbrev pub salvaged_words : salvage.Outcome → SalvagedWords
salvaged_words o =
    record {
      refusal = answer_number o.answer;
      used = o.used;
      packet_bytes = length o.packets;
      dropped = length o.positions;
    }

abbrev pub no_identity : SalvagedWords
no_identity = record { refusal = invalid_argument; used = 0; packet_bytes = 0; dropped = 0 }

-- A recording salvaged into two outputs; where the identity
-- stands for nothing they stay as they were.
pub record PassMade (o : salvage.Outcome) (packets positions : List ℕ) (answer : SalvagedWords)
    (packets' positions' : List ℕ) : Type 0 where
  pub answered : answer ≡ salvaged_words o
  pub packets_left : packets' ≡ over o.packets packets
  pub positions_left : positions' ≡ over o.positions positions

abbrev pub RecordingSalvaged : Option MouseId → (bytes packets positions : List ℕ) → SalvagedWords
    → (packets' positions' : List ℕ) → Type 0
RecordingSalvaged (some id) bytes packets positions answer packets' positions' =
    PassMade (salvaged id (length packets) (length positions) bytes) packets positions answer
    packets' positions'
RecordingSalvaged none bytes packets positions answer packets' positions' =
    (answer ≡ no_identity) × (packets' ≡ packets) × (positions' ≡ positions)
