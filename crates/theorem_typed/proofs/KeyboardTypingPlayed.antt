-- The promise of typed text for the keyboards' own lamp exchanges, those that `handle` makes.
use mathlib.Core.Path.{◌≡◌}
use mathlib.Core.Bool.{true}
use mathlib.Core.List.{List}
use Prim.Native.Nat.{ℕ}
use Rattle.exchange.specs.Answer.{gives}
use Rattle.typing.specs.Typing.{typed}
use Rattle.keyboard_sides.specs.declared.Side.{Side}
use Rattle.keyboard_record.specs.declared.Keyboards.{Keyboards}
use Rattle.keyboard_record.specs.Record.{at_table}
use Rattle.keyboard.specs.KeyboardLamps.{keyboard_lamps}
use Rattle.theorem_history.specs.Past.{Past, nothing, onto}
use Rattle.theorem_history.specs.Counted.{Call}
use Rattle.theorem_typed.specs.Fed.{Feeds}
use Rattle.theorem_typed.specs.Played.{Played}
use Rattle.theorem_typed.proofs.TypingPlayed.{typing_played}

pub keyboard_typing_played : (keyboards : Keyboards) (side : Side) → at_table keyboards side ≡ true → (room : ℕ) (text codes : List ℕ) → typed room text ≡ gives codes
    → (calls : Past Call) → Feeds side (onto nothing codes) calls → Played keyboards keyboard_lamps side text (onto nothing codes) calls
keyboard_typing_played keyboards = typing_played keyboards keyboard_lamps
