-- The history rule over set 2 for the keyboards' own lamp exchanges, those that `handle` makes.
use mathlib.Core.Path.{◌≡◌}
use mathlib.Core.List.{List}
use Prim.Native.Nat.{ℕ}
use lib.ListN.{take}
use Rattle.scancode_set2.specs.Convert.{convert_stream}
use Rattle.keyboard_sides.specs.declared.Side.{Side}
use Rattle.keyboard_record.specs.declared.Table.{Table}
use Rattle.keyboard.specs.KeyboardLamps.{keyboard_lamps}
use Rattle.theorem_history.specs.Past.{Past, nothing, onto}
use Rattle.theorem_history.specs.Counted.{Call, counted_of}
use Rattle.theorem_history_set2.specs.HistorySet2.{HistorySet2, BothSet2}
use Rattle.theorem_history_set2.proofs.HistorySet2.{history_set2_used, both_set2_used}

module _ (table : Table) where
  pub keyboard_history_set2 : (side : Side) (calls : Past Call) (stream : List ℕ) (room : ℕ)
      → counted_of table keyboard_lamps side calls ≡ onto nothing (convert_stream stream room).bytes
      → HistorySet2 table keyboard_lamps side calls (take (convert_stream stream room).used stream)
  keyboard_history_set2 = history_set2_used table keyboard_lamps

  pub keyboard_both_set2 : (calls : Past Call) (streams : Side → List ℕ) (rooms : Side → ℕ)
      → ((side : Side) → counted_of table keyboard_lamps side calls ≡ onto nothing (convert_stream (streams side) (rooms side)).bytes)
      → BothSet2 table keyboard_lamps calls (λ side. take (convert_stream (streams side) (rooms side)).used (streams side))
  keyboard_both_set2 = both_set2_used table keyboard_lamps
