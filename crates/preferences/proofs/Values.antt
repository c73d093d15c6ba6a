-- The questions of the four fields, and of the fifth behind them, one after another.
use mathlib.Core.Bool.{Bool, true, false, ◌&&◌}
use mathlib.Core.Path.{◌≡◌, refl}
use Prim.Native.Nat.{ℕ}
use Rattle.preferences.specs.Values.{is_scancode_set, is_sampling_rate, is_resolution, is_lamps, is_repeat_byte}
use Rattle.preferences.specs.Record.{within_values}
use Rattle.preferences.specs.declared.Fields.{Fields}
use Rattle.preferences.specs.declared.Preferences.TheVariants.{Version1, Version2}

-- that no field is left is no question
none_left : (a b c d : Bool) → (a && (b && (c && d))) ≡ (a && (b && (c && (d && true))))
none_left false b c d = refl
none_left true false c d = refl
none_left true true false d = refl
none_left true true true false = refl
none_left true true true true = refl

-- the fifth is asked behind the four
fifth_behind : (a b c d e : Bool) → ((a && (b && (c && (d && true)))) && e) ≡ (a && (b && (c && (d && (e && true)))))
fifth_behind false b c d e = refl
fifth_behind true false c d e = refl
fifth_behind true true false d e = refl
fifth_behind true true true false e = refl
fifth_behind true true true true false = refl
fifth_behind true true true true true = refl

module _ (four : Fields) where
  pub within_four : (is_scancode_set four.set && (is_sampling_rate four.rate && (is_resolution four.resolution && is_lamps four.lamps))) ≡ within_values (Version1 four)
  within_four = none_left (is_scancode_set four.set) (is_sampling_rate four.rate) (is_resolution four.resolution) (is_lamps four.lamps)

  -- "Version 2 adds a fifth": a record of version 2 is within the values where its four fields are and the fifth is too
  pub within_fifth : (again : ℕ) → (within_values (Version1 four) && is_repeat_byte again) ≡ within_values (Version2 four again)
  within_fifth again =
      fifth_behind (is_scancode_set four.set) (is_sampling_rate four.rate) (is_resolution four.resolution) (is_lamps four.lamps) (is_repeat_byte again)
