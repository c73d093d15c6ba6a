-- Which numbers the fields may be. "Values: 1 to 3; the
-- seven rates 10, 20, 40, 60, 80, 100, 200; 0 to 3; 0 to 7."
use Rattle.std.specs.Prelude.{Bool, true, false, ◌&&◌, List, [], ◌∷◌, ℕ, leb}
use Rattle.exchange.specs.Refuses.{among}

-- "1 to 3"
abbrev pub is_scancode_set : ℕ → Bool
is_scancode_set n = leb 1 n && leb n 3

-- "the seven rates 10, 20, 40, 60, 80, 100, 200"
abbrev pub is_sampling_rate : ℕ → Bool
is_sampling_rate n = among n (10 ∷ 20 ∷ 40 ∷ 60 ∷ 80 ∷ 100 ∷ 200 ∷ [])

-- "0 to 3"
abbrev pub is_resolution : ℕ → Bool
is_resolution n = leb n 3

-- "0 to 7"
abbrev pub is_lamps : ℕ → Bool
is_lamps n = leb n 7

-- "the repeat byte, 0 to 127"
abbrev pub is_repeat_byte : ℕ → Bool
is_repeat_byte n = leb n 127

-- The questions of the four fields that every record has, in the order of the fields.
abbrev pub four_values : List (ℕ → Bool)
four_values = is_scancode_set ∷ is_sampling_rate ∷ is_resolution ∷ is_lamps ∷ []

-- As many fields as questions, and each field answers its own with yes.
abbrev pub each_within : List (ℕ → Bool) → List ℕ → Bool
each_within [] [] = true
each_within [] (n ∷ ns) = false
each_within (value ∷ values) [] = false
each_within (value ∷ values) (n ∷ ns) = value n && each_within values ns
