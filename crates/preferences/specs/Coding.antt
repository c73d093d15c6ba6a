-- The bytes of a number: "a number below 4,294,967,296 in groups of seven bits, lowest first, top
-- bit set on all but the last, shortest form".
use Rattle.std.specs.Prelude.{cond, List, [], ◌∷◌, ℕ, zero, suc, ◌+◌, ◌/◌, ◌%◌, ltb}

-- "below 4,294,967,296"
abbrev pub numbers_end : ℕ
numbers_end = 4294967296

-- "groups of seven bits": a group is below 128, and a byte of 128 more has its top bit set.
abbrev pub groups_end : ℕ
groups_end = 128

-- Five groups hold every number.
abbrev pub most_groups : ℕ
most_groups = 5

-- The bytes of a number in so many groups at most: the last group where it is below 128, otherwise
-- its lowest group with the top bit, then the others.
unfoldable pub coding_within : ℕ → ℕ → List ℕ
coding_within zero n = []
coding_within (suc k) n = cond (ltb n groups_end) (n ∷ [])
    ((n % groups_end + groups_end) ∷ coding_within k (n / groups_end))

abbrev pub coding : ℕ → List ℕ
coding n = coding_within most_groups n
