-- What is left of a slice, in the form in which Rattle hands it to a callee and takes it back.
use Rattle.std.specs.Prelude.{ℕ, ◌-◌, List, ◌++◌, length, take, drop}

-- The part from k on, `&l[k..]`.
abbrev pub part : ℕ → List ℕ → List ℕ
part k l = take (length l - k) (drop k l)

-- The slice after `&mut l[k..]` was lent and came back as m.
abbrev pub restored : ℕ → List ℕ → List ℕ → List ℕ
restored k l m = take k l ++ (m ++ drop (length l - k) (drop k l))
