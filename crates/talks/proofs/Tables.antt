-- A byte that a table knows.
use Prim.Native.Nat.{ℕ}
use mathlib.Core.List.{List}
use mathlib.Core.Path.{◌≡◌, sym, ap, ◌∙◌}
use Rattle.std.specs.Prelude.{Result, Ok, Err}
use Rattle.bits.specs.Table.{decode}
use Rattle.bits.proofs.Table.{decode_map}
use Rattle.ps2_answers.specs.declared.Failure.{Failure}
use Rattle.ps2_bytes.specs.declared.Unlisted.{Unlisted}
use Rattle.talks.specs.declared.Stop.{Stop}
use Rattle.talks.specs.declared.Stop.TheVariants.{Refused}
use Rattle.talks.specs.Heard.{said}

-- what the code says of a byte that was read by a table, whose rows are told further
module _ {A B : Type 0} (g : A → Result B Failure) (f : Failure) where
  abbrev pub read_through : Result A Unlisted → Result B Stop
  read_through (Ok a) = said (g a)
  read_through (Err u) = Err (Refused f)

  pub reads_through : (rows : List (ℕ × A)) (b : ℕ) {x y : Result A Unlisted}
      → x ≡ decode Ok (Err (record { 0 = b })) rows b → x ≡ y → read_through y ≡ said (decode g (Err f) rows b)
  reads_through rows b p q =
      ap read_through (sym q ∙ p)
      ∙ sym (decode_map read_through Ok (Err (record { 0 = b })) rows b)
      ∙ decode_map said g (Err f) rows b

-- and as they are
pub reads : {A : Type 0} (f : Failure) (rows : List (ℕ × A)) (b : ℕ) {x y : Result A Unlisted}
    → x ≡ decode Ok (Err (record { 0 = b })) rows b → x ≡ y → read_through Ok f y ≡ said (decode Ok (Err f) rows b)
reads f rows b p q = reads_through Ok f rows b p q
