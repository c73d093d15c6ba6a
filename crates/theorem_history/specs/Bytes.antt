-- The rule's sentences on flags, said of bytes, with nothing of strokes or of the table: what the
-- laws of the words compare the rule with.
use Rattle.std.specs.Prelude.{Bool, true, false, not, cond, ◌&&◌, List, [], ◌∷◌, ◌≡◌, ℕ, suc, ◌<◌, eqb, get_or}
use Rattle.bits.specs.Bits.{odd}
use Rattle.scancode_set1.specs.Set1.{release_of}
use Rattle.keyboard_sides.specs.declared.Side.{Side}
use Rattle.theorem_history.specs.Past.{Past, nothing, ◌▸◌, onto}
use Rattle.theorem_history.specs.Said.{prefix_said}
use Rattle.keyboard_scancodes.specs.FlagTable.{Kind, lock, held, left, right}
use Rattle.theorem_history.specs.Counted.{Call, handling, taking}

-- Every number is a byte.
pub data AllBytes : Past ℕ → Type 0 where
  no_bytes : AllBytes nothing
  one_more : {past : Past ℕ} {b : ℕ} → AllBytes past → b < 256 → AllBytes (past ▸ b)

-- Every script of the calls holds bytes.
pub data ByteCalls : Past Call → Type 0 where
  no_calls : ByteCalls nothing
  one_handling : {past : Past Call} {side : Side} {script log : List ℕ} → ByteCalls past
      → ((n : ℕ) → get_or script n 0 < 256) → ByteCalls (past ▸ handling side script log)
  one_taking : {past : Past Call} → ByteCalls past → ByteCalls (past ▸ taking)

-- How many times the byte p came.
unfoldable pub times_byte : ℕ → Past ℕ → ℕ
times_byte p nothing = 0
times_byte p (past ▸ b) = cond (eqb b p) (suc (times_byte p past)) (times_byte p past)

-- The last of the bytes p and r that came was p.
unfoldable pub last_of : ℕ → ℕ → Past ℕ → Bool
last_of p r nothing = false
last_of p r (past ▸ b) = cond (eqb b p) true (cond (eqb b r) false (last_of p r past))

-- The byte p is not among these.
unfoldable pub absent : ℕ → List ℕ → Bool
absent p [] = true
absent p (b ∷ later) = not (eqb b p) && absent p later

-- "The last of p and r was p", by the place of that byte: p came, and after it neither p nor r.
pub record Last (p r : ℕ) (bytes : Past ℕ) : Type 0 where
  pub earlier : Past ℕ
  pub later : List ℕ
  pub split : bytes ≡ onto (earlier ▸ p) later
  pub no_p : absent p later ≡ true
  pub no_r : absent r later ≡ true

-- The bytes of which f holds, asked whether the byte came directly after E0 or E1.
unfoldable pub those : (Bool → Bool) → Past ℕ → Past ℕ
those f nothing = nothing
those f (past ▸ b) = cond (f (prefix_said past)) (those f past ▸ b) (those f past)

-- The bytes that came directly after E0 or E1, and the rest.
abbrev pub after_prefix : Past ℕ → Past ℕ
after_prefix bytes = those (λ x. x) bytes

abbrev pub the_rest : Past ℕ → Past ℕ
the_rest bytes = those not bytes

-- "A lock is on exactly when its press byte came an odd number of times; any other key is held
-- exactly when the last byte of its own press and release pair was the press, right Control judging
-- only bytes directly after E0 or E1, left Control the rest."
unfoldable pub demanded : Kind → ℕ → Past ℕ → Bool
demanded lock press bytes = odd (times_byte press bytes)
demanded held press bytes = last_of press (release_of press) bytes
demanded left press bytes = last_of press (release_of press) (the_rest bytes)
demanded right press bytes = last_of press (release_of press) (after_prefix bytes)
