-- What became of the bytes that the lamp exchanges of one
-- keyboard's calls threw away, kept from the calls alone.
use Rattle.std.specs.Prelude.{List, [], ◌∷◌, ◌++◌, ℕ}
use Rattle.std.proofs.Math.Option.{Option, none, some}
use Rattle.keyboard.specs.Rules.{Rules}
use Rattle.theorem_history.specs.Past.{Past, nothing, ◌▸◌}
use Rattle.theorem_history.specs.Counted.{Lent, scancode_after, thrown_after, joined_after, dropped_after, counted, waits}

-- The scancode that a call counts, where it took it from the waiting bytes.
abbrev pub from_waiting : Option ℕ → List ℕ → List ℕ
from_waiting none waiting = []
from_waiting (some b) [] = []
from_waiting (some b) (oldest ∷ waiting) = b ∷ []

module _ {A : Type 0} (rules : Rules A) where
  -- Of each call, the bytes that its lamp exchange threw away where it counted a scancode: all of
  -- them; those that found room to wait; and those that found none.
  unfoldable pub thrown_away : Past Lent → Past (List ℕ)
  thrown_away nothing = nothing
  thrown_away (past ▸ x) =
      thrown_away past ▸ thrown_after rules (counted rules past) (waits rules past) x.script x.log

  unfoldable pub joined : Past Lent → Past (List ℕ)
  joined nothing = nothing
  joined (past ▸ x) =
      joined past ▸ joined_after rules (counted rules past) (waits rules past) x.script x.log

  unfoldable pub dropped : Past Lent → Past (List ℕ)
  dropped nothing = nothing
  dropped (past ▸ x) =
      dropped past ▸ dropped_after rules (counted rules past) (waits rules past) x.script x.log

  -- The scancodes that calls took from the waiting bytes, in order.
  unfoldable pub taken_waiting : Past Lent → List ℕ
  taken_waiting nothing = []
  taken_waiting (past ▸ x) =
      taken_waiting past ++ from_waiting
      (scancode_after rules (counted rules past) (waits rules past) x.script x.log)
      (waits rules past)
