-- One step on a session's numbers: the first twelve, the
-- counts of what was thrown away, its bytes, and the replies.
use Rattle.std.specs.Prelude.{ℕ, List, Some, None, get_or, ◌≡◌}
use Rattle.ps2_kept.specs.Kept.{nothing_kept}
use Rattle.ps2_kept.specs.Added.{keeping_onto}
use Rattle.questions.specs.declared.Request.{Request}
use Rattle.questions.specs.Steps.{after, wants, requested}
use Rattle.sessions.specs.declared.Operation.{Operation}
use Rattle.step_words.specs.declared.ends.Session.{Session}
use Rattle.step_words.specs.declared.ends.Advance.{Advance}
use Rattle.step_words.specs.declared.ends.Advance.TheVariants.{Malformed, Asks, Ends}
use Rattle.step_words.specs.Sessions.{session_in, kept_in, rest, whole, left_in, said_rest}

-- What the numbers say of an advance: that they run, with what
-- is asked; or that they are at their end, with the refusal.
pub record Said (r : Advance) (f p : List ℕ) : Type 0 where
  pub asks : (q : Request) → r ≡ Asks q → wants (left_in (session_in f) p) ≡ requested q
  pub ends : (n : ℕ) → r ≡ Ends n → (session_in f ≡ None) × (get_or f 7 0 ≡ n)

-- Numbers that are no running session are left as they are. In all others the step is made, with
-- the byte that is thrown away kept.
pub record StepIn (f c b p : List ℕ) (byte : ℕ) (r : Advance) (f' c' b' p' : List ℕ) : Type 0 where
  pub malformed : session_in f ≡ None
      → (r ≡ Malformed) × ((f' ≡ f) × ((c' ≡ c) × ((b' ≡ b) × (p' ≡ p))))
  pub runs : (s : Session) → session_in f ≡ Some s → r ≡ Malformed → ⊥
  pub steps : (s : Session) → session_in f ≡ Some s
      → after (keeping_onto (kept_in c b) (rest s p)) byte
      ≡ keeping_onto (kept_in c' b') (said_rest r f' p')
  pub says : Said r f' p'

-- A beginning: the whole operation is left, with nothing kept, whatever lies where replies will.
pub record BeginIn (o : Operation) (r : Advance) (f' c' b' : List ℕ) : Type 0 where
  pub runs : r ≡ Malformed → ⊥
  pub begins : (p : List ℕ) → whole o ≡ said_rest r f' p
  pub says : (p : List ℕ) → Said r f' p
  pub kept : kept_in c' b' ≡ nothing_kept
