-- A writer: the place that is next in the buffer that was lent to it.
use Rattle.std.specs.Prelude.{◌≡◌, List, ℕ}
use Rattle.buffer.specs.declared.Writer.{Writer}
use Rattle.buffer.specs.Buffer.{Place, place, put}

abbrev pub place_of : Writer → Place
place_of w = place w.next w.out.now

-- The buffer of a writer is still the one that was lent, so
-- what the writer leaves in it its lender has.
abbrev pub SameBuffer : Writer → Writer → Type 0
SameBuffer old new = (new.out.ghost_name ≡ old.out.ghost_name) × (new.out.ref_ptr ≡ old.out.ref_ptr)

-- A text was put at a writer's next place, and nothing else.
pub record Puts (text : List ℕ) (old new : Writer) : Type 0 where
  pub puts : place_of new ≡ put text (place_of old)
  pub same_buffer : SameBuffer old new
