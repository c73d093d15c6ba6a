use Rattle.std.proofs.Common.{◌≡◌, ℕ, ◌+◌, ◌-◌, ◌≤◌, List, ◌++◌, rules, arith, length, take, slice_range, sym, ap, ◌∙◌, subst, le_refl, drop_at, length-take-le}
use Rattle.std.proofs.lemmas.Slice.{take-put_mid_below}
use Rattle.std.specs.Io.KnownBytes.{Consumes}
use Rattle.std.proofs.KnownBytes.{Consumes-trans, Consumes-kept}
use borrow.Rule.Slice.PartMut.{put_mid, post_of}
use lib.Seq.{take-add, take-append-le}
use Rattle.program_status.proofs.read_full.Goals as goal
use Rattle.program_status.proofs.read_full.Goals.{in-Ok, in-Err+else-ne}

-- What stood before a place, and what came from there on, is what stands before the place behind.
take_split : (a b : ℕ) (old new : List ℕ) → a ≤ b → take a new ≡ take a old → take a old ++ slice_range new a b ≡ take b new
take_split a b old new h front =
    let same : a + (b - a) ≡ b = omega arith in
    ap (λ l. l ++ slice_range new a b) (sym front) ∙ sym (take-add a (b - a) new) ∙ ap (λ n. take n new) same

slice_range-put_mid : (a k n : ℕ) (xs ys : List ℕ) → a ≤ length xs → n ≤ length ys → slice_range (put_mid a k xs ys) a (a + n) ≡ take n ys
slice_range-put_mid a k n xs ys within fits =
    let same : (a + n) - a ≡ n = omega arith in
    let after = post_of a k xs in
    ap (take ((a + n) - a)) (drop_at (take a xs) (ys ++ after) a (length-take-le a xs within)) ∙ ap (λ m. take m (ys ++ after)) same ∙ take-append-le n ys after fits

pub loop-preserved : goal.loop-preserved
loop-preserved g c =
    let within = c.loop.invariant.1 in
    let from = c.loop.filled in
    let room = length c.loop.buffer - from in
    let front = take-put_mid_below _ _ _ _ _ (le_refl _) within in
    let after = put_mid from room c.loop.buffer c.read.new.buf in
    let consumed : ℕ → Type 0 = λ n. Consumes (g.R.Read.remaining c.args.input.now) (g.R.Read.remaining c.read.new.self) (take n after) in
    elim c.match-read.branch [
      | in-Ok w ↦
          let part = slice_range-put_mid from room w.in-Ok.count c.loop.buffer c.read.new.buf within w.in-Ok.ensures.bound.0 in
          let joined = take_split from (from + w.in-Ok.count) c.loop.buffer after (omega arith) front in
          let bytes = subst (Consumes _ _) (ap (λ l. take from c.loop.buffer ++ l) (sym part) ∙ joined) (Consumes-trans _ _ _ _ _ c.loop.invariant.2 w.in-Ok.ensures.bytes.0) in
          (search rules, search rules, subst consumed (sym w.filled-is) bytes)
      | in-Err+else-ne w ↦
          let bytes = subst (Consumes _ _) (sym front) (Consumes-kept _ _ _ _ c.loop.invariant.2 w.in-Err.ensures.bytes) in
          (search rules, search rules, subst consumed (sym w.filled-is) bytes)
    ]

-- of a read that failed nothing is said of the input's end
pub returns-then-ne-clause-ends : goal.returns-then-ne-clause-ends
returns-then-ne-clause-ends g c = tt
