-- Texts that are put into a buffer one after another, and what the buffer then holds.
use mathlib.Core.Path.{◌≡◌, refl, ap, ap₂, sym, ◌∙◌}
use mathlib.Core.List.{List, [], ◌∷◌, ◌++◌, append-nil, append_assoc}
use Prim.Native.Nat.{ℕ, ◌+◌, ◌<◌, ◌≤◌}
use native.Mathlib.Nat.{add-zero, zero-add}
use native.Mathlib.Omega.{arith}
use lib.ListN.{length, set, take, drop, length-append}
use lib.Seq.{take-nil, set-append_seam}
use borrow.Author.Tests.{lt-ltb, le-ltb}
use Rattle.buffer.specs.Buffer.{Holds, Place, place, put_byte, put}
use Rattle.buffer.specs.declared.Writer.{Writer}
use Rattle.buffer.specs.Writer.{place_of, Puts}

-- ---- one text after another

pub put_none : (p : Place) → put [] p ≡ p
unfolding put
put_none p = refl

pub put-append : (t u : List ℕ) (p : Place) → put (t ++ u) p ≡ put u (put t p)
unfolding put
put-append [] u p = refl
put-append (b ∷ t) u p = put-append t u (put_byte b p)

pub put_then : {q r : Place} (t u : List ℕ) (p : Place) → q ≡ put t p → r ≡ put u q → r ≡ put (t ++ u) p
put_then t u p e f = f ∙ ap (put u) e ∙ sym (put-append t u p)

-- ---- by a writer

pub puts_none : {w : Writer} → Puts [] w w
puts_none {w} = record { puts = sym (put_none (place_of w)); same_buffer = (refl, refl) }

pub puts_then : {t u : List ℕ} {w x y : Writer} → Puts t w x → Puts u x y → Puts (t ++ u) w y
puts_then {t} {u} {w} a b =
    record { puts = put_then t u (place_of w) a.puts b.puts; same_buffer = (b.same_buffer.0 ∙ a.same_buffer.0, b.same_buffer.1 ∙ a.same_buffer.1) }

-- ---- one byte

pub put_room : (b at : ℕ) (out : List ℕ) → at < length out → place (at + 1) (set out at b) ≡ put (b ∷ []) (place at out)
unfolding put
put_room b at out h = rw (lt-ltb at (length out) h)

pub put_full : (b at : ℕ) (out : List ℕ) → length out ≤ at → place at out ≡ put (b ∷ []) (place at out)
unfolding put
put_full b at out h = rw (le-ltb at (length out) h)

-- ---- the whole

-- a text put behind the front of a buffer
put_behind : (text front back : List ℕ) → put text (place (length front) (front ++ back))
    ≡ place (length front + length (take (length back) text)) (front ++ (take (length back) text ++ drop (length (take (length back) text)) back))
unfolding put
put_behind [] front back = rw (take-nil (length back), add-zero (length front))
put_behind (b ∷ text) front [] = ap (put text) stays ∙ put_behind text front []
  where
    stays : put_byte b (place (length front) (front ++ [])) ≡ place (length front) (front ++ [])
    stays = rw (append-nil front, le-ltb (length front) (length front) (omega arith))
put_behind (b ∷ text) front (x ∷ back) =
    ap (put text) goes ∙ put_behind text (front ++ (b ∷ [])) back
    ∙ ap₂ (λ (n : ℕ) (l : List ℕ). place n l) (omega (arith, length-append front (b ∷ []))) (append_assoc front (b ∷ []) _)
  where
    room : length front < length (front ++ x ∷ back)
    room = rw length-append (omega arith)

    goes : put_byte b (place (length front) (front ++ x ∷ back)) ≡ place (length (front ++ (b ∷ []))) ((front ++ (b ∷ [])) ++ back)
    goes =
        rw (lt-ltb (length front) (length (front ++ x ∷ back)) room)
        (ap₂ (λ (n : ℕ) (l : List ℕ). place n l) (sym (length-append front (b ∷ []))) (set-append_seam front x back b ∙ sym (append_assoc front (b ∷ []) back)))

pub put_holds : (text buffer : List ℕ) {count : ℕ} {after : List ℕ} → place count after ≡ put text (place 0 buffer) → Holds text buffer count after
put_holds text buffer e =
    let w = e ∙ put_behind text [] buffer in
    let n = ap (λ (p : Place). p.at) w ∙ zero-add (length (take (length buffer) text)) in
    record { counted = n; bytes = ap (λ (p : Place). p.bytes) w ∙ ap (λ (k : ℕ). take (length buffer) text ++ drop k buffer) (sym n) }

-- no more bytes are counted than the buffer has
pub holds_le : {text buffer : List ℕ} {count : ℕ} {after : List ℕ} → Holds text buffer count after → count ≤ length after
holds_le {text} {buffer} {count} h = omega (arith, h.counted, ap length h.bytes, length-append (take (length buffer) text) (drop count buffer))

-- and by a writer that was made at the start of a buffer
pub puts_holds : {text buffer after : List ℕ} {w x : Writer} → Puts text w x → w.next ≡ 0 → w.out.now ≡ buffer → after ≡ x.out.now → Holds text buffer x.next after
puts_holds {text} {buffer} p s b a = put_holds text buffer (rw a (p.puts ∙ rw (s, b)))
