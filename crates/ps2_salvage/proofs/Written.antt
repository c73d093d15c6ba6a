-- What the writing of pieces comes to.
use mathlib.Core.Path.{◌≡◌, refl, ap, ap₂, sym, ◌∙◌}
use mathlib.Core.List.{List, [], ◌∷◌, ◌++◌, append_assoc, append-nil}
use Prim.Native.Nat.{ℕ, ◌+◌, ◌-◌, ◌≤◌, ◌<◌}
use lib.ListN.{length}
use borrow.Author.Tests.{le-leb, lt-leb, lt-ltb, le-ltb}
use Rattle.std.specs.Prelude.{Ok, Err}
use Rattle.ps2_salvage.specs.declared.SalvageRefusal.TheVariants.{NoRoom}
use Rattle.ps2_salvage.specs.Pieces.{Piece, packet, dropped}
use Rattle.ps2_salvage.specs.Salvage.{Outcome, ends, after, written}

-- ---- one after another

pub after-after : (a b c d : List ℕ) (o : Outcome) → after a b (after c d o) ≡ after (a ++ c) (b ++ d) o
after-after a b c d o =
    ap₂ (λ (x y : List ℕ). record { answer = o.answer; used = o.used; packets = x; positions = y }) (sym (append_assoc a c o.packets)) (sym (append_assoc b d o.positions))

pub after_packet : (a b c : List ℕ) (o : Outcome) → after a b (after c [] o) ≡ after (a ++ c) b o
after_packet a b c o = after-after a b c [] o ∙ ap (λ (l : List ℕ). after (a ++ c) l o) (append-nil b)

pub after_position : (a b d : List ℕ) (o : Outcome) → after a b (after [] d o) ≡ after a (b ++ d) o
after_position a b d o = after-after a b [] d o ∙ ap (λ (l : List ℕ). after l (b ++ d) o) (append-nil a)

-- ---- the next piece

pub written_nothing : (at room places : ℕ) → written at room places [] ≡ ends (Ok tt) at
unfolding written
written_nothing at room places = refl

pub written-packet : (at room places : ℕ) (bytes : List ℕ) (more : List Piece) → length bytes ≤ room
    → written at room places (packet bytes ∷ more) ≡ after bytes [] (written (at + length bytes) (room - length bytes) places more)
unfolding written
written-packet at room places bytes more h = rw (le-leb (length bytes) room h)

pub no_room_for_packet : (at room places : ℕ) (bytes : List ℕ) (more : List Piece) → room < length bytes → written at room places (packet bytes ∷ more) ≡ ends (Err NoRoom) at
unfolding written
no_room_for_packet at room places bytes more h = rw (lt-leb (length bytes) room h)

pub written_position : (at room places b : ℕ) (more : List Piece) → 0 < places
    → written at room places (dropped b ∷ more) ≡ after [] (at ∷ []) (written (at + 1) room (places - 1) more)
unfolding written
written_position at room places b more h = rw (lt-ltb 0 places h)

pub no_place_for_position : (at room places b : ℕ) (more : List Piece) → places ≤ 0 → written at room places (dropped b ∷ more) ≡ ends (Err NoRoom) at
unfolding written
no_place_for_position at room places b more h = rw (le-ltb 0 places h)
