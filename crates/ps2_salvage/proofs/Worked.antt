-- Passes worked out: recordings of a few bytes, with what the rules say of each.
use mathlib.Core.Path.{◌≡◌, refl}
use mathlib.Core.List.{List, [], ◌∷◌}
use Prim.Native.Nat.{ℕ}
use Rattle.std.specs.Prelude.{Ok, Err}
use Rattle.bits.specs.Bits.{odd, bit}
use Rattle.ps2_bytes.specs.declared.response.MouseId.TheVariants.{Zero, Three, Four}
use Rattle.ps2_salvage.specs.declared.SalvageRefusal.TheVariants.{NoRoom}
use Rattle.ps2_salvage.specs.Pieces.{pieces_after}
use Rattle.ps2_salvage.specs.Salvage.{Ending, Outcome, written, salvaged}

abbrev outcome : Ending → ℕ → List ℕ → List ℕ → Outcome
outcome answer used packets positions = record { answer = answer; used = used; packets = packets; positions = positions }

-- the rest of a packet whose first byte was lost is dropped, and the next packet taken
lost_byte : salvaged Zero 6 4 (1 ∷ 2 ∷ 8 ∷ 3 ∷ 4 ∷ []) ≡ outcome (Ok tt) 5 (8 ∷ 3 ∷ 4 ∷ []) (0 ∷ 1 ∷ [])
unfolding odd bit pieces_after written
lost_byte = refl

between_packets : salvaged Four 8 4 (0 ∷ 8 ∷ 1 ∷ 2 ∷ 3 ∷ 7 ∷ 8 ∷ 4 ∷ 5 ∷ 6 ∷ []) ≡ outcome (Ok tt) 10 (8 ∷ 1 ∷ 2 ∷ 3 ∷ 8 ∷ 4 ∷ 5 ∷ 6 ∷ []) (0 ∷ 5 ∷ [])
unfolding odd bit pieces_after written
between_packets = refl

-- a packet's other bytes may be anything
first_byte_alone : salvaged Zero 6 0 (8 ∷ 0 ∷ 0 ∷ 255 ∷ 8 ∷ 247 ∷ []) ≡ outcome (Ok tt) 6 (8 ∷ 0 ∷ 0 ∷ 255 ∷ 8 ∷ 247 ∷ []) []
unfolding odd bit pieces_after written
first_byte_alone = refl

-- a tail too short is left, with room or without; a byte that no packet starts with is dropped there too
tail_left : salvaged Three 0 0 (8 ∷ 1 ∷ 2 ∷ []) ≡ outcome (Ok tt) 0 [] []
unfolding odd bit pieces_after written
tail_left = refl

tail_dropped : salvaged Zero 3 2 (8 ∷ 1 ∷ 2 ∷ 0 ∷ 8 ∷ 1 ∷ []) ≡ outcome (Ok tt) 4 (8 ∷ 1 ∷ 2 ∷ []) (3 ∷ [])
unfolding odd bit pieces_after written
tail_dropped = refl

-- 30: the packet that doesn't fit is not used, nor is the byte whose position doesn't
no_room : salvaged Zero 5 0 (8 ∷ 1 ∷ 2 ∷ 8 ∷ 3 ∷ 4 ∷ []) ≡ outcome (Err NoRoom) 3 (8 ∷ 1 ∷ 2 ∷ []) []
unfolding odd bit pieces_after written
no_room = refl

no_place : salvaged Zero 9 1 (0 ∷ 1 ∷ 8 ∷ 3 ∷ 4 ∷ []) ≡ outcome (Err NoRoom) 1 [] (0 ∷ [])
unfolding odd bit pieces_after written
no_place = refl
