-- A pass that is under way: what was written so far, and what the pieces ahead come to, are the whole.
use mathlib.Core.Bool.{true, false}
use mathlib.Core.Path.{◌≡◌, refl, ap, ap₂, sym, ◌∙◌}
use mathlib.Core.List.{List, [], ◌∷◌, ◌++◌, append-nil}
use Prim.Native.Nat.{ℕ, ◌+◌, ◌-◌, ◌≤◌, ◌<◌}
use native.Mathlib.Omega.{arith}
use native.Mathlib.Nat.{sub-zero}
use lib.ListN.{length, get_or, set, take, drop, length-append, length-drop}
use lib.Seq.{paste, length-take-le}
use borrow.Rule.Slice.PartMut.{put_mid}
use Rattle.std.specs.Prelude.{Ok, Err}
use Rattle.std.proofs.lemmas.List.{take_all}
use Rattle.std.proofs.lemmas.Slice.{put_mid-paste}
use Rattle.ps2_bytes.specs.declared.response.MouseId.{MouseId}
use Rattle.ps2_packet.specs.Packet.{packet_length}
use Rattle.ps2_salvage.specs.declared.SalvageRefusal.TheVariants.{NoRoom}
use Rattle.ps2_salvage.specs.Pieces.{starts, pieces}
use Rattle.ps2_salvage.specs.Salvage.{Ending, Outcome, ends, after, written, salvaged, over, Leaves}
use Rattle.ps2_salvage.proofs.Pieces.{packet_bound, at_end, at_dropped, at_short, at_packet}
use Rattle.ps2_salvage.proofs.Written.{after_packet, after_position, written_nothing, written-packet, no_room_for_packet, written_position, no_place_for_position}
use Rattle.ps2_salvage.proofs.Output.{over-length, over-set, over-paste}

-- ---- a chunk of what is left of a recording

put_mid_is : (at n : ℕ) (xs ys l : List ℕ) → ys ≡ take n l → n ≤ length l → put_mid at (at + n - at) xs ys ≡ paste xs at l n
put_mid_is at n xs ys l e h =
    put_mid-paste at (at + n - at) xs ys (take n l) n e (omega arith) (sym (length-take-le n l h))
    ∙ rw (take_all n (take n l) (omega (arith, length-take-le n l h)))

-- ---- a pass under way

pub record Going (id : MouseId) (bytes packets₀ positions₀ packets positions : List ℕ) (used packet_bytes dropped_bytes : ℕ) : Type 0 where
  pub wrote : List ℕ
  pub listed : List ℕ
  pub used_within : used ≤ length bytes
  pub wrote_within : length wrote ≤ length packets₀
  pub listed_within : length listed ≤ length positions₀
  pub wrote_counted : length wrote ≡ packet_bytes
  pub listed_counted : length listed ≡ dropped_bytes
  pub packets_now : packets ≡ over wrote packets₀
  pub positions_now : positions ≡ over listed positions₀
  pub whole : salvaged id (length packets₀) (length positions₀) bytes
      ≡ after wrote listed (written used (length packets₀ - packet_bytes) (length positions₀ - dropped_bytes) (pieces id (drop used bytes)))

pub going_begins : (id : MouseId) (bytes packets positions : List ℕ) → Going id bytes packets positions packets positions 0 0 0
going_begins id bytes packets positions =
    record {
      wrote = [];
      listed = [];
      used_within = omega arith;
      wrote_within = omega arith;
      listed_within = omega arith;
      wrote_counted = refl;
      listed_counted = refl;
      packets_now = refl;
      positions_now = refl;
      whole = rw (sub-zero (length packets), sub-zero (length positions));
    }

module _ {id : MouseId} {bytes packets₀ positions₀ packets positions : List ℕ} {used packet_bytes dropped_bytes : ℕ} (g : Going id bytes packets₀ positions₀ packets positions used packet_bytes dropped_bytes) where
  pub packets_length : length packets ≡ length packets₀
  packets_length = ap length g.packets_now ∙ over-length g.wrote packets₀ g.wrote_within

  pub positions_length : length positions ≡ length positions₀
  positions_length = ap length g.positions_now ∙ over-length g.listed positions₀ g.listed_within

  abbrev room : ℕ
  room = length packets₀ - packet_bytes

  abbrev places : ℕ
  places = length positions₀ - dropped_bytes

  -- a byte is dropped
  pub going_drops : used < length bytes → starts (get_or bytes used 0) ≡ false → dropped_bytes < length positions
      → Going id bytes packets₀ positions₀ packets (set positions dropped_bytes used) (used + 1) packet_bytes (dropped_bytes + 1)
  going_drops h e s =
      let n = g.listed_counted in
      let l = positions_length in
      let more = length-append g.listed (used ∷ []) in
      record {
        wrote = g.wrote;
        listed = g.listed ++ (used ∷ []);
        used_within = omega arith;
        wrote_within = g.wrote_within;
        listed_within = omega arith;
        wrote_counted = g.wrote_counted;
        listed_counted = omega arith;
        packets_now = g.packets_now;
        positions_now = rw (g.positions_now, ← n) (over-set g.listed positions₀ used (omega arith));
        whole =
            g.whole
            ∙ ap (after g.wrote g.listed) (ap (written used room places) (at_dropped id bytes used h e) ∙ written_position used room places _ _ (omega arith))
            ∙ after_position g.wrote g.listed (used ∷ []) _
            ∙ ap (λ (k : ℕ). after g.wrote (g.listed ++ (used ∷ [])) (written (used + 1) room k (pieces id (drop (used + 1) bytes)))) (omega arith);
      }

  -- a packet is taken
  pub going_takes : used + packet_length id ≤ length bytes → used < length bytes → starts (get_or bytes used 0) ≡ true → packet_bytes + packet_length id ≤ length packets
      → Going id bytes packets₀ positions₀ (paste packets packet_bytes (drop used bytes) (packet_length id)) positions (used + packet_length id) (packet_bytes + packet_length id) dropped_bytes
  going_takes t h e s =
      let n = g.wrote_counted in
      let l = packets_length in
      let taken = take (packet_length id) (drop used bytes) in
      let long : length taken ≡ packet_length id = length-take-le (packet_length id) (drop used bytes) (rw length-drop (omega arith)) in
      let more = length-append g.wrote taken in
      record {
        wrote = g.wrote ++ taken;
        listed = g.listed;
        used_within = t;
        wrote_within = omega arith;
        listed_within = g.listed_within;
        wrote_counted = omega arith;
        listed_counted = g.listed_counted;
        packets_now = rw (g.packets_now, ← n) (over-paste g.wrote packets₀ (drop used bytes) (packet_length id) (rw length-drop (omega arith)));
        positions_now = g.positions_now;
        whole =
            g.whole
            ∙ ap (after g.wrote g.listed)
            (ap (written used room places) (at_packet id bytes used h e t) ∙ written-packet used room places taken _ (omega arith))
            ∙ after_packet g.wrote g.listed taken _
            ∙ ap₂ (λ (k m : ℕ). after (g.wrote ++ taken) g.listed (written k m places (pieces id (drop (used + packet_length id) bytes)))) (omega arith) (omega arith);
      }

  -- the same as the code has it: the packet is a part of the recording, and is put behind what was written
  pub going_copies : {n : ℕ} {packet : List ℕ} → n ≡ packet_length id → used + n ≤ length bytes → packet ≡ take (used + n - used) (drop used bytes)
      → starts (get_or bytes used 0) ≡ true → packet_bytes + n ≤ length packets
      → Going id bytes packets₀ positions₀ (put_mid packet_bytes (packet_bytes + n - packet_bytes) packets packet) positions (used + n) (packet_bytes + n) dropped_bytes
  going_copies {n} {packet} q t i e s =
      let h : used < length bytes = omega (arith, packet_bound id) in
      let k : used + n - used ≡ n = omega arith in
      rw (put_mid_is packet_bytes n packets packet (drop used bytes) (rw k at i) (rw length-drop (omega arith)), q)
      (going_takes (rw q at t) h e (rw q at s))

  -- the code's answer here, and its outputs, are what the whole pass leaves
  abbrev pub Ends : Ending → Type 0
  Ends a = Leaves (salvaged id (length packets₀) (length positions₀) bytes) packets₀ positions₀ (record { answer = a; used = used; packet_bytes = packet_bytes; dropped = dropped_bytes }) packets positions

  -- the end, where nothing more is written
  pub going_ends : (a : Ending) → written used room places (pieces id (drop used bytes)) ≡ ends a used
      → Ends a
  going_ends a e =
      let all : salvaged id (length packets₀) (length positions₀) bytes ≡ record { answer = a; used = used; packets = g.wrote; positions = g.listed } =
      g.whole ∙ ap (after g.wrote g.listed) e ∙ rw (append-nil g.wrote, append-nil g.listed)
      in
      record {
        answer = sym (ap (λ (o : Outcome). o.answer) all);
        used = sym (ap (λ (o : Outcome). o.used) all);
        packet_bytes = rw all (sym g.wrote_counted);
        dropped = rw all (sym g.listed_counted);
        packets_left = rw all g.packets_now;
        positions_left = rw all g.positions_now;
      }

  pub ends_at_end : length bytes ≤ used
      → Ends (Ok tt)
  ends_at_end h = going_ends (Ok tt) (ap (written used room places) (at_end id bytes used h) ∙ written_nothing used room places)

  pub ends_before_tail : used < length bytes → starts (get_or bytes used 0) ≡ true → length bytes < used + packet_length id
      → Ends (Ok tt)
  ends_before_tail h e s = going_ends (Ok tt) (ap (written used room places) (at_short id bytes used h e s) ∙ written_nothing used room places)

  pub ends_for_room : used < length bytes → starts (get_or bytes used 0) ≡ true → used + packet_length id ≤ length bytes → length packets < packet_bytes + packet_length id
      → Ends (Err NoRoom)
  ends_for_room h e t s =
      let l = packets_length in
      let long : length (take (packet_length id) (drop used bytes)) ≡ packet_length id =
      length-take-le (packet_length id) (drop used bytes) (rw length-drop (omega arith))
      in
      going_ends (Err NoRoom) (ap (written used room places) (at_packet id bytes used h e t) ∙ no_room_for_packet used room places _ _ (omega (arith, g.wrote_within, g.wrote_counted)))

  pub ends_for_place : used < length bytes → starts (get_or bytes used 0) ≡ false → length positions ≤ dropped_bytes
      → Ends (Err NoRoom)
  ends_for_place h e s =
      let l = positions_length in
      going_ends (Err NoRoom) (ap (written used room places) (at_dropped id bytes used h e) ∙ no_place_for_position used room places _ _ (omega arith))
