-- Movements that are being summed: what is summed so far, and what the packets ahead come to, is the whole.
use mathlib.Core.Path.{◌≡◌, refl, ap, sym, ◌∙◌}
use mathlib.Core.List.{List}
use Prim.Native.Nat.{ℕ, ◌+◌, ◌*◌, ◌/◌, ◌≤◌, ◌<◌}
use native.Mathlib.Nat.{add-mul, one-mul}
use native.Mathlib.Omega.{arith}
use lib.IntN.{ℤ, pos, negsuc, ◌+ℤ◌, +ℤ_idr, +ℤ_assoc}
use lib.Dec.{leb→le}
use lib.ListN.{length, get_or, drop}
use lib.Signed.{mag}
use mir.Syntax.{w64}
use mir.Val.{to_z, of_z}
use mir.Facts.{to_z-of_z}
use Rattle.bits.specs.Bits.{bit}
use Rattle.ps2_bytes.specs.declared.response.MouseId.{MouseId}
use Rattle.ps2_packet.specs.declared.MousePacketGeneric.{MousePacketGeneric}
use Rattle.ps2_packet.specs.Signed.{Between}
use Rattle.ps2_packet.specs.Packet.{generic, common, x_movement, y_movement, x_overflow, x_sign, y_overflow, y_sign, packet_length}
use Rattle.ps2_packet.proofs.Movement.{movement_range}
use Rattle.ps2_packet.specs.Packets.{packets_of}
use Rattle.report.specs.Packets.{sum_of, Movements}
use Rattle.report.specs.Totals.{tally_bytes}
use Rattle.report.proofs.Sums.{mag-add}
use Rattle.report.proofs.Packets.{next_packet, no_packet_at, length_low, whole_ahead, none_ahead}

-- a movement is a number from -256 to 255
mag_between : (z : ℤ) → Between (negsuc 255) (pos 255) z → mag z ≤ 255
mag_between (pos n) r = leb→le n 255 r.1.le
mag_between (negsuc n) r = leb→le n 255 r.0.le

abbrev Small : (MousePacketGeneric → ℤ) → Type 0
Small f = (a b c : ℕ) → b < 256 → c < 256 → mag (f (generic a b c)) ≤ 255

pub x_small : Small x_movement
x_small a b c h k = mag_between (x_movement (generic a b c)) (movement_range (bit x_overflow a) (bit x_sign a) b h)

pub y_small : Small y_movement
y_small a b c h k = mag_between (y_movement (generic a b c)) (movement_range (bit y_overflow a) (bit y_sign a) c k)

read_back : (z : ℤ) → mag z ≤ 255 → to_z w64 (of_z w64 z) ≡ z
read_back z h = to_z-of_z {w = w64} {z = z} (record { sfits = omega arith })

-- a movement that a call gave, read back from its bits
pub read_small : (f : MousePacketGeneric → ℤ) {m : ℤ} {p : MousePacketGeneric} {a b c : ℕ} → Small f → m ≡ f p → p ≡ generic a b c → b < 256 → c < 256 → mag (to_z w64 (of_z w64 m)) ≤ 255
read_small f {a = a} {b} {c} little em ep h k = rw (em, ep, read_back _ (little a b c h k)) (little a b c h k)

-- one sum, of x or of y
pub record Sum (f : MousePacketGeneric → ℤ) (id : MouseId) (bytes : List ℕ) (at : ℕ) (s : ℤ) : Type 0 where
  pub so_far : s +ℤ sum_of f (packets_of id (drop at bytes)) ≡ sum_of f (packets_of id bytes)
  pub small : mag s ≤ 256 * at

module _ {f : MousePacketGeneric → ℤ} {id : MouseId} {bytes : List ℕ} {at : ℕ} {s : ℤ} (u : Sum f id bytes at s) where
  sum_goes : Small f → ((i : ℕ) → get_or bytes i 0 < 256) → at + packet_length id ≤ length bytes
      → Sum f id bytes (at + packet_length id) (s +ℤ f (generic (get_or bytes at 0) (get_or bytes (at + 1) 0) (get_or bytes (at + 2) 0)))
  unfolding sum_of
  sum_goes little fit h =
      let n = next_packet id bytes at h in
      let m = f (generic (get_or bytes at 0) (get_or bytes (at + 1) 0) (get_or bytes (at + 2) 0)) in
      let e : m ≡ f (common n.packet) = ap f (sym n.first) in
      record {
        so_far =
            +ℤ_assoc s m (sum_of f (packets_of id (drop (at + packet_length id) bytes)))
            ∙ ap (λ (z : ℤ). s +ℤ (z +ℤ sum_of f (packets_of id (drop (at + packet_length id) bytes)))) e
            ∙ ap (λ l. s +ℤ sum_of f l) (sym n.more)
            ∙ u.so_far;
        small = omega (arith, mag-add s m, u.small, little (get_or bytes at 0) _ _ (fit (at + 1)) (fit (at + 2)), length_low id);
      }

  sum_ends : length bytes < at + packet_length id → s ≡ sum_of f (packets_of id bytes)
  unfolding sum_of
  sum_ends h = sym (+ℤ_idr s) ∙ ap (λ l. s +ℤ sum_of f l) (sym (no_packet_at id bytes at h)) ∙ u.so_far

-- the next of the packets that there are is whole
pub ahead : (id : MouseId) {n i len : ℕ} → packet_length id ≡ n → i < len / n → i * n + n ≤ len
ahead id {i = i} {len} e h =
    let w : i * packet_length id + packet_length id ≤ len = whole_ahead id len i (i * packet_length id) refl (rw e h) in rw (← e) w

pub record Summing (id : MouseId) (bytes : List ℕ) (at packets : ℕ) (x y : ℤ) : Type 0 where
  pub within : at ≤ length bytes
  pub counted : packets + length (packets_of id (drop at bytes)) ≡ length (packets_of id bytes)
  pub x_sum : Sum x_movement id bytes at x
  pub y_sum : Sum y_movement id bytes at y

module _ {id : MouseId} {bytes : List ℕ} {at packets : ℕ} {x y : ℤ} (u : Summing id bytes at packets x y) where
  pub summing_goes : ((i : ℕ) → get_or bytes i 0 < 256) → at + packet_length id ≤ length bytes
      → Summing id bytes (at + packet_length id) (packets + 1) (x +ℤ x_movement (generic (get_or bytes at 0) (get_or bytes (at + 1) 0) (get_or bytes (at + 2) 0))) (y +ℤ y_movement (generic (get_or bytes at 0) (get_or bytes (at + 1) 0) (get_or bytes (at + 2) 0)))
  summing_goes fit h =
      record {
        within = h;
        counted = omega (arith, ap length (next_packet id bytes at h).more, u.counted);
        x_sum = sum_goes u.x_sum x_small fit h;
        y_sum = sum_goes u.y_sum y_small fit h;
      }

  -- the same of what calls gave, movements and sums read back from their bits
  pub summing_again : {packet : ℕ} {p : MousePacketGeneric} {xm ym x' y' : ℤ} → ((i : ℕ) → get_or bytes i 0 < 256) → length bytes < tally_bytes → packet ≡ packet_length id → at + packet ≤ length bytes
      → p ≡ generic (get_or bytes at 0) (get_or bytes (at + 1) 0) (get_or bytes (at + 2) 0) → xm ≡ x_movement p → x' ≡ x +ℤ to_z w64 (of_z w64 xm) → ym ≡ y_movement p → y' ≡ y +ℤ to_z w64 (of_z w64 ym)
      → Summing id bytes (at + packet) (packets + 1) (to_z w64 (of_z w64 x')) (to_z w64 (of_z w64 y'))
  summing_again {x' = x'} {y' = y'} fit l e h ep exm ex eym ey =
      let here = generic (get_or bytes at 0) (get_or bytes (at + 1) 0) (get_or bytes (at + 2) 0) in
      let next = summing_goes fit (rw (← e) h) in
      let ex' : x' ≡ x +ℤ x_movement here = ex ∙ ap (λ (z : ℤ). x +ℤ z) (rw (exm, ep) (read_back (x_movement here) (x_small _ _ _ (fit (at + 1)) (fit (at + 2))))) in
      let ey' : y' ≡ y +ℤ y_movement here = ey ∙ ap (λ (z : ℤ). y +ℤ z) (rw (eym, ep) (read_back (y_movement here) (y_small _ _ _ (fit (at + 1)) (fit (at + 2))))) in
      let fx : mag x' < 9223372036854775808 = rw ex' (omega (arith, next.x_sum.small, next.within)) in
      let fy : mag y' < 9223372036854775808 = rw ey' (omega (arith, next.y_sum.small, next.within)) in
      rw (to_z-of_z {w = w64} {z = x'} (record { sfits = fx }), to_z-of_z {w = w64} {z = y'} (record { sfits = fy }), ex', ey', e) next

  pub y_far : length bytes < tally_bytes → at + packet_length id ≤ length bytes → mag y < 9223372036854710272
  y_far l h = omega (arith, u.y_sum.small, length_low id)

  pub summing_ends : length bytes < at + packet_length id → Movements id bytes packets x y
  summing_ends h =
      record {
        counted = omega (arith, ap length (no_packet_at id bytes at h), u.counted);
        x_summed = sum_ends u.x_sum h;
        y_summed = sum_ends u.y_sum h;
      }

-- where as many packets were summed as there are
pub summing_all : {id : MouseId} {bytes : List ℕ} {n i whole : ℕ} {x y : ℤ} → packet_length id ≡ n → whole ≡ length bytes / n → i ≤ whole → whole ≤ i → Summing id bytes (i * n) i x y → Movements id bytes whole x y
summing_all {id = id} {bytes} {n} {i} {whole} e w a b u =
    let k : i ≡ whole = omega arith in
    let h : length bytes < i * n + packet_length id = none_ahead id (length bytes) i (i * n) (ap (λ (k : ℕ). i * k) (sym e)) (rw (e, ← w) b) in
    rw (← k) (summing_ends u h)

-- one packet more
pub summing_next : {id : MouseId} {bytes : List ℕ} {n i : ℕ} {x y : ℤ} {p : MousePacketGeneric} {xm ym : ℤ} → ((k : ℕ) → get_or bytes k 0 < 256) → length bytes < tally_bytes → packet_length id ≡ n → i < length bytes / n
    → p ≡ generic (get_or bytes (i * n) 0) (get_or bytes (i * n + 1) 0) (get_or bytes (i * n + 2) 0) → xm ≡ x_movement p → ym ≡ y_movement p → Summing id bytes (i * n) i x y
    → Summing id bytes ((i + 1) * n) (i + 1) (to_z w64 (of_z w64 (x +ℤ to_z w64 (of_z w64 xm)))) (to_z w64 (of_z w64 (y +ℤ to_z w64 (of_z w64 ym))))
summing_next {id = id} {bytes} {n} {i} fit l e h ep ex ey u =
    let a : i * n + n ≤ length bytes = ahead id e h in
    let s : (i + 1) * n ≡ i * n + n = add-mul i 1 n ∙ ap (λ (k : ℕ). i * n + k) (one-mul n) in
    rw s (summing_again u fit l (sym e) a ep ex refl ey refl)
