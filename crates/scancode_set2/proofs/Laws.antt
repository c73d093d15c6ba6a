-- Laws of the conversion: where it ends, what was converted before that, streams one after another, what it writes and how much.
use mathlib.Core.Path.{◌≡◌, refl, sym, ap, ◌∙◌}
use mathlib.Core.Bool.{Bool, true, false, false≢true}
use mathlib.Core.List.Memᴰ
use mathlib.Core.List.{List, ◌∷◌, ◌++◌, Memᴰ}
use mathlib.Core.Option.{some}
use Prim.Native.Nat.{ℕ, suc, ◌+◌, ◌-◌, ◌≤◌}
use native.Mathlib.Nat.{zero-add, add_assoc, suc-add, sub-zero}
use native.Mathlib.Omega.{arith}
use lib.ListN.{length, take, drop, length-append, length-drop}
use lib.Seq.{take_all}
use borrow.Author.Tests.{eqb-true, ne_eqb}
use Rattle.exchange.specs.Answer.{Answer, gives, refuses}
use Rattle.ps2_answers.specs.Refusals.{Success, success}
use Rattle.scancode_set2.specs.Table.{entry_of}
use Rattle.scancode_set2.specs.Codes.{break_byte, is_break, is_prefix, Code, alone, after_f0, codes, width}
use Rattle.scancode_set2.specs.Convert.{with_top_bit, by_entry, Converted, ends, writes, convert_stream, Outcome, outcome, leaves, converted}
use Rattle.scancode_set2.specs.Stops.{Convertible, a_prefix, a_press, a_release, Stop, used_up, no_entry, no_entry_after, full, ends_after, Written, Became, no_codes, one_code, whole, behind, on_done, then_into, Lengths}
use Rattle.scancode_set2.proofs.Table.{entry_above}
use Rattle.scancode_set2.proofs.Codes.{codes_none, codes_alone, codes_after}
use Rattle.scancode_set2.proofs.Becomes.{alone_prefix, alone_entry, after_entry, Alone, is_a_prefix, is_press, is_no_press, alone_is}
use Rattle.scancode_set2.proofs.Progress.{behind_none}
use Rattle.scancode_set2.proofs.Goes.{alone_written, alone_full, alone_refused, after_written, after_full, after_refused, converts_none, converts_cut, Goes, at_end, by_alone, by_after, goes}

-- ---- lists behind a code

one_more : (n : ℕ) → 1 + n ≡ suc n
one_more n = omega arith

two_more : (n : ℕ) → 2 + n ≡ suc (suc n)
two_more n = omega arith

module _ (n : ℕ) (l : List ℕ) where
  drop-one : (b : ℕ) → drop (1 + n) (b ∷ l) ≡ drop n l
  drop-one b = rw (one_more n)

  take-one : (b : ℕ) → take (1 + n) (b ∷ l) ≡ b ∷ take n l
  take-one b = rw (one_more n)

  drop_two : (b c : ℕ) → drop (2 + n) (b ∷ c ∷ l) ≡ drop n l
  drop_two b c = rw (two_more n)

  take_two : (b c : ℕ) → take (2 + n) (b ∷ c ∷ l) ≡ b ∷ c ∷ take n l
  take_two b c = rw (two_more n)

writes-behind : (c : Code) (x used : ℕ) (bytes : List ℕ) (r : Converted) → writes c x (behind used bytes r) ≡ behind (width c + used) (x ∷ bytes) r
writes-behind c x used bytes r = rw (add_assoc (width c) used r.used)

-- ---- where it ends

stop_at : {stream : List ℕ} {room : ℕ} {r : Converted} → Goes stream room r → Stop (drop r.used stream) (room - length r.bytes) r.end
stop_at {room = room} (at_end s) = rw (sub-zero room) s
stop_at (by_alone {b = b} {room = room} {stream = stream} {r = r} n q w g) =
    let e : suc room - suc (length r.bytes) ≡ room - length r.bytes = omega arith in
    rw (drop-one r.used stream b, e) (stop_at g)
stop_at (by_after {c = c} {room = room} {stream = stream} {r = r} q w g) =
    let e : suc room - suc (length r.bytes) ≡ room - length r.bytes = omega arith in
    rw (drop_two r.used stream break_byte c, e) (stop_at g)

prefix_no_break : (b : ℕ) → is_prefix b ≡ true → is_break b ≡ false
prefix_no_break b p = by (is_break b) refl
  where
    by : (t : Bool) → is_break b ≡ t → is_break b ≡ false
    by true e = absurd (false≢true (rw (eqb-true b break_byte e) at p))
    by false e = e

entry_no_break : (c : ℕ) {e : ℕ} → entry_of c ≡ some e → is_break c ≡ false
entry_no_break c e = by (is_break c) refl
  where
    by : (t : Bool) → is_break c ≡ t → is_break c ≡ false
    by true q = let z : ◌≡◌ {A = ℕ} 0 1 = cc (entry_above c (omega (arith, eqb-true c break_byte q))) in absurd (omega arith)
    by false q = q

full_ends : {stream : List ℕ} → Convertible stream → convert_stream stream 0 ≡ ends (refuses 23)
full_ends (a_prefix {b = b} {stream = stream} p) = alone_full stream b (prefix_no_break b p) (alone_prefix b p)
full_ends (a_press {c = c} {stream = stream} e) = by (alone_is c)
  where
    by : Alone c → convert_stream (c ∷ stream) 0 ≡ ends (refuses 23)
    by (is_a_prefix p q) = alone_full stream c (entry_no_break c e) q
    by (is_press e' q) = alone_full stream c (entry_no_break c e) q
    by (is_no_press p n q) = let z : ◌≡◌ {A = ℕ} 0 1 = cc in absurd (omega arith)
full_ends (a_release {c = c} {stream = stream} e) = after_full stream c (after_entry c ∙ ap (by_entry with_top_bit) e)

-- wherever there is a reason it ends, and so each answer is given exactly there
pub stop_ends : {stream : List ℕ} {room : ℕ} {a : Answer Success} → Stop stream room a → convert_stream stream room ≡ ends a
stop_ends (used_up {room = room}) = converts_none room
stop_ends (no_entry {c = c} {room = room} {stream = stream} n p e) =
    alone_refused stream c room (ne_eqb c break_byte n) (alone_entry c p ∙ ap (by_entry (λ e. e)) e)
stop_ends (no_entry_after {c = c} {room = room} {stream = stream} e) = after_refused stream c room (after_entry c ∙ ap (by_entry with_top_bit) e)
stop_ends (full v) = full_ends v
stop_ends (ends_after {room = room}) = converts_cut room

-- ---- what was converted before it ends

used_part : {stream : List ℕ} {room : ℕ} {r : Converted} → Goes stream room r → convert_stream (take r.used stream) room ≡ whole r
used_part {room = room} (at_end s) = converts_none room
used_part (by_alone {b = b} {x = x} {room = room} {stream = stream} {r = r} n q w g) =
    ap (λ (l : List ℕ). convert_stream l (suc room)) (take-one r.used stream b)
    ∙ alone_written (take r.used stream) b room n q ∙ ap (writes (alone b) x) (used_part g)
used_part (by_after {c = c} {x = x} {room = room} {stream = stream} {r = r} q w g) =
    ap (λ (l : List ℕ). convert_stream l (suc room)) (take_two r.used stream break_byte c)
    ∙ after_written (take r.used stream) c room q ∙ ap (writes (after_f0 c) x) (used_part g)

-- ---- one stream after another

resume : {stream : List ℕ} {room : ℕ} {r : Converted} → Goes stream room r → (later : List ℕ) (more : ℕ)
    → convert_stream (stream ++ later) (length r.bytes + more) ≡ behind r.used r.bytes (convert_stream (drop r.used (stream ++ later)) more)
resume {stream = stream} (at_end s) later more = rw (zero-add more) (sym (behind_none (convert_stream (stream ++ later) more)))
resume (by_alone {b = b} {x = x} {room = room} {stream = stream} {r = r} n q w g) later more =
    let k = length r.bytes in
    let rest = convert_stream (drop r.used (stream ++ later)) more in
    ap (convert_stream (b ∷ stream ++ later)) (suc-add k more)
    ∙ alone_written (stream ++ later) b (k + more) n q ∙ ap (writes (alone b) x) (resume g later more) ∙ writes-behind (alone b) x r.used r.bytes rest
    ∙ ap (λ (l : List ℕ). behind (1 + r.used) (x ∷ r.bytes) (convert_stream l more)) (sym (drop-one r.used (stream ++ later) b))
resume (by_after {c = c} {x = x} {room = room} {stream = stream} {r = r} q w g) later more =
    let k = length r.bytes in
    let rest = convert_stream (drop r.used (stream ++ later)) more in
    ap (convert_stream (break_byte ∷ c ∷ stream ++ later)) (suc-add k more)
    ∙ after_written (stream ++ later) c (k + more) q ∙ ap (writes (after_f0 c) x) (resume g later more) ∙ writes-behind (after_f0 c) x r.used r.bytes rest
    ∙ ap (λ (l : List ℕ). behind (2 + r.used) (x ∷ r.bytes) (convert_stream l more)) (sym (drop_two r.used (stream ++ later) break_byte c))

still_convertible : {stream : List ℕ} → Convertible stream → (later : List ℕ) → Convertible (stream ++ later)
still_convertible (a_prefix p) later = a_prefix p
still_convertible (a_press e) later = a_press e
still_convertible (a_release e) later = a_release e

module _ (later : List ℕ) where
  join_end : {stream : List ℕ} {room : ℕ} {a : Answer Success} → Stop stream room a → (a ≡ refuses 24 → ⊥)
      → convert_stream (stream ++ later) room ≡ then_into (ends a) (convert_stream later) room
  join_end (used_up {room = room}) k = rw (sub-zero room) (sym (behind_none (convert_stream later room)))
  join_end (no_entry n p e) k = stop_ends (no_entry n p e)
  join_end (no_entry_after e) k = stop_ends (no_entry_after e)
  join_end (full v) k = stop_ends (full (still_convertible v later))
  join_end ends_after k = absurd (k refl)

  writes_done : (c : Code) (x : ℕ) (r more : Converted) (a : Answer Success) → writes c x (on_done a r more) ≡ on_done a (writes c x r) more
  writes_done c x r more (gives s) = writes-behind c x r.used r.bytes more
  writes_done c x r more (refuses n) = refl

  writes_then : (c : Code) (x room : ℕ) (r : Converted) → writes c x (then_into r (convert_stream later) room) ≡ then_into (writes c x r) (convert_stream later) (suc room)
  writes_then c x room r =
      let e : suc room - suc (length r.bytes) ≡ room - length r.bytes = omega arith in
      rw e (writes_done c x r (convert_stream later (room - length r.bytes)) r.end)

  join : {stream : List ℕ} {room : ℕ} {r : Converted} → Goes stream room r → (r.end ≡ refuses 24 → ⊥) → convert_stream (stream ++ later) room ≡ then_into r (convert_stream later) room
  join (at_end s) k = join_end s k
  join (by_alone {b = b} {x = x} {room = room} {stream = stream} {r = r} n q w g) k =
      alone_written (stream ++ later) b room n q ∙ ap (writes (alone b) x) (join g k) ∙ writes_then (alone b) x room r
  join (by_after {c = c} {x = x} {room = room} {stream = stream} {r = r} q w g) k =
      after_written (stream ++ later) c room q ∙ ap (writes (after_f0 c) x) (join g k) ∙ writes_then (after_f0 c) x room r

-- ---- what it writes

became : {stream : List ℕ} {room : ℕ} {r : Converted} → Goes stream room r → Became (codes (take r.used stream)) r.bytes
became (at_end s) = rw codes_none no_codes
became (by_alone {b = b} {stream = stream} {r = r} n q w g) =
    rw (take-one r.used stream b, codes_alone b (take r.used stream) n) (one_code q (became g))
became (by_after {c = c} {stream = stream} {r = r} q w g) =
    rw (take_two r.used stream break_byte c, codes_after c (take r.used stream)) (one_code q (became g))

more_written : {x : ℕ} {bytes : List ℕ} → Written x → ((b : ℕ) → Memᴰ b bytes → Written b) → (b : ℕ) → Memᴰ b (x ∷ bytes) → Written b
more_written w all b (Memᴰ.head e) = rw e w
more_written w all b (Memᴰ.tail m) = all b m

written_in : {stream : List ℕ} {room : ℕ} {r : Converted} → Goes stream room r → (b : ℕ) → Memᴰ b r.bytes → Written b
written_in (at_end s) b m = absurd (Memᴰ.not-nil m)
written_in (by_alone n q w g) b m = more_written w (λ b m. written_in g b m) b m
written_in (by_after q w g) b m = more_written w (λ b m. written_in g b m) b m

-- ---- how much

done_used : {stream : List ℕ} {room : ℕ} {a : Answer Success} → Stop stream room a → a ≡ gives success → length stream ≡ 0
done_used used_up e = refl
done_used (no_entry n p q) e = let z : ◌≡◌ {A = ℕ} 0 1 = cc in absurd (omega arith)
done_used (no_entry_after q) e = let z : ◌≡◌ {A = ℕ} 0 1 = cc in absurd (omega arith)
done_used (full v) e = let z : ◌≡◌ {A = ℕ} 0 1 = cc in absurd (omega arith)
done_used ends_after e = let z : ◌≡◌ {A = ℕ} 0 1 = cc in absurd (omega arith)

lengths : {stream : List ℕ} {room : ℕ} {r : Converted} → Goes stream room r → Lengths stream room r
lengths (at_end s) = record { used_le = omega arith; written_le_used = omega arith; written_le_room = omega arith }
lengths (by_alone n q w g) = let l = lengths g in record { used_le = omega arith; written_le_used = omega arith; written_le_room = omega arith }
lengths (by_after q w g) = let l = lengths g in record { used_le = omega arith; written_le_used = omega arith; written_le_room = omega arith }

-- ---- the laws, of every stream and room

module _ (stream : List ℕ) (room : ℕ) where
  abbrev r : Converted
  r = convert_stream stream room

  -- It ends at the place that was reached, for the reason that its answer names.
  pub convert_stops : Stop (drop r.used stream) (room - length r.bytes) r.end
  convert_stops = stop_at (goes stream room)

  -- What was converted before a refusal is the conversion of the part that was used.
  pub convert_used : convert_stream (take r.used stream) room ≡ whole r
  convert_used = used_part (goes stream room)

  -- The bytes written are what the codes that were used become, one for each, in order.
  pub convert_became : Became (codes (take r.used stream)) r.bytes
  convert_became = became (goes stream room)

  -- Where nothing is refused, all of the stream is used.
  pub convert_done : r.end ≡ gives success → take r.used stream ≡ stream
  convert_done e = take_all r.used stream (omega (arith, done_used convert_stops e, length-drop r.used stream))

  -- Every byte of the output is E0 or E1 passed through or a table entry, with the top bit or without.
  pub convert_written : (b : ℕ) → Memᴰ b r.bytes → Written b
  convert_written = written_in (goes stream room)

  -- The output is never longer than the input that was used, nor than its room.
  pub convert_lengths : Lengths stream room r
  convert_lengths = lengths (goes stream room)

  -- Nothing is remembered: whatever comes behind the stream, converting on from the place that was reached, into more room, makes the whole.
  pub convert_resumed : (later : List ℕ) (more : ℕ)
      → convert_stream (stream ++ later) (length r.bytes + more) ≡ behind r.used r.bytes (convert_stream (drop r.used (stream ++ later)) more)
  convert_resumed = resume (goes stream room)

  -- Two streams one after the other are converted as the two joined, where the first doesn't end inside F0.
  pub convert_joined : (later : List ℕ) → (r.end ≡ refuses 24 → ⊥) → convert_stream (stream ++ later) room ≡ then_into r (convert_stream later) room
  convert_joined later = join later (goes stream room)

-- ---- what a call leaves

module _ (stream out : List ℕ) {a : Answer Success} {used count : ℕ} {left : List ℕ} (h : outcome a used count left ≡ converted stream out) where
  abbrev made : Converted
  made = convert_stream stream (length out)

  left_is : left ≡ made.bytes ++ drop count out
  unfolding leaves
  left_is = ap (λ (o : Outcome). o.output) h ∙ ap (λ (n : ℕ). made.bytes ++ drop n out) (sym (ap (λ (o : Outcome). o.count) h))

  -- No more bytes are counted than the output has.
  pub count_le : count ≤ length left
  unfolding leaves
  count_le = omega (arith, ap (λ (o : Outcome). o.count) h, ap length left_is, length-append made.bytes (drop count out))
