-- The record that `set_mouse_id` leaves: where no identity was found as it was passed, and else as the start of the packets leaves it.
use Prim.Native.Nat.{ℕ, ◌+◌, ◌*◌, ◌≤◌, ◌<◌, ◌^◌}
use native.Mathlib.Omega.{arith}
use mathlib.Core.Bool.{true, false, true≢false}
use mathlib.Core.List.{List}
use mathlib.Core.Path.{◌≡◌, refl, sym, ap, ◌∙◌}
use lib.ListN.{length}
use Rattle.std.specs.Prelude.{Result, Ok, Err}
use Rattle.std.specs.Result.{is_ok}
use Rattle.exchange.specs.Exchange.{played, play}
use Rattle.exchange.specs.Answer.{gives}
use Rattle.exchange.specs.Left.{left, record_after}
use Rattle.exchange.specs.Parts.{part, restored}
use Rattle.exchange.specs.Position.{Reached}
use Rattle.exchange.proofs.Calls.{bind_done, bind_lacks, bind_reached, reached_last, reached_used_le, reached_pairs_le}
use Rattle.exchange.proofs.Left.{record_after_lem, record_told}
use Rattle.exchange.proofs.Told.{bind_told}
use Rattle.ps2_bytes.specs.declared.response.MouseId.{MouseId}
use Rattle.ps2_answers.specs.declared.Counted.{Counted}
use Rattle.ps2_answers.specs.declared.Failure.{Failure}
use Rattle.ps2_answers.specs.declared.Lack.{Lack}
use Rattle.ps2_answers.specs.declared.Refusal.{Refusal}
use Rattle.ps2_answers.specs.declared.Refusal.TheVariants.{Lacking, Failed}
use Rattle.ps2_answers.specs.Refusals.{Success, refused}
use Rattle.ps2_answers.specs.Answers.{counted, ended, used_of, pairs_of, told, behind, outcome_at, outcome_of}
use Rattle.ps2_answers.proofs.Then.{sum_fits}
use Rattle.ps2_mouse.specs.declared.PS2Mouse.{PS2Mouse}
use Rattle.ps2_mouse.specs.Mouse.{enable_packet_streaming}
use Rattle.ps2_mouse_identity.specs.Identity.{new_identity, start_packets, set_mouse_id}
use Rattle.ps2_mouse_identity.specs.Answers.{said_mouse}

-- ---- the answer of what came next, with the counts of what came before it

module _ {V T : Type 0} (a : Counted V) where
  ended_behind : (b : Result (Counted T) (Counted Refusal)) → ended (behind a b) ≡ ended b
  ended_behind (Ok b) = refl
  ended_behind (Err e) = refl

  used_behind : (b : Result (Counted T) (Counted Refusal)) → a.used + used_of b < 2 ^ 64 → used_of (behind a b) ≡ a.used + used_of b
  used_behind (Ok b) h = sum_fits a.used b.used h
  used_behind (Err e) h = sum_fits a.used e.used h

  pairs_behind : (b : Result (Counted T) (Counted Refusal)) → a.pairs + pairs_of b < 2 ^ 64 → pairs_of (behind a b) ≡ a.pairs + pairs_of b
  pairs_behind (Ok b) h = sum_fits a.pairs b.pairs h
  pairs_behind (Err e) h = sum_fits a.pairs e.pairs h

-- ---- the record

module _ (mouse : PS2Mouse) (s l : List ℕ) {l' : List ℕ} where
  pub set_refused : (e : Counted Refusal) → told {T = MouseId} (Err e) l' ≡ play (new_identity mouse.id) s l
      → (played (said_mouse (Err e) mouse) e.used e.pairs l' ≡ play (set_mouse_id mouse) s l) × (mouse ≡ record_after mouse (play (set_mouse_id mouse) s l).end)
  unfolding set_mouse_id
  set_refused e r = by e.value r
    where
      by : (x : Refusal) → told {T = MouseId} (Err (counted x e.used e.pairs)) l' ≡ play (new_identity mouse.id) s l
          → (played (said_mouse (Err (counted x e.used e.pairs)) mouse) e.used e.pairs l' ≡ play (set_mouse_id mouse) s l) × (mouse ≡ record_after mouse (play (set_mouse_id mouse) s l).end)
      by (Lacking x) r = record_after_lem mouse (bind_lacks (new_identity mouse.id) (λ id. start_packets mouse id) s l r refl) refl
      by (Failed f) r = record_after_lem mouse (bind_done (new_identity mouse.id) (λ id. start_packets mouse id) s l r refl refl) refl

  pub then_started : length s < 2 ^ 64 → length l < 2 ^ 64 → (a : Counted MouseId) → told (Ok a) l' ≡ play (new_identity mouse.id) s l
      → (b : Result (Counted Success) (Counted Refusal)) {now : PS2Mouse} {m : List ℕ}
      → (played (said_mouse b now) (used_of b) (pairs_of b) m ≡ play (start_packets mouse (gives a.value)) (part a.used s) (part (2 * a.pairs) l'))
      × (now ≡ record_after mouse (play (start_packets mouse (gives a.value)) (part a.used s) (part (2 * a.pairs) l')).end)
      → (played (said_mouse (behind a b) now) (used_of (behind a b)) (pairs_of (behind a b)) (restored (2 * a.pairs) l' m) ≡ play (set_mouse_id mouse) s l)
      × (now ≡ record_after mouse (play (set_mouse_id mouse) s l).end)
  unfolding set_mouse_id
  then_started hs hl a r b k =
      let start = start_packets mouse (gives a.value) in
      let at : Reached (set_mouse_id mouse) s l start a.used a.pairs l' = bind_reached (new_identity mouse.id) (λ id. start_packets mouse id) s l r refl in
      let u : a.used + used_of b ≤ length s = reached_used_le at start _ k.0 in
      let w : 2 * (a.pairs + pairs_of b) ≤ length l = reached_pairs_le at start _ refl k.0 in
      record_after_lem mouse (rw (ended_behind a b, used_behind a b (omega arith), pairs_behind a b (omega arith)) (reached_last start at refl k.0))
      (rw (ended_behind a b) (record_told mouse k))

-- ---- the start of the packets, by its answer

module _ (mouse : PS2Mouse) (id : MouseId) (s l : List ℕ) {l' : List ℕ} where
  pub start_done : (a : Counted Success) → told (Ok a) l' ≡ play enable_packet_streaming s l
      → (played (said_mouse (Ok a) (record { id = id })) a.used a.pairs l' ≡ play (start_packets mouse (gives id)) s l)
      × (record { id = id } ≡ record_after mouse (play (start_packets mouse (gives id)) s l).end)
  start_done a r = record_after_lem mouse (bind_told enable_packet_streaming (λ a. left a (record { id = id })) s l r refl) refl

  module _ (e : Counted Refusal) (r : told {T = Success} (Err e) l' ≡ play enable_packet_streaming s l) where
    pub start_lacking : {x : Lack} → e.value ≡ Lacking x
        → (played (said_mouse (Err e) mouse) e.used e.pairs l' ≡ play (start_packets mouse (gives id)) s l)
        × (mouse ≡ record_after mouse (play (start_packets mouse (gives id)) s l).end)
    start_lacking q = rw q (record_after_lem mouse (bind_told enable_packet_streaming (λ a. left a (record { id = id })) s l r (ap (λ x. refused x) q)) refl)

    pub start_failed : {f : Failure} → e.value ≡ Failed f
        → (played (said_mouse (Err e) (record { id = id })) e.used e.pairs l' ≡ play (start_packets mouse (gives id)) s l)
        × (record { id = id } ≡ record_after mouse (play (start_packets mouse (gives id)) s l).end)
    start_failed q = rw q (record_after_lem mouse (bind_told enable_packet_streaming (λ a. left a (record { id = id })) s l r (ap (λ x. refused x) q)) refl)

  -- by the outcome that the code asks for
  module _ {o : Result (Counted (Result Success Failure)) (Counted Refusal)} where
    pub start_ended : (r : Result (Counted Success) (Counted Refusal)) → told r l' ≡ play enable_packet_streaming s l → o ≡ outcome_of r → true ≡ is_ok o
        → (played (said_mouse r (record { id = id })) (used_of r) (pairs_of r) l' ≡ play (start_packets mouse (gives id)) s l)
        × (record { id = id } ≡ record_after mouse (play (start_packets mouse (gives id)) s l).end)
    start_ended (Ok a) p q h = start_done a p
    start_ended (Err e) p q h = by e.value p q
      where
        by : (x : Refusal) → told {T = Success} (Err (counted x e.used e.pairs)) l' ≡ play enable_packet_streaming s l → o ≡ outcome_at {T = Success} x e.used e.pairs
            → (played (said_mouse (Err (counted x e.used e.pairs)) (record { id = id })) e.used e.pairs l' ≡ play (start_packets mouse (gives id)) s l)
            × (record { id = id } ≡ record_after mouse (play (start_packets mouse (gives id)) s l).end)
        by (Lacking x) p q = absurd (true≢false (h ∙ ap (λ y. is_ok y) q))
        by (Failed f) p q = start_failed (counted (Failed f) e.used e.pairs) p refl

    pub start_lacked : (r : Result (Counted Success) (Counted Refusal)) → told r l' ≡ play enable_packet_streaming s l → o ≡ outcome_of r → false ≡ is_ok o
        → (played (said_mouse r mouse) (used_of r) (pairs_of r) l' ≡ play (start_packets mouse (gives id)) s l)
        × (mouse ≡ record_after mouse (play (start_packets mouse (gives id)) s l).end)
    start_lacked (Ok a) p q h = absurd (true≢false (sym (h ∙ ap (λ y. is_ok y) q)))
    start_lacked (Err e) p q h = by e.value p q
      where
        by : (x : Refusal) → told {T = Success} (Err (counted x e.used e.pairs)) l' ≡ play enable_packet_streaming s l → o ≡ outcome_at {T = Success} x e.used e.pairs
            → (played (said_mouse (Err (counted x e.used e.pairs)) mouse) e.used e.pairs l' ≡ play (start_packets mouse (gives id)) s l)
            × (mouse ≡ record_after mouse (play (start_packets mouse (gives id)) s l).end)
        by (Lacking x) p q = start_lacking (counted (Lacking x) e.used e.pairs) p refl
        by (Failed f) p q = absurd (true≢false (sym (h ∙ ap (λ y. is_ok y) q)))
