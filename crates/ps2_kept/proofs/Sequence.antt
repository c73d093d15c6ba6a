-- One operation after another, with the bytes kept handed on from the first to the second.
use Prim.Native.Nat.{ℕ, ◌+◌, ◌*◌}
use mathlib.Core.List.{List}
use mathlib.Core.Path.{◌≡◌, refl, ap}
use Rattle.exchange.specs.Exchange.{Exchange, bind, End, yields, played, play, Writes}
use Rattle.exchange.specs.Answer.{Answer, gives, refuses, on_given}
use Rattle.exchange.specs.Keeping.{Kept, kept_end, NoData}
use Rattle.exchange.specs.Parts.{part, restored}
use Rattle.exchange.proofs.Calls.{bind_done, bind_lacks, bind_yields, bind_yields_reads, writes_then}
use Rattle.exchange.proofs.Keeping.{keeping-bind, keeping-done}
use Rattle.exchange.proofs.NoData.{keeping_after}
use Rattle.ps2_answers.specs.Refusals.{refused}
use Rattle.ps2_answers.specs.declared.Refusal.{Refusal}
use Rattle.ps2_answers.specs.declared.Refusal.TheVariants.{Lacking, Failed}
use Rattle.ps2_kept.specs.declared.KeptBytes.{KeptBytes}
use Rattle.ps2_kept.specs.Added.{added_thrown, keeping_onto}
use Rattle.ps2_kept.specs.Promises.{ReadsKept, PlaysKept}

-- ---- both keep

module _ {A B : Type 0} (t : Exchange A) (g : A → Exchange B) (k : KeptBytes) (s l : List ℕ) where
  -- what follows the first and its bytes
  abbrev pub then : Kept KeptBytes A → Exchange (Kept KeptBytes B)
  then x = keeping_onto x.bytes (g x.value)

  pub onto_then : {e : End A} {u w : ℕ} {l' : List ℕ} {k₂ : KeptBytes} → PlaysKept (keeping_onto k t) s l e u w l' k₂ → {a : A} → e ≡ yields a
      → {e₂ : End B} {at u₂ w₂ : ℕ} {m : List ℕ} {k₃ : KeptBytes} → at ≡ 2 * w → PlaysKept (keeping_onto k₂ (g a)) (part u s) (part at l') e₂ u₂ w₂ m k₃
      → PlaysKept (keeping_onto k (bind t g)) s l e₂ (u + u₂) (w + w₂) (restored at l' m) k₃
  onto_then {k₂ = k₂} r q h x =
      record {
        plays = rw (keeping-bind added_thrown g k t) (bind_yields (keeping_onto k t) then s l r.plays (ap (λ y. kept_end y k₂) q) h x.plays);
        ended = x.ended;
      }

module _ {A B : Type 0} (t : Exchange (Answer A)) (g : A → Exchange (Answer B)) (k : KeptBytes) (s l : List ℕ) where
  pub refused_plays : {u w : ℕ} {l' : List ℕ} (k₂ : KeptBytes) (x : Refusal) → played (kept_end (refused x) k₂) u w l' ≡ play (keeping_onto k t) s l
      → played (kept_end (refused x) k₂) u w l' ≡ play (bind (keeping_onto k t) (then t (on_given g) k s l)) s l
  refused_plays k₂ (Lacking x) r = bind_lacks (keeping_onto k t) (then t (on_given g) k s l) s l r refl
  refused_plays k₂ (Failed f) r = bind_done (keeping_onto k t) (then t (on_given g) k s l) s l r refl (keeping-done added_thrown k₂ (refuses _))

-- ---- the first reads no data, so it keeps nothing: a sending, a write

module _ {A B : Type 0} (t : Exchange (Answer A)) (g : A → Exchange (Answer B)) (n : NoData t) (k : KeptBytes) (s l : List ℕ) where
  abbrev pub next : Answer A → Exchange (Kept KeptBytes (Answer B))
  next a = keeping_onto k (on_given g a)

  module _ {e : End (Answer A)} {u w : ℕ} {l' : List ℕ} (r : played e u w l' ≡ play t s l) where
    -- the second has what is left of the script
    pub no_data_then_reads : {a : A} → e ≡ yields (gives a) → {e₂ : End (Answer B)} {u₂ w₂ : ℕ} {k₂ : KeptBytes}
        → ReadsKept (keeping_onto k (g a)) (part u s) e₂ u₂ w₂ k₂ → PlaysKept (keeping_onto k (bind t (on_given g))) s l e₂ (u + u₂) w l' k₂
    no_data_then_reads q x =
        record { plays = rw (keeping_after added_thrown k (on_given g) n) (bind_yields_reads t next s l r q x.reads); ended = x.ended }

    pub not_sent : (x : Refusal) → e ≡ refused x → played (kept_end (refused x) k) u w l' ≡ play (bind t next) s l
    not_sent (Lacking x) q = bind_lacks t next s l r q
    not_sent (Failed f) q = bind_done t next s l r q (keeping-done added_thrown k (refuses _))

  -- it only writes, and the second has the whole script
  pub writes_then_keeps : {e : End (Answer A)} {u w : ℕ} {l' : List ℕ} → Writes t l e u w l' → {a : A} → e ≡ yields (gives a)
      → {e₂ : End (Answer B)} {at u₂ w₂ : ℕ} {m : List ℕ} {k₂ : KeptBytes} → at ≡ 2 * w
      → PlaysKept (keeping_onto k (g a)) s (part at l') e₂ u₂ w₂ m k₂ → PlaysKept (keeping_onto k (bind t (on_given g))) s l e₂ u₂ (w + w₂) (restored at l' m) k₂
  writes_then_keeps r q h x = record { plays = rw (keeping_after added_thrown k (on_given g) n) (writes_then t next l r s q h x.plays); ended = x.ended }
