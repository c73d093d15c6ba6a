-- An operation, and the same one that gives what it gave in another form: their plays are alike.
use Prim.Native.Nat.{ℕ}
use mathlib.Core.List.{List}
use mathlib.Core.Path.{◌≡◌, refl}
use Rattle.exchange.specs.Exchange.{Exchange, done, End, yields, lacks, played, play}
use Rattle.exchange.specs.Answer.{Answer, gives, refuses, on_given, and_then}
use Rattle.exchange.proofs.Calls.{bind_done, bind_lacks}
use Rattle.ps2_packet_reading.specs.Alike.{both_give, both_refuse, both_lack, Alike}

module _ {A B : Type 0} (P : A → B → Type 0) (f : A → B) (related : (a : A) → P a (f a)) (t : Exchange (Answer A)) (s l : List ℕ) where
  abbrev next : Answer A → Exchange (Answer B)
  next = on_given (λ a. done (gives (f a)))

  by_end : (e : End (Answer A)) {u w : ℕ} {l' : List ℕ} → played e u w l' ≡ play t s l → Alike P (play t s l) (play (and_then t (λ a. done (gives (f a)))) s l)
  unfolding and_then
  by_end (yields (gives a)) r =
      rw (← r, ← bind_done t next s l r refl refl) (record { alike_ends = both_give (related a); same_used = refl; same_pairs = refl; same_log = refl })
  by_end (yields (refuses n)) r =
      rw (← r, ← bind_done t next s l r refl refl) (record { alike_ends = both_refuse; same_used = refl; same_pairs = refl; same_log = refl })
  by_end (lacks x) r =
      rw (← r, ← bind_lacks t next s l r refl) (record { alike_ends = both_lack; same_used = refl; same_pairs = refl; same_log = refl })

  pub given_alike : Alike P (play t s l) (play (and_then t (λ a. done (gives (f a)))) s l)
  given_alike = by_end (play t s l).end refl
