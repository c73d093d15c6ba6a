-- What must have been read where a repetition, or one operation after another, yields what it does.
use Prim.Native.Nat.{ℕ, zero, suc, ◌+◌, ◌*◌}
use native.Mathlib.Nat.{add-zero}
use native.Mathlib.Omega.{arith}
use mathlib.Core.List.{List, []}
use mathlib.Core.Logic.{◌⊎◌, inl, inr}
use mathlib.Core.Path.{◌≡◌, refl}
use lib.Dec.{T}
use lib.ListN.{drop}
use lib.Seq.{drop-drop}
use Rattle.exchange.specs.Exchange.{Exchange, bind, End, yields, lacks, play}
use Rattle.exchange.specs.Answer.{Answer, gives, refuses, on_given, and_then}
use Rattle.exchange.specs.Refuses.{among, RefusesWith, Refuses}
use Rattle.exchange.specs.Repeat.{Turn, found, again, turned, repeat}
use Rattle.exchange.specs.Search.{Search, over, next, hit, script_after, log_after, After}
use Rattle.exchange.specs.Sequence.{follow}
use Rattle.exchange.proofs.Only.{only_play}
use Rattle.exchange.proofs.Sequence.{play-bind}
use Rattle.exchange.proofs.Steps.{lacks_yields}
use Rattle.exchange.proofs.Then.{Finds}

gives_refuses : {A : Type 0} {a : A} {n : ℕ} → gives a ≡ refuses n → ⊥
gives_refuses h = let z : ◌≡◌ {A = ℕ} 0 1 = cc in omega arith

same_number : {A : Type 0} {n m : ℕ} → ◌≡◌ {A = Answer A} (refuses n) (refuses m) → n ≡ m
same_number h = cc

same_yielded : {A : Type 0} {a b : A} → yields a ≡ yields b → a ≡ b
same_yielded h = cc

-- ---- one operation after another

module _ {A B : Type 0} (g : A → Exchange B) where
  follow_yields : (e : End A) (u w : ℕ) (s l : List ℕ) (c : B) → (follow e u w l s g).end ≡ yields c
      → (a : A) × (e ≡ yields a) × ((play (g a) (drop u s) (drop (2 * w) l)).end ≡ yields c)
  unfolding follow
  follow_yields (yields a) u w s l c h = (a, refl, h)
  follow_yields (lacks x) u w s l c h = absurd (lacks_yields h)

  pub bind_after : (t : Exchange A) (s l : List ℕ) (c : B) → (play (bind t g) s l).end ≡ yields c → (a : A) × After t g s l a c
  bind_after t s l c h =
      let o = play t s l in
      let z = follow_yields o.end o.used o.pairs s o.log c (rw (play-bind g t s l) at h) in
      (z.0, record { before = z.1; after = z.2 })

  -- and the other way round
  pub after_bind : (t : Exchange A) (s l : List ℕ) (a : A) (c : B) → After t g s l a c → (play (bind t g) s l).end ≡ yields c
  unfolding follow
  after_bind t s l a c k = rw (play-bind g t s l, k.before, follow) k.after

module _ {A B : Type 0} (t : Exchange (Answer A)) (g : A → Exchange (Answer B)) (s l : List ℕ) where
  given_first : (c : Answer B) → ((n : ℕ) → (play t s l).end ≡ yields (refuses n) → c ≡ refuses n → ⊥)
      → (a : Answer A) → After t (on_given g) s l a c → (b : A) × After t (on_given g) s l (gives b) c
  unfolding play
  given_first c never (gives b) k = (b, k)
  given_first c never (refuses n) k = absurd (never n k.before (cc k.after))

  -- where both give what they are for, the first did
  pub then_gives : (c : B) → (play (and_then t g) s l).end ≡ yields (gives c) → (b : A) × After t (on_given g) s l (gives b) (gives c)
  unfolding and_then
  then_gives c h =
      let z = bind_after (on_given g) t s l (gives c) h in
      given_first (gives c) (λ n _ q. gives_refuses q) z.0 z.1

  -- where the number is none of the first's, the first gave what it is for
  pub then_refuses : (ns : List ℕ) → Refuses ns t → (n : ℕ) → (T (among n ns) → ⊥) → (play (and_then t g) s l).end ≡ yields (refuses n)
      → (b : A) × After t (on_given g) s l (gives b) (refuses n)
  unfolding and_then
  then_refuses ns r n never h =
      let z = bind_after (on_given g) t s l (refuses n) h in
      given_first (refuses n) (λ m q e. never (rw (same_number e) (only_play r s l (refuses m) q))) z.0 z.1

  -- where what follows refuses nothing, the refusal is the first's
  refused_first : (n : ℕ) → ((b : A) → Refuses [] (g b)) → (a : Answer A) → After t (on_given g) s l a (refuses n) → (play t s l).end ≡ yields (refuses n)
  unfolding play
  refused_first n none (gives b) k = absurd (only_play (none b) (script_after t s l) (log_after t s l) (refuses n) k.after)
  refused_first n none (refuses m) k = rw (← same_number (same_yielded k.after)) k.before

  pub refuses_before : (n : ℕ) → ((b : A) → Refuses [] (g b)) → (play (and_then t g) s l).end ≡ yields (refuses n) → (play t s l).end ≡ yields (refuses n)
  unfolding and_then
  refuses_before n none h =
      let z = bind_after (on_given g) t s l (refuses n) h in
      refused_first n none z.0 z.1

  -- a refusal of the first, and what follows where the first gave what it is for, is the answer of both
  pub refuses_then_both : (n : ℕ) → (play t s l).end ≡ yields (refuses n) → (play (and_then t g) s l).end ≡ yields (refuses n)
  unfolding and_then play
  refuses_then_both n h = after_bind (on_given g) t s l (refuses n) (refuses n) (record { before = h; after = refl })

  pub gives_then_both : (b : A) (c : Answer B) → After t (on_given g) s l (gives b) c → (play (and_then t g) s l).end ≡ yields c
  unfolding and_then
  gives_then_both b c k = after_bind (on_given g) t s l (gives b) c k

-- ---- a repetition

module _ {A : Type 0} (One : List ℕ → Turn A → List ℕ → Type 0) (t : Exchange (Turn A)) (d : A)
    (brings : (s l : List ℕ) (x : Turn A) → (play t s l).end ≡ yields x → One s x (drop (play t s l).used s)) where
  -- it yields what a turn found, or, after all its turns, the answer of silence
  abbrev Searched : ℕ → List ℕ → ℕ → A → Type 0
  Searched n s u a = Search One n (found a) s (drop u s) ⊎ ((a ≡ d) × Search One n again s (drop u s))

  searched_next : (n : ℕ) (s : List ℕ) (u v : ℕ) (a : A) → One s again (drop u s) → Searched n (drop u s) v a → Searched (suc n) s (u + v) a
  searched_next n s u v a h (inl k) = inl (next h (rw (drop-drop v u s) at k))
  searched_next n s u v a h (inr k) = inr (k.0, next h (rw (drop-drop v u s) at k.1))

  searched_first : (n : ℕ) (s : List ℕ) (e : End (Turn A)) (u w : ℕ) (l : List ℕ) (a : A) → ((x : Turn A) → e ≡ yields x → One s x (drop u s))
      → ((s l : List ℕ) → (play (repeat n d t) s l).end ≡ yields a → Searched n s (play (repeat n d t) s l).used a)
      → (follow e u w l s (λ r. turned r (repeat n d t))).end ≡ yields a
      → Searched (suc n) s (follow e u w l s (λ r. turned r (repeat n d t))).used a
  unfolding follow play
  searched_first n s (yields (found b)) u w l a one rest h =
      let e : b ≡ a = cc in
      rw (add-zero u) (inl (hit (rw e at (one (found b) refl))))
  searched_first n s (yields again) u w l a one rest h =
      searched_next n s u (play (repeat n d t) (drop u s) (drop (2 * w) l)).used a (one again refl) (rest (drop u s) (drop (2 * w) l) h)
  searched_first n s (lacks x) u w l a one rest h = absurd (lacks_yields h)

  pub search_play : (n : ℕ) (s l : List ℕ) (a : A) → (play (repeat n d t) s l).end ≡ yields a → Searched n s (play (repeat n d t) s l).used a
  unfolding repeat play
  search_play zero s l a h = inr (cc, over)
  search_play (suc n) s l a h =
      let o = play t s l in
      let q = play-bind (λ r. turned r (repeat n d t)) t s l in
      rw q (searched_first n s o.end o.used o.pairs o.log a (λ x. brings s l x) (λ s l. search_play n s l a) (rw q at h))

-- ---- a search that refuses where it found nothing

pub search_finds : {A : Type 0} {One : List ℕ → Turn A → List ℕ → Type 0} (P : A → Type 0) → ((s : List ℕ) (x : Turn A) (rest : List ℕ) → One s x rest → Finds P x)
    → {n : ℕ} {a : A} {s rest : List ℕ} → Search One n (found a) s rest → P a
search_finds P each (next h k) = search_finds P each k
search_finds P each {a = a} {s = s} {rest = rest} (hit h) = each s (found a) rest h

module _ {A : Type 0} (One : List ℕ → Turn (Answer A) → List ℕ → Type 0) (t : Exchange (Turn (Answer A))) (k : ℕ)
    (brings : (s l : List ℕ) (x : Turn (Answer A)) → (play t s l).end ≡ yields x → One s x (drop (play t s l).used s)) (n : ℕ) (s l : List ℕ) where
  found_given : (a : A) (rest : List ℕ) → Search One n (found (gives a)) s rest ⊎ ((gives a ≡ refuses k) × Search One n again s rest) → Search One n (found (gives a)) s rest
  found_given a rest (inl x) = x
  found_given a rest (inr x) = absurd (gives_refuses x.0)

  pub search_gives : (a : A) → (play (repeat n (refuses k) t) s l).end ≡ yields (gives a)
      → Search One n (found (gives a)) s (drop (play (repeat n (refuses k) t) s l).used s)
  search_gives a h = found_given a (drop (play (repeat n (refuses k) t) s l).used s) (search_play One t (refuses k) brings n s l (gives a) h)

  module _ (each : (s : List ℕ) (x : Turn (Answer A)) (rest : List ℕ) → One s x rest → Finds (RefusesWith []) x) where
    found_nothing : (rest : List ℕ) → Search One n (found (refuses k)) s rest ⊎ ((◌≡◌ {A = Answer A} (refuses k) (refuses k)) × Search One n again s rest) → Search One n again s rest
    found_nothing rest (inl x) = absurd (search_finds (RefusesWith []) each x)
    found_nothing rest (inr x) = x.1

    -- all n turns found nothing
    pub search_refuses : (play (repeat n (refuses k) t) s l).end ≡ yields (refuses k)
        → Search One n again s (drop (play (repeat n (refuses k) t) s l).used s)
    search_refuses h = found_nothing (drop (play (repeat n (refuses k) t) s l).used s) (search_play One t (refuses k) brings n s l (refuses k) h)
