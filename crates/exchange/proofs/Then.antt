-- One operation after another, by what the first gives; and an operation whose refusals are renumbered or forgiven: their bounds, their refusals, what they write.
use Prim.Native.Nat.{ℕ, zero, suc, ◌+◌}
use native.Mathlib.Nat.{add-zero}
use mathlib.Core.Bool.{Bool, true, false, cond, ◌&&◌, ◌||◌}
use mathlib.Core.List.{List, [], ◌∷◌}
use mathlib.Core.Path.{◌≡◌, refl}
use lib.Dec.{T, eqb, eqb→eq, eqb_refl}
use mir.Facts.{and_yes}
use Rattle.exchange.specs.Exchange.{Port, Exchange, done, read, write, bind}
use Rattle.exchange.specs.Answer.{Answer, gives, refuses, on_given, and_then, renumbered, refusing_as}
use Rattle.exchange.specs.Attains.{Attains, attains_done}
use Rattle.exchange.specs.Bounds.{Within, within_done}
use Rattle.exchange.specs.Only.{Only, only_done, only_read, only_write}
use Rattle.exchange.specs.Refuses.{among, RefusesWith, Refuses, given, succeeds}
use Rattle.exchange.specs.Repeat.{Turn, found, again, turned, repeat}
use Rattle.exchange.specs.Sends.{Sends, sends_done}
use Rattle.exchange.proofs.Attains.{attains_bind}
use Rattle.exchange.proofs.Bounds.{within_bind}
use Rattle.exchange.proofs.Only.{only_bind}
use Rattle.exchange.proofs.Sends.{sends_bind}

-- what holds of both branches of a test
pub on_cond : {X : Type 0} (P : X → Type 0) (b : Bool) {x y : X} → P x → P y → P (cond b x y)
on_cond P true h k = h
on_cond P false h k = k

-- what holds of each way on, and of a refusal
on_given_lem : {A B : Type 0} (g : A → Exchange (Answer B)) (P : Exchange (Answer B) → Type 0)
    → ((a : A) → P (g a)) → ((n : ℕ) → P (done (refuses n))) → (a : Answer A) → P (on_given g a)
on_given_lem g P k z (gives a) = k a
on_given_lem g P k z (refuses n) = z n

-- ---- the most reads and writes

pub within_then : {A B : Type 0} {r w r' w' : ℕ} {t : Exchange (Answer A)} {g : A → Exchange (Answer B)}
    → Within r w t → ((a : A) → Within r' w' (g a)) → Within (r + r') (w + w') (and_then t g)
unfolding and_then
within_then {B = B} {r' = r'} {w' = w'} {g = g} h k = within_bind h (on_given_lem g (λ x. Within {A = Answer B} r' w' x) k (λ n. within_done))

module _ {A B : Type 0} {r w : ℕ} {t : Exchange A} (f : A → B) where
  -- nothing is read or written after it
  pub within_told : Within r w t → Within r w (bind t (λ a. done (f a)))
  within_told h = rw (add-zero r, add-zero w) at (within_bind h (λ a. within_done {r = 0} {w = 0} {a = f a}))

  pub attains_told : {a : A} → Attains a r w t → Attains (f a) r w (bind t (λ a. done (f a)))
  attains_told h = rw (add-zero r, add-zero w) at (attains_bind (λ a. done (f a)) h attains_done)

module _ {A : Type 0} (n : ℕ) {r w : ℕ} {t : Exchange (Answer A)} where
  pub within_as : Within r w t → Within r w (refusing_as n t)
  unfolding refusing_as
  within_as h = within_told (λ a. renumbered n a) h

  pub attains_as : {a : Answer A} → Attains a r w t → Attains (renumbered n a) r w (refusing_as n t)
  unfolding refusing_as
  attains_as h = attains_told (λ a. renumbered n a) h

module _ {A : Type 0} {r w : ℕ} {t : Exchange (Answer A)} where
  pub within_succeeds : Within r w t → Within r w (succeeds t)
  unfolding succeeds
  within_succeeds h = within_told (λ a. given a) h

  pub attains_succeeds : {a : Answer A} → Attains a r w t → Attains (given a) r w (succeeds t)
  unfolding succeeds
  attains_succeeds h = attains_told (λ a. given a) h

pub attains_then : {A B : Type 0} {a : A} {b : Answer B} {r w r' w' : ℕ} {t : Exchange (Answer A)} (g : A → Exchange (Answer B))
    → Attains (gives a) r w t → Attains b r' w' (g a) → Attains b (r + r') (w + w') (and_then t g)
unfolding and_then
attains_then g h k = attains_bind (on_given g) h k

-- ---- refusals

-- every operation yields something
pub only_any : {A : Type 0} (t : Exchange A) → Only (λ _. Unit) t
only_any (done a) = only_done tt
only_any (read p f) = only_read (λ b. only_any (f b))
only_any (write p v t) = only_write (only_any t)

pub only_more : {A : Type 0} {P Q : A → Type 0} {t : Exchange A} → ((a : A) → P a → Q a) → Only P t → Only Q t
only_more k (only_done {a = a} h) = only_done (k a h)
only_more k (only_read f) = only_read (λ b. only_more k (f b))
only_more k (only_write x) = only_write (only_more k x)

-- what a turn finds has P
abbrev pub Finds : {A : Type 0} → (A → Type 0) → Turn A → Type 0
Finds P (found a) = P a
Finds P again = Unit

module _ {A : Type 0} {P : A → Type 0} {t : Exchange (Turn A)} (h : Only (Finds P) t) {d : A} (k : P d) where
  only_turned : (n : ℕ) (x : Turn A) → Finds P x → Only P (repeat n d t) → Only P (turned x (repeat n d t))
  only_turned n (found a) p i = only_done p
  only_turned n again p i = i

  pub only_repeat : (n : ℕ) → Only P (repeat n d t)
  unfolding repeat
  only_repeat zero = only_done k
  only_repeat (suc n) = only_bind h (λ x p. only_turned n x p (only_repeat n))

module _ {A B : Type 0} (ns : List ℕ) {Q : Answer B → Type 0} {g : A → Exchange (Answer B)} where
  only_given : ((n : ℕ) → T (among n ns) → Q (refuses n)) → ((a : A) → Only Q (g a)) → (a : Answer A) → RefusesWith ns a → Only Q (on_given g a)
  only_given r k (gives a) h = k a
  only_given r k (refuses n) h = only_done (r n h)

-- what its refusals have, and what each way on yields
pub only_then : {A B : Type 0} (ns : List ℕ) {Q : Answer B → Type 0} {t : Exchange (Answer A)} {g : A → Exchange (Answer B)}
    → Refuses ns t → ((n : ℕ) → T (among n ns) → Q (refuses n)) → ((a : A) → Only Q (g a)) → Only Q (and_then t g)
unfolding and_then
only_then ns h r k = only_bind h (only_given ns r k)

pub refuses_then : {A B : Type 0} (ns : List ℕ) {t : Exchange (Answer A)} {g : A → Exchange (Answer B)}
    → Refuses ns t → ((a : A) → Refuses ns (g a)) → Refuses ns (and_then t g)
refuses_then ns h k = only_then ns h (λ n x. x) k

-- some numbers, all of which are among others
abbrev pub all_among : List ℕ → List ℕ → Bool
all_among [] ms = true
all_among (n ∷ ns) ms = among n ms && all_among ns ms

among_same : (ns ms : List ℕ) (m n : ℕ) (b : Bool) → eqb n m ≡ b → T (among m ms && all_among ns ms) → T (b || among n ns)
    → (T (all_among ns ms) → T (among n ns) → T (among n ms)) → T (among n ms)
among_same ns ms m n true e h x k =
    let q : n ≡ m = eqb→eq n m (rw e tt) in
    rw q (and_yes (among m ms) (all_among ns ms) h).0
among_same ns ms m n false e h x k = k (and_yes (among m ms) (all_among ns ms) h).1 x

pub among_more : (ns ms : List ℕ) (n : ℕ) → T (all_among ns ms) → T (among n ns) → T (among n ms)
among_more [] ms n h x = absurd x
among_more (m ∷ ns) ms n h x = among_same ns ms m n (eqb n m) refl h x (among_more ns ms n)

refuses_with_more : {A : Type 0} (ns ms : List ℕ) → T (all_among ns ms) → (a : Answer A) → RefusesWith ns a → RefusesWith ms a
refuses_with_more ns ms h (gives a) x = tt
refuses_with_more ns ms h (refuses n) x = among_more ns ms n h x

pub refuses_more : {A : Type 0} (ns ms : List ℕ) {t : Exchange (Answer A)} → T (all_among ns ms) → Refuses ns t → Refuses ms t
refuses_more ns ms h x = only_more (refuses_with_more ns ms h) x

or_false : (b : Bool) → T (b || false) → T b
or_false true h = tt
or_false false h = h

pub among_one : (n m : ℕ) → T (among n (m ∷ [])) → n ≡ m
among_one n m h = eqb→eq n m (or_false (eqb n m) h)

or_true : (b : Bool) → T b → T (b || false)
or_true true h = tt
or_true false h = h

-- all its refusals are the number n
renumbered_refuses : {A : Type 0} (n : ℕ) (a : Answer A) → RefusesWith (n ∷ []) (renumbered n a)
renumbered_refuses n (gives a) = tt
renumbered_refuses n (refuses m) = or_true (eqb n n) (eqb_refl n)

pub refuses_as : {A : Type 0} (n : ℕ) (t : Exchange (Answer A)) → Refuses (n ∷ []) (refusing_as n t)
unfolding refusing_as
refuses_as n t = only_bind (only_any t) (λ a _. only_done (renumbered_refuses n a))

-- ---- writes

pub sends_then : {W : Port → ℕ → Type 0} {A B : Type 0} {t : Exchange (Answer A)} {g : A → Exchange (Answer B)}
    → Sends W t → ((a : A) → Sends W (g a)) → Sends W (and_then t g)
unfolding and_then
sends_then {W = W} {B = B} {g = g} h k = sends_bind h (on_given_lem g (λ x. Sends {A = Answer B} W x) k (λ n. sends_done))
