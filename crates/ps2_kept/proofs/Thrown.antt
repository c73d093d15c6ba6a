-- The list of all bytes that an operation throws away, and what code keeps of it byte by byte.
use Prim.Native.Nat.{ℕ, suc, ◌+◌, ◌≤◌}
use native.Mathlib.Omega.{arith}
use mathlib.Core.Bool.{Bool, true, false, cond}
use mathlib.Core.List.{List, [], ◌∷◌, ◌++◌, append_assoc, append-nil}
use mathlib.Core.Path.{◌≡◌, refl, sym, ap, ◌∙◌, fun_ext}
use lib.ListN.{length, length-append}
use Rattle.exchange.specs.Exchange.{Exchange, done, bind}
use Rattle.exchange.specs.Bounds.{Within}
use Rattle.exchange.specs.Keeping.{Kept, kept, keeping, retold}
use Rattle.exchange.specs.Only.{Only}
use Rattle.exchange.proofs.Keeping.{keeping-bind, keeping-retold, kept_only}
use Rattle.exchange.proofs.Only.{bind_only}
use Rattle.exchange.proofs.Sequence.{bind_assoc}
use Rattle.ps2_kept.specs.declared.KeptBytes.{KeptBytes}
use Rattle.ps2_kept.specs.Thrown.{unlisted, thrown}
use Rattle.ps2_kept.specs.Kept.{kept_of, nothing_kept, keeping_thrown}
use Rattle.ps2_kept.specs.Added.{others_limit, added, added_all, added_thrown, keeping_onto}
use Rattle.ps2_kept.proofs.Added.{added_last, added_all_lem}

-- ---- the bytes of one operation after another are joined

-- those of an operation, with l before them
abbrev pub behind : {A : Type 0} → List ℕ → Exchange (Kept (List ℕ) A) → Exchange (Kept (List ℕ) A)
behind l t = bind t (λ k. done (retold (λ m. l ++ m) k))

thrown_behind : (l m : List ℕ) (b : ℕ) (t : Bool) → l ++ cond t (m ++ (b ∷ [])) m ≡ cond t ((l ++ m) ++ (b ∷ [])) (l ++ m)
thrown_behind l m b true = sym (append_assoc l m (b ∷ []))
thrown_behind l m b false = refl

pub keeping-behind : {A : Type 0} (l : List ℕ) (t : Exchange A) → behind l (keeping thrown [] t) ≡ keeping thrown l t
keeping-behind l t =
    keeping-retold thrown thrown (λ m. l ++ m) (λ m b. thrown_behind l m b (unlisted b)) [] t ∙ ap (λ m. keeping thrown m t) (append-nil l)

pub keeping_joined : {A B : Type 0} (t : Exchange A) (g : A → Exchange B)
    → keeping thrown [] (bind t g) ≡ bind (keeping thrown [] t) (λ k. behind k.bytes (keeping thrown [] (g k.value)))
keeping_joined t g =
    keeping-bind thrown g [] t ∙ ap (bind (keeping thrown [] t)) (fun_ext (λ k. sym (keeping-behind k.bytes (g k.value))))

-- ---- what code does byte by byte, by the list of all

on_added : (k : KeptBytes) (l : List ℕ) (b : ℕ) (t : Bool) → added_all k (cond t (l ++ (b ∷ [])) l) ≡ cond t (added (added_all k l) b) (added_all k l)
on_added k l b true = added_last k l b
on_added k l b false = refl

pub keeping_added : {A : Type 0} (k : KeptBytes) (t : Exchange A) → bind (keeping thrown [] t) (λ x. done (retold (added_all k) x)) ≡ keeping_onto k t
unfolding added_all
keeping_added k t = keeping-retold thrown added_thrown (added_all k) (λ l b. on_added k l b (unlisted b)) [] t

-- ---- no more bytes are thrown away than are read

abbrev Long : ℕ → ℕ → List ℕ → Type 0
Long m n l = length l + n ≤ m

long_less : (m : ℕ) (n n₂ : ℕ) (l : List ℕ) → n ≤ n₂ → Long m n₂ l → Long m n l
long_less m n n₂ l h x = omega arith

long_step : (m : ℕ) (n : ℕ) (l : List ℕ) (b : ℕ) → Long m (suc n) l → Long m n (thrown l b)
long_step m n l b h = on (unlisted b)
  where
    on : (t : Bool) → Long m n (cond t (l ++ (b ∷ [])) l)
    on true = omega (arith, length-append l (b ∷ []))
    on false = omega arith

pub thrown_only : {A : Type 0} {t : Exchange A} {r w : ℕ} → Within r w t → Only (λ k. Long r 0 k.bytes) (keeping thrown [] t)
thrown_only {r = r} h = kept_only thrown (Long r) (long_less r) (long_step r) [] (omega arith) h

-- ---- so the count of the others never comes to its limit, and what code does is the definition

-- behind bytes that were kept before: as the handler goes on
module _ {A : Type 0} {t : Exchange A} {r w : ℕ} (h : Within r w t) where
  pub keeping_onto_lem : (l : List ℕ) → length l + r ≤ others_limit → bind (keeping thrown l t) (λ k. done (retold kept_of k)) ≡ keeping_onto (kept_of l) t
  unfolding bind
  keeping_onto_lem l m =
      ap (λ x. bind x (λ k. done (retold kept_of k))) (sym (keeping-behind l t))
      ∙ bind_assoc (keeping thrown [] t) (λ k. done (retold (λ m. l ++ m) k)) (λ k. done (retold kept_of k))
      ∙ bind_only _ (λ x. done (retold (added_all (kept_of l)) x)) (thrown_only h) same
      ∙ keeping_added (kept_of l) t
    where
      same : (k : Kept (List ℕ) A) → Long r 0 k.bytes
          → bind (done (retold (λ m. l ++ m) k)) (λ k. done (retold kept_of k)) ≡ done (retold (added_all (kept_of l)) k)
      same k x = ap (λ y. done (kept k.value y)) (sym (added_all_lem l k.bytes (omega arith)))

  -- from nothing
  pub keeping_thrown_lem : r ≤ others_limit → keeping_thrown t ≡ keeping_onto nothing_kept t
  unfolding keeping_thrown
  keeping_thrown_lem m = keeping_onto_lem [] (omega arith)
