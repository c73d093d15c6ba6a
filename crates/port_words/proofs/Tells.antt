-- From a promise on an answer by value to that on its numbers.
use Prim.Native.Nat.{ℕ}
use mathlib.Core.List.{List}
use mathlib.Core.Option.{Option, none, some}
use mathlib.Core.Path.{◌≡◌, refl, ap, sym, ◌∙◌}
use native.Mathlib.Omega.{arith}
use Rattle.exchange.specs.Exchange.{Exchange, End, yields, lacks, told_end, Played, played, play}
use Rattle.exchange.specs.Answer.{Answer}
use Rattle.exchange.specs.Keeping.{Kept, kept_end}
use Rattle.exchange.specs.Left.{Left, left}
use Rattle.ps2_kept.specs.declared.KeptBytes.{KeptBytes}
use Rattle.ps2_kept.specs.Kept.{kept_at}
use Rattle.ps2_kept.specs.Promises.{PlaysKept}
use Rattle.port_words.specs.declared.KeptWords.{KeptWords}
use Rattle.port_words.specs.ToldKept.{kept_numbers, told_kept}
use Rattle.port_words.specs.Tells.{Tells, AtArgument}

-- ---- a script and a log, and a script alone

module _ {A R : Type 0} {tell : End A → ℕ → ℕ → R} {t : Exchange A} {script : List ℕ} {e : End A} {u : ℕ} {answer : R} where
  pub tells_played : {w : ℕ} {log l : List ℕ} → played e u w l ≡ play t script log → answer ≡ tell e u w → Tells tell t script log answer l
  tells_played p q = record { answered = q ∙ ap (λ (o : Played A). tell o.end o.used o.pairs) p; logged = ap (λ (o : Played A). o.log) p }

-- ---- with the bytes that were thrown away

kept_numbers_lem : {A : Type 0} (e : End (Answer A)) {u w : ℕ} {k : KeptBytes} → k ≡ kept_at e k → kept_numbers e u w k ≡ told_kept (kept_end e k) u w
kept_numbers_lem (yields a) h = refl
kept_numbers_lem {A} (lacks x) {u} {w} h = ap (kept_numbers {A = A} (lacks x) u w) h

module _ {A : Type 0} {t : Exchange (Kept KeptBytes (Answer A))} {script log l : List ℕ} {e : End (Answer A)} {u w : ℕ} {k : KeptBytes} {answer : KeptWords} where
  pub tells_kept : PlaysKept t script log e u w l k → answer ≡ kept_numbers e u w k → Tells told_kept t script log answer l
  tells_kept p q = tells_played p.plays (q ∙ kept_numbers_lem e p.ended)

-- ---- with a record that was passed in

told_left_lem : {X A : Type 0} (e : End (Answer A)) (x : X) → told_end (λ (v : Left X A). v.answer) (told_end (λ a. left a x) e) ≡ e
told_left_lem (yields a) x = refl
told_left_lem (lacks y) x = refl

-- ---- arguments

none_some : {X : Type 0} {v : X} {B : Type 0} → none ≡ some v → B
none_some {X} {v} p = let z : ◌≡◌ {A = ℕ} 0 1 = cc in absurd (omega arith)

module _ {X : Type 0} {argument : Option X} {N : Type 0} {At : X → Type 0} where
  pub at_none : argument ≡ none → N → AtArgument argument N At
  at_none p n = record { nothing = λ _. n; at = λ v q. none_some (sym p ∙ q) }

  pub at_some : (v : X) → argument ≡ some v → At v → AtArgument argument N At
  at_some v p a = record { nothing = λ q. none_some (sym q ∙ p); at = λ v' q. let e : v ≡ v' = cc in rw e at a }
