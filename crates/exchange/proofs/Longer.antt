-- More script and more log than an operation needs change nothing but what comes after it.
use Prim.Native.Nat.{ℕ, ◌*◌}
use mathlib.Core.List.{List, [], ◌∷◌, ◌++◌}
use mathlib.Core.Path.{◌≡◌, refl, sym, ap, ◌∙◌}
use lib.ListN.{length}
use lib.Seq.{take_at, drop_at}
use Rattle.exchange.specs.Exchange.{Exchange, done, read, write, bind, yields, Played, played, after_read, after_write, play}
use Rattle.exchange.specs.Sequence.{onward, follow}
use Rattle.exchange.proofs.Kept.{log_length}
use Rattle.exchange.proofs.Sequence.{play-bind}

pub play_longer : {A : Type 0} (t : Exchange A) (s l s' l' : List ℕ) {a : A} → (play t s l).end ≡ yields a
    → play t (s ++ s') (l ++ l') ≡ played (play t s l).end (play t s l).used (play t s l).pairs ((play t s l).log ++ l')
unfolding play
play_longer (done a) s l s' l' h = refl
play_longer (read p f) [] l s' l' h = cc
play_longer (read p f) (b ∷ s) l s' l' h = ap (λ (o : Played _). after_read o) (play_longer (f b) s l s' l' h)
play_longer (write p v t) s [] s' l' h = cc
play_longer (write p v t) s (x ∷ []) s' l' h = cc
play_longer (write p v t) s (x ∷ y ∷ l) s' l' h = ap (λ (o : Played _). after_write p v o) (play_longer t s l s' l' h)

-- an operation that uses all of the script b and fills all of the log c, before another on what comes behind them
pub play-append : {A B : Type 0} (t : Exchange A) (g : A → Exchange B) (b c c' : List ℕ) (r w : ℕ) {a : A} → play t b c ≡ played (yields a) r w c'
    → length b ≡ r → length c ≡ 2 * w → (s l : List ℕ) → play (bind t g) (b ++ s) (c ++ l) ≡ onward r w c' (play (g a) s l)
unfolding follow
play-append {A} t g b c c' r w {a} h hb hc s l =
    let full : length c' ≡ 2 * w = ap (λ (o : Played A). length o.log) (sym h) ∙ log_length t b c ∙ hc in
    let q : play t (b ++ s) (c ++ l) ≡ played (yields a) r w (c' ++ l) =
    play_longer t b c s l (ap (λ (o : Played A). o.end) h) ∙ rw h in
    play-bind g t (b ++ s) (c ++ l) ∙ rw (q, follow, take_at c' l (2 * w) full, drop_at c' l (2 * w) full, drop_at b s r hb)
