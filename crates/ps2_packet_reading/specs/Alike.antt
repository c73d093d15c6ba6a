-- Two plays that differ in what they give alone.
use Rattle.std.specs.Prelude.{ℕ, ◌≡◌}
use Rattle.exchange.specs.Exchange.{Lack, End, yields, lacks, Played}
use Rattle.exchange.specs.Answer.{Answer, gives, refuses}

-- Both end in the same way, and P relates what they give.
pub data AlikeEnds {A B : Type 0} (P : A → B → Type 0) : End (Answer A) → End (Answer B)
    → Type 0 where
  both_give : {a : A} {b : B} → P a b → AlikeEnds P (yields (gives a)) (yields (gives b))
  both_refuse : {n : ℕ} → AlikeEnds P (yields (refuses n)) (yields (refuses n))
  both_lack : {x : Lack} → AlikeEnds P (lacks x) (lacks x)

pub record Alike {A B : Type 0} (P : A → B → Type 0) (one : Played (Answer A))
    (other : Played (Answer B)) : Type 0 where
  pub alike_ends : AlikeEnds P one.end other.end
  pub same_used : one.used ≡ other.used
  pub same_pairs : one.pairs ≡ other.pairs
  pub same_log : one.log ≡ other.log
