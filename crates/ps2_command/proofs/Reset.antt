-- A reset needs an AA of its own, after the response that accepted its command; and 10 needs all its reads.
use Prim.Native.Nat.{ℕ}
use mathlib.Core.List.{List}
use mathlib.Core.Path.{◌≡◌, refl}
use Rattle.exchange.specs.Exchange.{Exchange, yields, play}
use Rattle.exchange.specs.Answer.{Answer, gives, refuses, and_then}
use Rattle.exchange.specs.Refuses.{Refuses}
use Rattle.exchange.specs.Search.{script_after, log_after}
use Rattle.exchange.proofs.Search.{then_gives, then_refuses}
use Rattle.ps2_answers.specs.Refusals.{Success, success}
use Rattle.ps2_command.specs.Reset.{OwnAA, NoAA}
use Rattle.ps2_command.specs.Search.{self_test_within}
use Rattle.ps2_command.proofs.Refuses.{command_refusals}
use Rattle.ps2_command.proofs.Search.{self_test_gives, self_test_refuses}

-- there is one success
pub the_success : (x : Success) → x ≡ success
the_success x = refl

module _ (ff : Exchange (Answer Success)) (n : ℕ) (then : Exchange (Answer Success)) (s l : List ℕ) where
  pub own_aa : ((s l : List ℕ) → (play then s l).end ≡ yields (gives success) → (play (self_test_within n) s l).end ≡ yields (gives success))
      → (play (and_then ff (λ _. then)) s l).end ≡ yields (gives success) → OwnAA ff n s l
  own_aa through h =
      let z = then_gives ff (λ _. then) s l success h in
      let s' = script_after ff s l in
      let l' = log_after ff s l in
      record {
        command = rw (the_success z.0) at z.1.before;
        rest = script_after (self_test_within n) s' l';
        further = self_test_gives n s' l' (through s' l' z.1.after);
      }

  pub no_aa : Refuses command_refusals ff
      → ((s l : List ℕ) → (play then s l).end ≡ yields (refuses 10) → (play (self_test_within n) s l).end ≡ yields (refuses 10))
      → (play (and_then ff (λ _. then)) s l).end ≡ yields (refuses 10) → NoAA ff n s l
  no_aa r through h =
      let z = then_refuses ff (λ _. then) s l command_refusals r 10 (λ x. x) h in
      let s' = script_after ff s l in
      let l' = log_after ff s l in
      record {
        command = rw (the_success z.0) at z.1.before;
        rest = script_after (self_test_within n) s' l';
        none = self_test_refuses n s' l' (through s' l' z.1.after);
      }
