-- A poll whose byte is worth something else than an answer, from what the code's one poll answers.
use Prim.Native.Nat.{ℕ}
use mathlib.Core.List.{List, []}
use mathlib.Core.Path.{◌≡◌, refl, sym, ap}
use Rattle.std.specs.Prelude.{Option, Some, None}
use Rattle.exchange.specs.Exchange.{Exchange, done, bind, yields, Played, Reads}
use Rattle.exchange.specs.Answer.{Answer, gives, refuses}
use Rattle.exchange.specs.Refuses.{RefusesWith}
use Rattle.exchange.specs.Repeat.{Turn, found, again, found_end}
use Rattle.exchange.proofs.Calls.{reads_lacks, reads_done}
use Rattle.exchange.proofs.Only.{only_play}
use Rattle.ps2_answers.specs.Refusals.{number_of, refused}
use Rattle.ps2_answers.specs.declared.Refusal.{Refusal}
use Rattle.ps2_answers.specs.declared.Refusal.TheVariants.{Lacking, Failed}
use Rattle.ps2_polling.specs.Polling.{poll, poll_data, polled}
use Rattle.ps2_polling.proofs.Polls.{judged, poll_judged}
use Rattle.ps2_polling.proofs.Refuses.{only_poll}

-- a poll by itself has no refusal of its own
poll_never_fails : (n : ℕ) (s : List ℕ) {u w : ℕ} → Reads poll_data s (yields (found (refuses n))) u w → ⊥
poll_never_fails n s r =
    only_play (only_poll (RefusesWith {A = ℕ} []) (λ b. found (gives b)) (λ b. tt)) s [] (found (refuses n))
    (sym (ap (λ (o : Played (Turn (Answer ℕ))). o.end) (r.with_any [])))

module _ {A : Type 0} (worth : ℕ → Turn A) where
  abbrev worth_of : Turn (Answer ℕ) → Turn A
  worth_of = judged worth (λ n. again)

  same : bind poll_data (λ r. done (worth_of r)) ≡ poll worth
  same = poll_judged worth (λ n. again)

  -- what the byte is worth, where there is one
  abbrev pub brings : Option ℕ → Turn A
  brings None = again
  brings (Some b) = worth b

  value_brings : (v : Option ℕ) → done (worth_of (polled v)) ≡ done (brings v)
  value_brings None = refl
  value_brings (Some b) = refl

  module _ (s : List ℕ) {u w : ℕ} where
    pub poll_brings : (v : Option ℕ) → Reads poll_data s (yields (polled v)) u w → Reads (poll worth) s (yields (brings v)) u 0
    poll_brings v r = rw same at (reads_done poll_data (λ r. done (worth_of r)) s r refl (value_brings v))

    -- its end for lack of a byte ends whatever follows it
    pub poll_lacks : {B : Type 0} (x : Refusal) → Reads poll_data s (found_end (refused x)) u w → (g : Turn A → Exchange (Answer B)) → Reads (bind (poll worth) g) s (refused x) u 0
    poll_lacks (Lacking l) r g = reads_lacks (poll worth) g s (rw same at (reads_lacks poll_data (λ r. done (worth_of r)) s r refl)) refl
    poll_lacks (Failed f) r g = absurd (poll_never_fails (number_of f) s r)
