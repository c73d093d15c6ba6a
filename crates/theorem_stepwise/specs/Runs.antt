-- A session from its beginning to its end, with whatever device: each time what is asked is done,
-- and the byte that came is given.
use Rattle.std.specs.Prelude.{ℕ, suc, List, [], ◌∷◌, ◌++◌, ◌≤◌, ◌≡◌, length, drop}
use Rattle.exchange.specs.Exchange.{done, yields, played, play}
use Rattle.exchange.specs.Trace.{Access, brought, wrote, Makes, bytes, logged}
use Rattle.ps2_answers.specs.Refusals.{port_of}
use Rattle.ps2_answers.specs.declared.ReadPort.{ReadPort}
use Rattle.ps2_kept.specs.Kept.{nothing_kept}
use Rattle.ps2_kept.specs.Added.{keeping_onto}
use Rattle.exchange.specs.Keeping.{kept}
use Rattle.questions.specs.declared.Request.TheVariants.{Read, Write}
use Rattle.sessions.specs.declared.Operation.{Operation}
use Rattle.step_words.specs.declared.ends.Advance.{Advance}
use Rattle.step_words.specs.declared.ends.Advance.TheVariants.{Asks, Ends}
use Rattle.step_words.specs.Sessions.{kept_in, ending_in}
use Rattle.step_words.specs.Whole.{fields_of, counts_of, bytes_of, StepAll, BeginAll}
use Rattle.theorem_stepwise.specs.Operations.{operation}

-- How many of the accesses are writes.
abbrev pub pairs : List Access → ℕ
pairs [] = 0
pairs (brought p b ∷ more) = pairs more
pairs (wrote p v ∷ more) = suc (pairs more)

-- The steps: what was asked, the byte that a read brought (after a write any byte may be given),
-- and the numbers as they are left.
pub data Steps : Advance → List ℕ → List Access → Advance → List ℕ → Type 0 where
  no_step : {a : Advance} {w : List ℕ} → Steps a w [] a w
  reads : {p : ReadPort} {w w' w'' : List ℕ} {b : ℕ} {r a : Advance} {more : List Access}
      → StepAll w b r w' → Steps r w' more a w''
      → Steps (Asks (Read p)) w (brought (port_of p) b ∷ more) a w''
  writes : {p : ReadPort} {v b : ℕ} {w w' w'' : List ℕ} {r a : Advance} {more : List Access}
      → StepAll w b r w' → Steps r w' more a w''
      → Steps (Asks (Write p v)) w (wrote (port_of p) v ∷ more) a w''

-- Begun on lent numbers, and run to its end.
pub record Run (o : Operation) (made : List Access) (n : ℕ) (w : List ℕ) : Type 0 where
  pub first : Advance
  pub begun : List ℕ
  pub begins : BeginAll o first begun
  pub steps : Steps first begun made (Ends n) w

-- "The requests are the path of the operation's definition", each write once and in its place. What
-- is handed back at the end is what the one call hands back on the bytes that were read, with any
-- log that has room for the writes: the numbers, and with them the bytes that were thrown away.
pub record Stepwise (o : Operation) (made : List Access) (n : ℕ) (w : List ℕ) : Type 0 where
  pub path : Makes (operation o) made (done (ending_in (fields_of w)))
  pub call : (log : List ℕ) → length (logged made) ≤ length log
      → play (operation o) (bytes made) log
      ≡ played (yields (ending_in (fields_of w))) (length (bytes made)) (pairs made)
      (logged made ++ drop (length (logged made)) log)
  pub kept_bytes : Makes (keeping_onto nothing_kept (operation o)) made
      (done (kept (ending_in (fields_of w)) (kept_in (counts_of w) (bytes_of w))))
  pub refusal : (ending_in (fields_of w)).refusal ≡ n
