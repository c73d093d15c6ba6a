-- What the code's answers say of the end of a play, and an
-- answer with the counts of what came before it.
use Rattle.std.specs.Prelude.{ℕ, ◌+◌, ◌%◌, ◌^◌, ◌≡◌, List, Result, Ok, Err}
use Rattle.exchange.specs.Exchange.{Exchange, End, yields, Played, played, play, Reads, Writes}
use Rattle.exchange.specs.Answer.{Answer, gives}
use Rattle.exchange.specs.Left.{Left, record_after}
use Rattle.exchange.specs.Repeat.{Turn, found_end}
use Rattle.ps2_answers.specs.Refusals.{refused}
use Rattle.ps2_answers.specs.declared.Counted.{Counted}
use Rattle.ps2_answers.specs.declared.Failure.{Failure}
use Rattle.ps2_answers.specs.declared.Refusal.{Refusal}
use Rattle.ps2_answers.specs.declared.Refusal.TheVariants.{Lacking, Failed}

abbrev pub counted : {V : Type 0} → V → ℕ → ℕ → Counted V
counted v u w = record { value = v; used = u; pairs = w }

-- The end of the play: what was brought, or the refusal.
abbrev pub ended : {T : Type 0} → Result (Counted T) (Counted Refusal) → End (Answer T)
ended (Ok a) = yields (gives a.value)
ended (Err e) = refused e.value

-- The end of one turn of a repetition, by what its value is worth; a refusal ends the repetition.
abbrev pub turn_end : {T B : Type 0} → (T → Turn (Answer B)) → Result (Counted T) (Counted Refusal)
    → End (Turn (Answer B))
turn_end worth (Ok a) = yields (worth a.value)
turn_end worth (Err e) = found_end (refused e.value)

-- The counts, in either case.
abbrev pub used_of : {T : Type 0} → Result (Counted T) (Counted Refusal) → ℕ
used_of (Ok a) = a.used
used_of (Err e) = e.used

abbrev pub pairs_of : {T : Type 0} → Result (Counted T) (Counted Refusal) → ℕ
pairs_of (Ok a) = a.pairs
pairs_of (Err e) = e.pairs

-- The play that an answer tells, with the log as it is left.
abbrev pub told : {T : Type 0} → Result (Counted T) (Counted Refusal) → List ℕ → Played (Answer T)
told r log = played (ended r) (used_of r) (pairs_of r) log

-- What a code function promises that has a script alone, or a log alone: the operation, with the
-- end and the counts that the answer tells.
abbrev pub ReadsTold : {T : Type 0} → Exchange (Answer T) → List ℕ
    → Result (Counted T) (Counted Refusal) → Type 0
ReadsTold t script r = Reads t script (ended r) (used_of r) (pairs_of r)

-- The same of one turn of a repetition, by what its value is worth.
abbrev pub ReadsTurn : {T B : Type 0} → (T → Turn (Answer B)) → Exchange (Turn (Answer B)) → List ℕ
    → Result (Counted T) (Counted Refusal) → Type 0
ReadsTurn worth t script r = Reads t script (turn_end worth r) (used_of r) (pairs_of r)

abbrev pub WritesTold : {T : Type 0} → Exchange (Answer T) → List ℕ
    → Result (Counted T) (Counted Refusal) → List ℕ → Type 0
WritesTold t log r log_left = Writes t log (ended r) (used_of r) (pairs_of r) log_left

-- What one promises that leaves a record beside its answer: the operation, with the end that the
-- two say, and the record after it.
abbrev pub PlaysLeftTold : {R T : Type 0}
    → (Result (Counted T) (Counted Refusal) → R → End (Left R T)) → Exchange (Left R T) → R → List ℕ
    → List ℕ → Result (Counted T) (Counted Refusal) → List ℕ → R → Type 0
PlaysLeftTold said t passed script log r log_left now =
    (played (said r now) (used_of r) (pairs_of r) log_left ≡ play t script log)
    × (now ≡ record_after passed (play t script log).end)

-- A sum of two counts, as code adds them.
abbrev pub sum : ℕ → ℕ → ℕ
sum m n = (m + n) % 2 ^ 64

-- The answer of what came next, with the counts of what came before it added.
abbrev pub behind : {V T : Type 0} → Counted V → Result (Counted T) (Counted Refusal)
    → Result (Counted T) (Counted Refusal)
behind a (Ok b) = Ok (counted b.value (sum a.used b.used) (sum a.pairs b.pairs))
behind a (Err e) = Err (counted e.value (sum a.used e.used) (sum a.pairs e.pairs))

-- The answer that an outcome comes to, with the counts of what brought it.
abbrev pub concluded : {V T : Type 0} → Counted V → Result T Failure
    → Result (Counted T) (Counted Refusal)
concluded a (Ok v) = Ok (counted v a.used a.pairs)
concluded a (Err f) = Err (counted (Failed f) a.used a.pairs)

-- The outcome that an answer tells, a failure being one: "2 and
-- 3 are .. forgiven by nothing", so a lack stays a refusal.
abbrev pub outcome_at : {T : Type 0} → Refusal → ℕ → ℕ
    → Result (Counted (Result T Failure)) (Counted Refusal)
outcome_at (Lacking l) u w = Err (counted (Lacking l) u w)
outcome_at (Failed f) u w = Ok (counted (Err f) u w)

abbrev pub outcome_of : {T : Type 0} → Result (Counted T) (Counted Refusal)
    → Result (Counted (Result T Failure)) (Counted Refusal)
outcome_of (Ok a) = Ok (counted (Ok a.value) a.used a.pairs)
outcome_of (Err e) = outcome_at e.value e.used e.pairs
