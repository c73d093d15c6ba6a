-- What it is that the Rust's function and ours agree.
use Rattle.std.specs.Prelude.{cond, Bool, true, false, ℕ, List, ◌≡◌, Result, Ok, Err}
use Rattle.exchange.specs.Exchange.{Exchange, End, yields, lacks, Played, played, play}
use Rattle.exchange.specs.Exchange as exchange
use Rattle.exchange.specs.Keeping.{Kept}
use Rattle.exchange.specs.Answer.{Answer, gives, refuses}
use Rattle.ps2_answers.specs.declared.Counted.{Counted}
use Rattle.ps2_answers.specs.declared.Refusal.{Refusal}
use Rattle.ps2_answers.specs.declared.Refusal.TheVariants.{Lacking, Failed}
use Rattle.ps2_answers.specs.Refusals.{number_of, lack_of}
use Rattle.ps2_kept.specs.declared.KeptBytes.{KeptBytes}
use Rattle.ps2_kept.specs.Kept.{nothing_kept}
use Rattle.theseus_ps2.specs.declared.recording.Recording.{Recording}

-- Nothing is read and nothing written yet.
abbrev pub Begins : Recording → Type 0
Begins s = (s.used ≡ 0) × (s.pairs ≡ 0) × (s.short ≡ false) × (s.thrown ≡ nothing_kept)

-- A recording of this script and this log, of which nothing is read and nothing written yet.
abbrev pub Starts : List ℕ → List ℕ → Recording → Type 0
Starts script log s = Begins s × (s.script.now ≡ script) × (s.log.now ≡ log)

-- What was asked last where the run fell short: the port of a read that found no script byte, 0 of
-- a write that found no room.
abbrev pub number_lacked : exchange.Lack → ℕ
number_lacked (exchange.no_script p) = exchange.number p
number_lacked exchange.no_log = 0

-- ---- that the two agree: ours by its answer and its log,
-- the Rust by its answer and its recording as it is left

-- The same answer, bytes used, pairs and log, and the Rust's run did not fall short.
abbrev pub Same : {T : Type 0} → Answer T → ℕ → ℕ → List ℕ → Answer T → Recording → Type 0
Same answer used pairs log rusts left = (rusts ≡ answer) × (left.used ≡ used) × (left.pairs ≡ pairs)
    × (left.log.now ≡ log) × (left.short ≡ false)

-- Of a refusal. Where ours lacked something, the Rust's run fell short there, and asked the same:
-- whatever it answered then is no answer. Any other refusal is the Rust's.
abbrev pub AgreeRefused : {T : Type 0} → Refusal → ℕ → ℕ → List ℕ → Answer T → Recording → Type 0
AgreeRefused (Lacking l) used pairs log rusts left = (left.used ≡ used) × (left.pairs ≡ pairs)
    × (left.log.now ≡ log) × (left.short ≡ true) × (left.asked ≡ number_lacked (lack_of l))
AgreeRefused (Failed f) used pairs log rusts left =
    Same (refuses (number_of f)) used pairs log rusts left

abbrev pub Agree : {T : Type 0} → Result (Counted T) (Counted Refusal) → List ℕ → Answer T
    → Recording → Type 0
Agree (Ok a) log rusts left = Same (gives a.value) a.used a.pairs log rusts left
Agree (Err e) log rusts left = AgreeRefused e.value e.used e.pairs log rusts left

-- The bytes that ours hands back are those that the Rust's run threw away; none after a lack.
abbrev pub AgreeKept : {T : Type 0} → Result (Counted T) (Counted Refusal) → KeptBytes → List ℕ
    → Answer T → Recording → Type 0
AgreeKept ours kept log rusts left =
    Agree ours log rusts left × (kept ≡ cond left.short nothing_kept left.thrown)

-- Of an operation that leaves a record: it is left as the
-- Rust leaves it; after a lack it is as passed in.
abbrev pub AgreeLeft : {R T : Type 0} → R → Result (Counted T) (Counted Refusal) → R → List ℕ
    → Answer T → R → Recording → Type 0
AgreeLeft passed ours now log rusts rusts_now left =
    Agree ours log rusts left × (now ≡ cond left.short passed rusts_now)

-- ---- what a recording tells of a play, of which the proofs speak

abbrev pub TellsEnd : {A : Type 0} → End A → A → Bool → ℕ → Type 0
TellsEnd (yields a) answer short asked = (answer ≡ a) × (short ≡ false)
TellsEnd (lacks l) answer short asked = (short ≡ true) × (asked ≡ number_lacked l)

abbrev pub TellsPlay : {A : Type 0} → Played A → A → Recording → Type 0
TellsPlay o answer left = (left.used ≡ o.used) × (left.pairs ≡ o.pairs) × (left.log.now ≡ o.log)
    × TellsEnd o.end answer left.short left.asked

-- The same of an operation that keeps the bytes that it throws away.
abbrev pub TellsEndKept : {A : Type 0} → End (Kept KeptBytes A) → A → KeptBytes → Bool → ℕ → Type 0
TellsEndKept (yields k) answer thrown short asked =
    (answer ≡ k.value) × (thrown ≡ k.bytes) × (short ≡ false)
TellsEndKept (lacks l) answer thrown short asked = (short ≡ true) × (asked ≡ number_lacked l)

abbrev pub TellsKept : {A : Type 0} → Played (Kept KeptBytes A) → A → Recording → Type 0
TellsKept o answer left =
    (left.used ≡ o.used) × (left.pairs ≡ o.pairs) × (left.log.now ≡ o.log)
    × TellsEndKept o.end answer left.thrown left.short left.asked

-- Of an operation on the recording as it was.
abbrev pub Tells : {T : Type 0} → Exchange T → Recording → T → Recording → Type 0
Tells {T} t s answer left = TellsPlay (play t s.script.now s.log.now) answer left
