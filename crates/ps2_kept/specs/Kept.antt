-- What is handed back of the bytes that were thrown away.
use Rattle.std.specs.Prelude.{ℕ, ◌-◌, List, [], ◌++◌, length, take, replicate}
use Rattle.exchange.specs.Exchange.{Exchange, done, bind, End, yields, lacks}
use Rattle.exchange.specs.Keeping.{Kept, keeping, retold}
use Rattle.ps2_kept.specs.declared.KeptBytes.{KeptBytes}
use Rattle.ps2_kept.specs.Thrown.{thrown}

abbrev pub kept_limit : ℕ
kept_limit = 16

-- "the earliest 16 unlisted bytes it threw away, in order, and the number of the others". The
-- places behind the count hold 0.
abbrev pub kept_of : List ℕ → KeptBytes
kept_of l = record {
  bytes = take kept_limit (l ++ replicate kept_limit 0);
  count = length (take kept_limit l);
  others = length l - kept_limit;
}

abbrev pub nothing_kept : KeptBytes
nothing_kept = kept_of []

-- An operation that "also hands back" the bytes that its whole run threw away.
unfoldable pub keeping_thrown : {A : Type 0} → Exchange A → Exchange (Kept KeptBytes A)
keeping_thrown t = bind (keeping thrown [] t) (λ k. done (retold kept_of k))

-- "on failure too"; but a used-up script and a full log, 2 and 3, are no failures of the operation:
-- these bytes are there then.
abbrev pub kept_or : {A : Type 0} → KeptBytes → End A → KeptBytes → KeptBytes
kept_or otherwise (yields a) k = k
kept_or otherwise (lacks x) k = otherwise

-- Bytes that are handed back: nothing after 2 and 3.
abbrev pub kept_at : {A : Type 0} → End A → KeptBytes → KeptBytes
kept_at e k = kept_or nothing_kept e k
