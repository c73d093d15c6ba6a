-- Bytes that come behind those kept before, one by one, as code adds them.
use Rattle.std.specs.Prelude.{ℕ, ◌+◌, cond, List, [], ◌∷◌, ltb, set}
use Rattle.exchange.specs.Exchange.{Exchange}
use Rattle.exchange.specs.Keeping.{Kept, keeping}
use Rattle.ps2_kept.specs.declared.KeptBytes.{KeptBytes}
use Rattle.ps2_kept.specs.Thrown.{unlisted}
use Rattle.ps2_kept.specs.Kept.{kept_limit}

-- The greatest 32-bit number, at which the count of the others stops.
abbrev pub others_limit : ℕ
others_limit = 4294967295

-- One byte more.
unfoldable pub added : KeptBytes → ℕ → KeptBytes
added k b =
    cond (ltb k.count kept_limit)
    (record { bytes = set k.bytes k.count b; count = k.count + 1; others = k.others })
    (cond (ltb k.others others_limit)
    (record { bytes = k.bytes; count = k.count; others = k.others + 1 }) k)

-- Several more, one after another.
unfoldable pub added_all : KeptBytes → List ℕ → KeptBytes
added_all k [] = k
added_all k (b ∷ l) = added_all (added k b) l

-- One more where it is thrown away.
abbrev pub added_thrown : KeptBytes → ℕ → KeptBytes
added_thrown k b = cond (unlisted b) (added k b) k

-- An operation that adds the bytes that it throws away to those kept before it.
abbrev pub keeping_onto : {A : Type 0} → KeptBytes → Exchange A → Exchange (Kept KeptBytes A)
keeping_onto k t = keeping added_thrown k t
