-- The bytes that an operation throws away.
use Rattle.std.specs.Prelude.{ℕ, Bool, true, false, cond, List, [], ◌∷◌, ◌++◌}
use Rattle.bits.specs.Table.{decode}
use Rattle.exchange.specs.Exchange.{p60, p64}
use Rattle.exchange.specs.Trace.{Access, brought, wrote}
use Rattle.ps2_bytes.specs.Responses.{responses}

-- A byte that is none of 00, AA, EE, FA, FC, FD, FE and FF: "An unlisted byte is thrown away".
abbrev pub unlisted : ℕ → Bool
unlisted b = decode (λ _. false) true responses b

-- All bytes that were thrown away, in order, and one read after them.
abbrev pub thrown : List ℕ → ℕ → List ℕ
thrown l b = cond (unlisted b) (l ++ (b ∷ [])) l

-- The same of the accesses that were made: the bytes that
-- reads of port 60 brought and that are unlisted.
abbrev pub thrown_in : List Access → List ℕ
thrown_in [] = []
thrown_in (brought p60 b ∷ more) = cond (unlisted b) (b ∷ thrown_in more) (thrown_in more)
thrown_in (brought p64 b ∷ more) = thrown_in more
thrown_in (wrote p v ∷ more) = thrown_in more
