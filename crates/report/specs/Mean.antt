-- "The mean movement is given as a whole quotient and remainder, the remainder below the packet
-- count and never negative; with no packets no mean is shown."
use Rattle.std.specs.Prelude.{cond, ◌≡◌, ℕ, ◌-◌, ◌/◌, ◌%◌, ◌<◌, eqb, ℤ, pos, negsuc, ◌+ℤ◌, ◌*ℤ◌, Option, Some, None}
use Rattle.report.specs.declared.WholeMean.{WholeMean}

-- What a quotient and a remainder must be.
pub record Divides (sum : ℤ) (packets : ℕ) (quotient : ℤ) (remainder : ℕ) : Type 0 where
  pub whole : quotient *ℤ pos packets +ℤ pos remainder ≡ sum
  pub below : remainder < packets

-- Those that are, where there are packets: `negsuc k` is
-- -(k + 1), and the quotient is rounded down.
abbrev pub quotient_of : ℤ → ℕ → ℤ
quotient_of (pos s) n = pos (s / n)
quotient_of (negsuc k) n = negsuc (k / n)

abbrev pub remainder_of : ℤ → ℕ → ℕ
remainder_of (pos s) n = s % n
remainder_of (negsuc k) n = n - 1 - k % n

abbrev pub mean_of : ℤ → ℕ → Option WholeMean
mean_of sum packets = cond (eqb packets 0) None
    (Some (record { quotient = quotient_of sum packets; remainder = remainder_of sum packets }))
