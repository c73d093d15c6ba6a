-- Signed numbers in bits, ranges of them, and their remainders.
use Rattle.std.specs.Prelude.{◌≡◌, Bool, cond, ℕ, zero, suc, ◌%◌, ◌^◌, ℤ, pos, ◌+ℤ◌, ◌-ℤ◌, ◌*ℤ◌, ◌≤ℤ◌}
use Rattle.bits.specs.Bits.{bit}

-- The value, less m where the sign bit is set.
abbrev pub less_if : Bool → ℕ → ℕ → ℤ
less_if sign m value = cond sign (pos value -ℤ pos m) (pos value)

-- The n lowest bits of x in two's complement: their number,
-- less 2 ^ n where the topmost of them is set.
abbrev pub twos_complement : ℕ → ℕ → ℤ
twos_complement zero x = pos 0
twos_complement (suc n) x = less_if (bit n x) (2 ^ suc n) (x % 2 ^ suc n)

-- From a to b, both included.
abbrev pub Between : ℤ → ℤ → ℤ → Type 0
Between a b z = (a ≤ℤ z) × (z ≤ℤ b)

-- Two numbers that agree modulo m: they differ by a multiple of it.
abbrev pub AgreeModulo : ℕ → ℤ → ℤ → Type 0
AgreeModulo m a b = (k : ℤ) × (a ≡ b +ℤ pos m *ℤ k)
