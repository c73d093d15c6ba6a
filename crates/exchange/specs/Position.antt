-- Where an operation has come to, with how much of the script and of the log behind it.
use Rattle.std.specs.Prelude.{ℕ, ◌*◌, ◌≤◌, List, ◌≡◌, length, take, drop}
use Rattle.exchange.specs.Exchange.{Exchange, play}
use Rattle.exchange.specs.Sequence.{onward}

-- With u bytes used and w pairs written, and the log now as it is, the whole operation comes to
-- what is left of it on what is left of both.
pub record Reached {A : Type 0} (whole : Exchange A) (script log : List ℕ) (rest : Exchange A)
    (u w : ℕ) (log_now : List ℕ) : Type 0 where
  pub goes_on : play whole script log
      ≡ onward u w (take (2 * w) log_now) (play rest (drop u script) (drop (2 * w) log_now))
  pub used_le : u ≤ length script
  pub pairs_le : 2 * w ≤ length log_now
  pub same_length : length log_now ≡ length log

-- The same of an operation that has only read so far, with every log.
pub record ReadTo {A : Type 0} (whole : Exchange A) (script : List ℕ) (rest : Exchange A) (u : ℕ)
    : Type 0 where
  pub with_any : (log : List ℕ) → Reached whole script log rest u 0 log
