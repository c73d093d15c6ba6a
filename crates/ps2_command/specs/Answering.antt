-- A device that acknowledges two commands before it sends any other byte: nothing is thrown away.
use Rattle.std.specs.Prelude.{Option, Some, None, cond, List, [], ◌∷◌, ◌≡◌, ℕ, zero, suc, ◌+◌, ◌*◌, ◌<◌, ◌≤◌, eqb, leb, length, set, drop}
use Rattle.std.specs.Option.{option_map, option_and_then}
use Rattle.bits.specs.Bits.{bit}
use Rattle.exchange.specs.Exchange.{Exchange, yields}
use Rattle.exchange.specs.Answer.{Answer, gives}
use Rattle.ps2_layouts.specs.Status.{input_buffer_full, output_buffer_full}
use Rattle.ps2_answers.specs.Refusals.{Success, success}
use Rattle.ps2_answers.specs.Answers.{counted}
use Rattle.ps2_answers.specs.declared.Counted.{Counted}
use Rattle.ps2_kept.specs.declared.KeptBytes.{KeptBytes}
use Rattle.ps2_kept.specs.Added.{keeping_onto}
use Rattle.ps2_kept.specs.Promises.{PlaysKept}
use Rattle.ps2_ports.specs.declared.DevicePort.{DevicePort}
use Rattle.ps2_ports.specs.declared.DevicePort.TheVariants.{Port1, Port2}
use Rattle.ps2_polling.specs.Polling.{poll_limit}

-- The bytes of polls that find nothing, of so many at most,
-- and of the one after them that brings FA.
unfoldable pub heard_within : ℕ → List ℕ → Option ℕ
heard_within zero script = None
heard_within (suc polls) [] = None
heard_within (suc polls) (came ∷ []) = None
heard_within (suc polls) (came ∷ b ∷ script) =
    cond (bit output_buffer_full came) (cond (eqb b 0xFA) (Some 2) None)
    (option_map suc (heard_within polls (b ∷ script)))

-- The first status says that the last byte was taken; then the polls follow.
abbrev pub acknowledged : List ℕ → Option ℕ
acknowledged [] = None
acknowledged (sent ∷ script) =
    cond (bit input_buffer_full sent) None (option_map suc (heard_within poll_limit script))

-- Two commands, one behind the other.
abbrev pub both_acknowledged : List ℕ → Option ℕ
both_acknowledged script = option_and_then
    (λ once. option_map (λ twice. once + twice) (acknowledged (drop once script)))
    (acknowledged script)

-- The pairs that two commands write then: each its byte,
-- and to the second port's device D4 before it.
abbrev pub pairs_to : DevicePort → ℕ
pairs_to Port1 = 2
pairs_to Port2 = 4

-- A log with these pairs in its first places.
abbrev pub with_two : DevicePort → ℕ → ℕ → List ℕ → List ℕ
with_two Port1 first second log = set (set (set (set log 0 0x60) 1 first) 2 0x60) 3 second
with_two Port2 first second log = set
    (set (set (set (set (set (set (set log 0 0x64) 1 0xD4) 2 0x60) 3 first) 4 0x64) 5 0xD4) 6 0x60)
    7 second

-- They are written where the log has room for all of them.
pub record TwoWritten (port : DevicePort) (first second : ℕ) (log : List ℕ) (pairs : Option ℕ)
    (log_left : List ℕ) : Type 0 where
  pub fits : 2 * pairs_to port ≤ length log
      → (pairs ≡ Some (pairs_to port)) × (log_left ≡ with_two port first second log)
  pub full : length log < 2 * pairs_to port → (pairs ≡ None) × (log_left ≡ log)

-- What a function comes to that makes two commands of an operation where both are acknowledged
-- before any other byte comes and the log has room, and does nothing elsewhere: the bytes used and
-- the pairs written, `None` where nothing is done, and the log left. The operation is then done
-- with the bytes kept before it, whichever they are.
pub record TwoAcknowledged (port : DevicePort) (t : Exchange (Answer Success)) (script log : List ℕ)
    (made : Option (Counted Success)) (log_left : List ℕ) : Type 0 where
  pub writes : made ≡ option_and_then
      (λ used. cond (leb (2 * pairs_to port) (length log))
      (Some (counted success used (pairs_to port))) None) (both_acknowledged script)
  pub undone : made ≡ None → log_left ≡ log
  pub plays : (c : Counted Success) → made ≡ Some c → (k : KeptBytes)
      → PlaysKept (keeping_onto k t) script log (yields (gives success)) c.used c.pairs log_left k
