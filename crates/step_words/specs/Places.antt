-- A place in a question as four numbers.
use Rattle.std.specs.Prelude.{Bool, true, false, cond, ℕ, eqb, ltb, List, Option, Some, None, get_or}
use Rattle.ps2_answers.specs.declared.ReadPort.{ReadPort}
use Rattle.ps2_answers.specs.declared.ReadPort.TheVariants as Port
use Rattle.questions.specs.declared.Going.{Going}
use Rattle.questions.specs.declared.Going.TheVariants.{Writing, Seeking, Sending, Submitting}
use Rattle.questions.specs.declared.Sought.{Sought}
use Rattle.questions.specs.declared.Sought.TheVariants.{InputFree, Response, FirstOfIdentity, SecondOfIdentity, ScancodeSet, PortPassed, MouseIdentity, Byte, Data, Status}

abbrev pub onward : {A B : Type 0} → Option A → (A → Option B) → Option B
onward None f = None
onward (Some a) f = f a

abbrev pub port_in : ℕ → Option ReadPort
port_in a = cond (eqb a 0x60) (Some Port.Data) (cond (eqb a 0x64) (Some Port.Status) None)

abbrev pub below : ℕ → ℕ → Option ℕ
below n a = cond (ltb a n) (Some a) None

abbrev pub flag_in : ℕ → Option Bool
flag_in a = cond (eqb a 0) (Some false) (cond (eqb a 1) (Some true) None)

abbrev pub sought_in : ℕ → ℕ → Option Sought
sought_in k a =
    cond (eqb k 2) (Some InputFree)
    (cond (eqb k 3) (Some Response)
    (cond (eqb k 4) (Some FirstOfIdentity)
    (cond (eqb k 5) (Some SecondOfIdentity)
    (cond (eqb k 6) (Some ScancodeSet)
    (cond (eqb k 7) (Some PortPassed)
    (cond (eqb k 8) (Some MouseIdentity)
    (cond (eqb k 9) (onward (below 256 a) (λ b. Some (Byte b)))
    (cond (eqb k 10) (Some Data)
    (cond (eqb k 11) (Some Status) None)))))))))

abbrev pub seeking_in : Option Sought → Option ℕ → Option Bool → Option Going
seeking_in s f d = onward s (λ s.
    onward f (λ f. onward d (λ d.
    Some (Seeking (record { sought = s; further = f; at_data = d })))))

abbrev pub going_in : ℕ → ℕ → ℕ → ℕ → Option Going
going_in k a b c =
    cond (eqb k 1) (onward (port_in a) (λ p. onward (below 256 b) (λ v. Some (Writing p v))))
    (cond (eqb k 12) (onward (below 256 a)
    (λ v. onward (below 4294967296 b) (λ f. Some (Sending v f))))
    (cond (eqb k 13) (onward (below 256 a) (λ v. Some (Submitting v)))
    (seeking_in (sought_in k a) (below 4294967296 b) (flag_in c))))

-- The place in a session's first numbers. 0 is the kind of none.
abbrev pub place_in : List ℕ → Option Going
place_in w = going_in (get_or w 3 0) (get_or w 4 0) (get_or w 5 0) (get_or w 6 0)
