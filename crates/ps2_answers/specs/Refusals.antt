-- Refusals: the number of each, and what an answer says of a play's end.
use Rattle.std.specs.Prelude.{ℕ}
use Rattle.exchange.specs.Exchange.{Port, p60, p64, no_script, no_log, End, yields, lacks}
use Rattle.exchange.specs.Exchange as exchange
use Rattle.exchange.specs.Answer.{Answer, refuses, lack_number}
use Rattle.ps2_answers.specs.declared.ReadPort.{ReadPort}
use Rattle.ps2_answers.specs.declared.Lack.{Lack}
use Rattle.ps2_answers.specs.declared.Failure.{Failure}
use Rattle.ps2_answers.specs.declared.Failure.TheVariants.{AlreadyInitialized, InputBufferFull, NoResponse, SelfTestFailed, NotAcknowledged, ControllerTestFailed, PortTestFailed, ResetFailed, NoSetOrIdentity, UnknownKeyboard, FirstIdentityFour, LedsNotSet, RateOrResolutionNotSet, PacketsNotStopped, PacketsNotStarted, KeyboardNotDetected, FieldOutsideValues}
use Rattle.ps2_answers.specs.declared.Refusal.{Refusal}
use Rattle.ps2_answers.specs.declared.Refusal.TheVariants.{Lacking, Failed}

-- The number of each failure.
abbrev pub number_of : Failure → ℕ
number_of AlreadyInitialized = 1
number_of InputBufferFull = 4
number_of NoResponse = 5
number_of SelfTestFailed = 6
number_of NotAcknowledged = 7
number_of ControllerTestFailed = 8
number_of PortTestFailed = 9
number_of ResetFailed = 10
number_of NoSetOrIdentity = 11
number_of UnknownKeyboard = 12
number_of FirstIdentityFour = 13
number_of LedsNotSet = 14
number_of RateOrResolutionNotSet = 15
number_of PacketsNotStopped = 16
number_of PacketsNotStarted = 17
number_of KeyboardNotDetected = 18
number_of FieldOutsideValues = 28

-- The port of a read: data is 60, the status 64.
abbrev pub port_of : ReadPort → Port
port_of ReadPort.Data = p60
port_of ReadPort.Status = p64

-- The lack of a play that the code's lack says.
abbrev pub lack_of : Lack → exchange.Lack
lack_of (Lack.Script p) = no_script (port_of p)
lack_of Lack.Log = no_log

-- The number of each refusal: a lack's is 2 or 3.
abbrev pub refusal_number : Refusal → ℕ
refusal_number (Lacking l) = lack_number (lack_of l)
refusal_number (Failed f) = number_of f

-- What a refusal says of the end of a play: a lack is the play's
-- own end, and any other number is the operation's answer.
abbrev pub refused : {A : Type 0} → Refusal → End (Answer A)
refused (Lacking l) = lacks (lack_of l)
refused (Failed f) = yields (refuses (number_of f))

-- The value of an operation that gives nothing but its success.
abbrev pub Success : Type 0
Success = Unit

abbrev pub success : Success
success = tt
