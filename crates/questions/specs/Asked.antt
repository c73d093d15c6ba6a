-- What a question makes on the ports, and what is left of it after some of its bytes.
use Rattle.std.specs.Prelude.{false, cond, ℕ, eqb, Option, Some, None}
use Rattle.bits.specs.Bits.{bit}
use Rattle.bits.specs.Table.{decode}
use Rattle.exchange.specs.Exchange.{Port, p60, p64, Exchange, done, read, write, bind}
use Rattle.exchange.specs.Repeat.{Turn, found, again, turned, repeat}
use Rattle.ps2_bytes.specs.Responses.{responses, mouse_ids}
use Rattle.ps2_bytes.specs.Data.{scancode_sets}
use Rattle.ps2_layouts.specs.Status.{output_buffer_full, input_buffer_full}
use Rattle.ps2_answers.specs.Refusals.{port_of}
use Rattle.ps2_detect.specs.Detection.{second_bytes}
use Rattle.ps2_mouse.specs.Mouse.{mouse_byte_waits}
use Rattle.questions.specs.declared.Question.{Question}
use Rattle.questions.specs.declared.Question.TheVariants.{Write, Seek, Attempt}
use Rattle.questions.specs.declared.Sought.{Sought}
use Rattle.questions.specs.declared.Sought.TheVariants.{InputFree, Response, FirstOfIdentity, SecondOfIdentity, ScancodeSet, PortPassed, MouseIdentity, Byte, Data, Status}
use Rattle.questions.specs.declared.Going.{Going}
use Rattle.questions.specs.declared.Going.TheVariants.{Writing, Seeking, Sending, Submitting}
use Rattle.questions.specs.declared.Wait.{Wait}

-- What a byte is worth to a wait: it is what the wait is for, or it is thrown away.
abbrev pub came : ℕ → Turn (Option ℕ)
came b = found (Some b)

abbrev pub meets : Sought → ℕ → Turn (Option ℕ)
meets InputFree b = came b
meets Response b = decode (λ _. came b) again responses b
meets FirstOfIdentity b = cond (eqb b 0x00) (came b) (cond (eqb b 0xAB) (came b) again)
meets SecondOfIdentity b = decode (λ _. came b) again second_bytes b
meets ScancodeSet b = decode (λ _. came b) again scancode_sets b
meets PortPassed b = cond (eqb b 0x00) (came b) again
meets MouseIdentity b = decode (λ _. came b) again mouse_ids b
meets (Byte x) b = cond (eqb b x) (came b) again
meets Data b = came b
meets Status b = came b

-- A turn of a wait: the port that it reads first, what
-- follows that byte, and the data after the status.
abbrev pub first_port : Sought → Port
first_port InputFree = p64
first_port Response = p64
first_port FirstOfIdentity = p64
first_port SecondOfIdentity = p64
first_port ScancodeSet = p64
first_port PortPassed = p64
first_port MouseIdentity = p64
first_port (Byte x) = p60
first_port Data = p60
first_port Status = p64

abbrev pub second : Sought → Exchange (Turn (Option ℕ))
second s = read p60 (λ b. done (meets s b))

-- "A poll reads the status; if bit 0 is set it reads data."
abbrev pub polled : Sought → ℕ → Exchange (Turn (Option ℕ))
polled s status = cond (bit output_buffer_full status) (second s) (done again)

abbrev pub first : Sought → ℕ → Exchange (Turn (Option ℕ))
first InputFree status = cond (bit input_buffer_full status) (done again) (done (came status))
first Response status = polled Response status
first FirstOfIdentity status = polled FirstOfIdentity status
first SecondOfIdentity status = polled SecondOfIdentity status
first ScancodeSet status = polled ScancodeSet status
first PortPassed status = polled PortPassed status
first MouseIdentity status = cond (mouse_byte_waits status) (second MouseIdentity) (done again)
first (Byte x) b = done (meets (Byte x) b)
first Data b = done (came b)
first Status status = done (came status)

abbrev pub turn : Sought → Exchange (Turn (Option ℕ))
turn s = read (first_port s) (first s)

-- The turns behind this one.
abbrev pub further_turns : Sought → ℕ → Turn (Option ℕ) → Exchange (Option ℕ)
further_turns s further r = turned r (repeat further None (turn s))

-- What is left of a question, at each place in it.
abbrev pub going_on : Wait → Exchange (Option ℕ)
going_on w = cond w.at_data (bind (second w.sought) (further_turns w.sought w.further))
    (bind (turn w.sought) (further_turns w.sought w.further))

-- The limits, less the turn that a wait begins with: 255
-- status reads of a sending; 65,535 polls of a receiving.
abbrev pub further_tries : ℕ
further_tries = 254

abbrev pub further_polls : ℕ
further_polls = 65534

-- "One attempt sends, then receives." Its reply is that of its receiving; where the byte can't be
-- sent it is 4, which is no response.
abbrev pub input_stayed_full : ℕ
input_stayed_full = 4

abbrev pub response_awaited : Exchange (Option ℕ)
response_awaited = bind (turn Response) (further_turns Response further_polls)

abbrev pub submitted : ℕ → Exchange (Option ℕ)
submitted v = write p60 v response_awaited

abbrev pub sent : ℕ → Option ℕ → Exchange (Option ℕ)
sent v None = done (Some input_stayed_full)
sent v (Some status) = submitted v

abbrev pub going : Going → Exchange (Option ℕ)
going (Writing p v) = write (port_of p) v (done None)
going (Seeking w) = going_on w
going (Sending v further) = bind (bind (turn InputFree) (further_turns InputFree further)) (sent v)
going (Submitting v) = submitted v

abbrev pub begun : Question → Going
begun (Write p v) = Writing p v
begun (Seek s further) = Seeking (record { sought = s; further = further; at_data = false })
begun (Attempt v) = Sending v further_tries

-- The whole question, and its reply.
abbrev pub asked : Question → Exchange (Option ℕ)
asked q = going (begun q)
