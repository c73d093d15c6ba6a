-- `set_mouse_id`: the sequence of rates and identities, and the mouse's record at each of its ends.
use Rattle.std.specs.Prelude.{List, [], ◌∷◌, Option, Some, None}
use Rattle.exchange.specs.Exchange.{Exchange, done, bind}
use Rattle.exchange.specs.Answer.{Answer, gives, refuses, and_then}
use Rattle.exchange.specs.Left.{Left, left}
use Rattle.ps2_bytes.specs.declared.data.MouseSampleRate.{MouseSampleRate}
use Rattle.ps2_bytes.specs.declared.data.MouseSampleRate.TheVariants.{_80, _100, _200}
use Rattle.ps2_bytes.specs.declared.response.MouseId.{MouseId}
use Rattle.ps2_bytes.specs.declared.response.MouseId.TheVariants.{Zero, Three, Four}
use Rattle.ps2_answers.specs.Refusals.{Success, success}
use Rattle.ps2_mouse.specs.declared.PS2Mouse.{PS2Mouse}
use Rattle.ps2_mouse.specs.Mouse.{set_sampling_rate, mouse_id, disable_packet_streaming, enable_packet_streaming}

-- Rates, one after another.
unfoldable pub set_rates : List MouseSampleRate → Exchange (Answer Success)
set_rates [] = done (gives success)
set_rates (rate ∷ rates) = and_then (set_sampling_rate rate) (λ _. set_rates rates)

-- The identity that was read, if any was.
abbrev pub read_id : Answer MouseId → Option MouseId
read_id (gives id) = Some id
read_id (refuses n) = None

-- Rates, and then the identity, if it could be read: which refusal F2 gave is forgotten here, as "a
-- failed first identity is forgiven".
unfoldable pub identity_if_read : List MouseSampleRate → Exchange (Answer (Option MouseId))
identity_if_read rates =
    and_then (set_rates rates) (λ _. bind mouse_id (λ id. done (gives (read_id id))))

-- "rates 200, 100, 80", which ask for identity 3; "rates 200, 200, 80", which ask for 4.
abbrev pub wheel_rates : List MouseSampleRate
wheel_rates = _200 ∷ _100 ∷ _80 ∷ []

abbrev pub button_rates : List MouseSampleRate
button_rates = _200 ∷ _200 ∷ _80 ∷ []

-- "what is read (0, 3 or 4) becomes the identity, a failure leaves the old one"
abbrev pub read_or : MouseId → Answer MouseId → MouseId
read_or old (gives id) = id
read_or old (refuses n) = old

unfoldable pub second_identity : MouseId → Exchange (Answer MouseId)
second_identity old = bind mouse_id (λ second. done (gives (read_or old second)))

-- "A failed first identity is forgiven. It, and a first identity of 0,
-- leave the record's identity as it was. On 3: rates 200, 200, 80,
-- identity." "Was the first identity in `set_mouse_id` other than 4? 13"
abbrev pub after_first : MouseId → Answer MouseId → Exchange (Answer MouseId)
after_first old (refuses n) = done (gives old)
after_first old (gives Zero) = done (gives old)
after_first old (gives Three) = and_then (set_rates button_rates) (λ _. second_identity old)
after_first old (gives Four) = done (refuses 13)

-- "F5; rates 200, 100, 80; identity (F2)", and what follows
-- it: the identity that the mouse is to have.
unfoldable pub new_identity : MouseId → Exchange (Answer MouseId)
new_identity old = and_then disable_packet_streaming
    (λ _. and_then (set_rates wheel_rates) (λ _. bind mouse_id (λ first. after_first old first)))

-- "Then F4." "After 17 the mouse has the identity that success
-- would have left; after 13, 15 and 16 the one it had."
abbrev pub start_packets : PS2Mouse → Answer MouseId → Exchange (Left PS2Mouse Success)
start_packets mouse (gives id) =
    bind enable_packet_streaming (λ a. done (left a (record { id = id })))
start_packets mouse (refuses n) = done (left (refuses n) mouse)

unfoldable pub set_mouse_id : PS2Mouse → Exchange (Left PS2Mouse Success)
set_mouse_id mouse = bind (new_identity mouse.id) (λ id. start_packets mouse id)
