-- Each of the mouse's talks is its tree.
use Prim.Native.Nat.{ℕ}
use mathlib.Core.List.{[], ◌∷◌}
use mathlib.Core.Path.{◌≡◌, refl, ap, ◌∙◌, fun_ext}
use Rattle.std.specs.Prelude.{Result, Ok, Err}
use Rattle.exchange.specs.Exchange.{p60, p64, Exchange, done, read, bind}
use Rattle.exchange.specs.Answer.{Answer, gives, refuses, and_then}
use Rattle.exchange.specs.Left.{Left, left}
use Rattle.exchange.specs.Repeat.{repeat}
use Rattle.ps2_bytes.specs.Responses.{mouse_ids}
use Rattle.ps2_bytes.specs.declared.command.HostToMouseCommand.{HostToMouseCommand}
use Rattle.ps2_bytes.specs.declared.data.MouseResolution.{MouseResolution}
use Rattle.ps2_bytes.specs.declared.data.MouseSampleRate.{MouseSampleRate}
use Rattle.ps2_bytes.specs.declared.data.MouseSampleRate.TheVariants.{_80, _100, _200}
use Rattle.ps2_bytes.specs.declared.response.MouseId.{MouseId}
use Rattle.ps2_bytes.specs.declared.response.MouseId.TheVariants.{Zero, Three, Four}
use Rattle.ps2_ports.specs.declared.DevicePort.TheVariants.{Port2}
use Rattle.ps2_ports.specs.Ports.{flush_output_buffer, read_status}
use Rattle.ps2_answers.specs.Refusals.{Success, success}
use Rattle.ps2_answers.specs.declared.Failure.{Failure}
use Rattle.ps2_answers.specs.declared.Failure.TheVariants.{NoResponse, NoSetOrIdentity, FirstIdentityFour, RateOrResolutionNotSet, PacketsNotStopped, PacketsNotStarted}
use Rattle.ps2_command.specs.Search.{poll_when, listed_turn}
use Rattle.ps2_mouse.specs.Mouse as tree
use Rattle.ps2_mouse.specs.Mouse.{command_to_mouse, mouse_byte_waits}
use Rattle.ps2_mouse.specs.declared.PS2Mouse.{PS2Mouse}
use Rattle.ps2_packet.specs.declared.SignedPacket.{SignedPacket}
use Rattle.ps2_packet.specs.declared.MousePacket.TheVariants as Packet
use Rattle.ps2_packet.specs.Packet.{generic, packet3, packet4, signed_packet}
use Rattle.ps2_packet_reading.specs.Reading.{three_bytes, read_mouse_packet, read_signed_packet}
use Rattle.ps2_mouse_identity.specs.Identity as tree_of
use Rattle.ps2_mouse_identity.specs.Identity.{wheel_rates, button_rates}
use Rattle.questions.specs.declared.Sought.TheVariants.{MouseIdentity, Status}
use Rattle.questions.specs.Asked.{meets, further_polls}
use Rattle.talks.specs.Talk.{Talk, tells, next, trying, tree as the_tree, answering, answer_of}
use Rattle.talks.specs.declared.mouse.IdentityLeft.{IdentityLeft}
use Rattle.talks.specs.Commands.{seek, read_data, self_test}
use Rattle.talks.specs.Mouse as talk
use Rattle.theorem_stepwise.proofs.Trees.{telling, answering_next, next_assoc, telling_tried, answering_failing, answering_tells}
use Rattle.theorem_stepwise.proofs.Waits.{after_seek, answering_seek, answering_sought, answering_data, polls_through, table_talk, table_through, answering_command_by, answering_pair, answering_self_test}

pub answering_mouse_command : (c : HostToMouseCommand) → answering (talk.mouse_command c) ≡ tree.mouse_command c
unfolding command_to_mouse
answering_mouse_command c = answering_command_by Port2 _

flushes : answering (next read_data (λ _. tells (Ok success))) ≡ flush_output_buffer
unfolding flush_output_buffer
flushes = answering_data (λ _. tells (Ok success)) ∙ ap (read p60) (fun_ext (λ _. answering_tells (Ok success)))

pub answering_reset_mouse : answering talk.reset_mouse ≡ tree.reset_mouse
unfolding talk.reset_mouse tree.reset_mouse
answering_reset_mouse =
    answering_next (talk.mouse_command _) _ (λ _. next (self_test 196604) (λ _. next read_data (λ _. tells (Ok success)))) _ (answering_mouse_command _)
    (λ _. answering_next (self_test 196604) _ (λ _. next read_data (λ _. tells (Ok success))) _ (answering_self_test 196604) (λ _. flushes))

pub answering_rate : (rate : MouseSampleRate) → answering (talk.set_sampling_rate rate) ≡ tree.set_sampling_rate rate
unfolding talk.set_sampling_rate talk.setting tree.set_sampling_rate command_to_mouse
answering_rate rate = answering_failing RateOrResolutionNotSet _ _ (answering_pair Port2 _ _)

pub answering_resolution : (resolution : MouseResolution) → answering (talk.set_resolution resolution) ≡ tree.set_resolution resolution
unfolding talk.set_resolution talk.setting tree.set_resolution command_to_mouse
answering_resolution resolution = answering_failing RateOrResolutionNotSet _ _ (answering_pair Port2 _ _)

pub answering_disable : answering talk.disable_packet_streaming ≡ tree.disable_packet_streaming
unfolding talk.disable_packet_streaming tree.disable_packet_streaming
answering_disable = answering_failing PacketsNotStopped (talk.mouse_command _) _ (answering_mouse_command _)

pub answering_enable : answering talk.enable_packet_streaming ≡ tree.enable_packet_streaming
unfolding talk.enable_packet_streaming tree.enable_packet_streaming
answering_enable = answering_failing PacketsNotStarted (talk.mouse_command _) _ (answering_mouse_command _)

id_search : answering (next (seek MouseIdentity further_polls NoSetOrIdentity) (table_talk NoSetOrIdentity mouse_ids)) ≡ repeat 65535 (refuses 11) (poll_when mouse_byte_waits (listed_turn mouse_ids))
unfolding poll_when bind
id_search =
    answering_sought MouseIdentity further_polls NoSetOrIdentity (table_talk NoSetOrIdentity mouse_ids) (poll_when mouse_byte_waits (listed_turn mouse_ids))
    (ap (read p64) (fun_ext (λ status. polls_through (after_seek NoSetOrIdentity (λ b. answering (table_talk NoSetOrIdentity mouse_ids b))) (meets MouseIdentity) (listed_turn mouse_ids) (table_through NoSetOrIdentity mouse_ids) (mouse_byte_waits status))))

pub answering_mouse_id : answering talk.mouse_id ≡ tree.mouse_id
unfolding talk.mouse_id tree.mouse_id
answering_mouse_id = answering_next (talk.mouse_command _) _ (λ _. next (seek MouseIdentity further_polls NoSetOrIdentity) (table_talk NoSetOrIdentity mouse_ids)) _ (answering_mouse_command _) (λ _. id_search)

pub answering_mouse_waits : answering talk.mouse_waits ≡ tree.mouse_output_buffer_full
unfolding talk.mouse_waits tree.mouse_output_buffer_full read_status and_then bind
answering_mouse_waits = answering_seek Status 0 NoResponse (λ status. tells (Ok (mouse_byte_waits status))) ∙ ap (read p64) (fun_ext (λ b. answering_tells (Ok (mouse_byte_waits b))))

-- ---- a packet

reads_three : {B : Type 0} (g : ℕ → ℕ → ℕ → Talk B) (h : ℕ → ℕ → ℕ → Exchange (Answer B)) → ((a b c : ℕ) → answering (g a b c) ≡ h a b c)
    → answering (next read_data (λ a. next read_data (λ b. next read_data (g a b)))) ≡ three_bytes h
reads_three g h e =
    answering_data (λ a. next read_data (λ b. next read_data (g a b)))
    ∙ ap (read p60) (fun_ext (λ a. answering_data (λ b. next read_data (g a b)) ∙ ap (read p60) (fun_ext (λ b. answering_data (g a b) ∙ ap (read p60) (fun_ext (e a b))))))

pub answering_packet : (id : MouseId) → answering (talk.read_packet id) ≡ read_signed_packet id
unfolding talk.read_packet read_signed_packet read_mouse_packet and_then bind
answering_packet Zero = reads_three (talk.after_three Zero) (λ b1 b2 b3. done (gives (signed_packet (Packet.Zero (generic b1 b2 b3))))) (λ a b c. answering_tells _)
answering_packet Three =
    reads_three (talk.after_three Three) (λ b1 b2 b3. read p60 (λ b4. done (gives (signed_packet (Packet.Three (packet3 b1 b2 b3 b4))))))
    (λ a b c. answering_data (λ b4. tells (Ok (signed_packet (Packet.Three (packet3 a b c b4))))) ∙ ap (read p60) (fun_ext (λ b4. answering_tells _)))
answering_packet Four =
    reads_three (talk.after_three Four) (λ b1 b2 b3. read p60 (λ b4. done (gives (signed_packet (Packet.Four (packet4 b1 b2 b3 b4))))))
    (λ a b c. answering_data (λ b4. tells (Ok (signed_packet (Packet.Four (packet4 a b c b4))))) ∙ ap (read p60) (fun_ext (λ b4. answering_tells _)))

-- ---- `set_mouse_id`

rates : (a b c : MouseSampleRate) → answering (talk.set_rates a b c) ≡ tree_of.set_rates (a ∷ b ∷ c ∷ [])
unfolding talk.set_rates tree_of.set_rates
rates a b c =
    answering_next (talk.set_sampling_rate a) _ (λ _. next (talk.set_sampling_rate b) (λ _. next (talk.set_sampling_rate c) (λ _. tells (Ok success)))) _ (answering_rate a)
    (λ _. answering_next (talk.set_sampling_rate b) _ (λ _. next (talk.set_sampling_rate c) (λ _. tells (Ok success))) _ (answering_rate b)
    (λ _. answering_next (talk.set_sampling_rate c) _ (λ _. tells (Ok success)) _ (answering_rate c) (λ _. answering_tells (Ok success))))

-- the identity that is read after rates, if it can be
identity : (a b c : MouseSampleRate) {B : Type 0} (g : Result MouseId Failure → Talk B) (h : Answer MouseId → Exchange (Answer B)) → ((r : Result MouseId Failure) → answering (g r) ≡ h (answer_of r))
    → answering (next (talk.identity_after a b c) g) ≡ and_then (tree_of.set_rates (a ∷ b ∷ c ∷ [])) (λ _. bind tree.mouse_id h)
unfolding talk.identity_after
identity a b c g h e =
    next_assoc (talk.set_rates a b c) (λ _. trying talk.mouse_id) g
    ∙ answering_next (talk.set_rates a b c) _ (λ _. next (trying talk.mouse_id) g) (λ _. bind tree.mouse_id h) (rates a b c) (λ _. telling_tried answer_of talk.mouse_id tree.mouse_id g h answering_mouse_id e)

second_left : (old : MouseId) (r : Result MouseId Failure) → answering (tells (Ok (talk.read_or old r))) ≡ done (gives (tree_of.read_or old (answer_of r)))
second_left old (Ok id) = answering_tells (Ok id)
second_left old (Err f) = answering_tells (Ok old)

button : (old : MouseId) → answering (talk.button_identity old) ≡ and_then (tree_of.set_rates button_rates) (λ _. tree_of.second_identity old)
unfolding talk.button_identity tree_of.second_identity
button old = identity _200 _200 _80 (λ second. tells (Ok (talk.read_or old second))) (λ second. done (gives (tree_of.read_or old second))) (second_left old)

after_first : (old : MouseId) (r : Result MouseId Failure) → answering (talk.after_first old r) ≡ tree_of.after_first old (answer_of r)
after_first old (Err f) = answering_tells (Ok old)
after_first old (Ok Zero) = answering_tells (Ok old)
after_first old (Ok Three) = button old
after_first old (Ok Four) = answering_tells (Err FirstIdentityFour)

pub answering_new_identity : (old : MouseId) → answering (talk.new_identity old) ≡ tree_of.new_identity old
unfolding talk.new_identity tree_of.new_identity
answering_new_identity old =
    answering_next talk.disable_packet_streaming _ (λ _. next (talk.identity_after _200 _100 _80) (talk.after_first old)) _ answering_disable
    (λ _. identity _200 _100 _80 (talk.after_first old) (tree_of.after_first old) (after_first old))

-- what it leaves
abbrev pub left_told : Result IdentityLeft Failure → Left PS2Mouse Success
left_told (Ok l) = left (answer_of l.answer) (record { id = l.id })
left_told (Err f) = left (answer_of (Err f)) (record { id = Zero })

told_left : (l : IdentityLeft) → telling left_told (tells (Ok l)) ≡ done (left (answer_of l.answer) (record { id = l.id }))
unfolding bind the_tree
told_left l = refl

starts : (old : MouseId) (r : Result MouseId Failure) → telling left_told (talk.start_packets old r) ≡ tree_of.start_packets (record { id = old }) (answer_of r)
starts old (Ok id) =
    telling_tried left_told talk.enable_packet_streaming tree.enable_packet_streaming (λ started. tells (Ok (talk.identity_left started id))) (λ a. done (left a (record { id = id })))
    answering_enable (λ started. told_left (talk.identity_left started id))
starts old (Err f) = told_left (talk.identity_left (Err f) old)

pub telling_set_mouse_id : (old : MouseId) → telling left_told (talk.set_mouse_id old) ≡ tree_of.set_mouse_id (record { id = old })
unfolding talk.set_mouse_id talk.new_identity_tried tree_of.set_mouse_id
telling_set_mouse_id old =
    telling_tried left_told (talk.new_identity old) (tree_of.new_identity old) (talk.start_packets old) (λ id. tree_of.start_packets (record { id = old }) id) (answering_new_identity old) (starts old)
