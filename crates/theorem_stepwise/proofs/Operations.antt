-- What is run a byte at a time is the operation that the one call is defined by.
use Prim.Native.Nat.{ℕ}
use mathlib.Core.Path.{◌≡◌, refl, sym, ap, ◌∙◌, fun_ext}
use Rattle.std.specs.Prelude.{Result, Ok, Err}
use Rattle.bits.specs.Bits.{weigh}
use Rattle.exchange.specs.Exchange.{Exchange, done, bind}
use Rattle.exchange.specs.Answer.{Answer, number_answered}
use Rattle.exchange.proofs.Sequence.{bind_assoc}
use Rattle.ps2_bytes.specs.Data.{scancode_set_byte}
use Rattle.ps2_bytes.specs.Responses.{mouse_id_byte}
use Rattle.ps2_answers.specs.Refusals.{Success}
use Rattle.ps2_answers.specs.declared.Failure.{Failure}
use Rattle.ps2_ports.specs.declared.DevicePort.TheVariants.{Port1}
use Rattle.ps2_packet.specs.declared.SignedPacket.{SignedPacket}
use Rattle.port_words.specs.Told.{no_value, byte_value, type_number}
use Rattle.talks.specs.declared.mouse.IdentityLeft.{IdentityLeft}
use Rattle.talks.specs.declared.controller.ControllerLeft.{ControllerLeft}
use Rattle.talks.specs.Talk.{Talk, tells, next, on_ok, tree, answer_of, answering}
use Rattle.talks.specs.Commands.{read_data}
use Rattle.talks.specs.Keyboard as keyboard
use Rattle.talks.specs.Mouse as mouse
use Rattle.talks.specs.Controller as controller
use Rattle.talks.specs.Application.{apply_preferences}
use Rattle.theorem_stepwise.proofs.Trees.{telling}
use Rattle.theorem_stepwise.proofs.Keyboard.{answering_keyboard_command, answering_reset_keyboard, answering_keyboard_led, answering_get_set, answering_set_set, answering_repeat, answering_keyboard_waits, answering_read_data, answering_detect, answering_keyboard_init}
use Rattle.theorem_stepwise.proofs.Mouse.{answering_mouse_command, answering_reset_mouse, answering_rate, answering_resolution, answering_disable, answering_enable, answering_mouse_id, answering_mouse_waits, answering_packet, telling_set_mouse_id}
use Rattle.theorem_stepwise.proofs.Mouse as mouse_trees
use Rattle.theorem_stepwise.proofs.Controller.{telling_initialize}
use Rattle.theorem_stepwise.proofs.Controller as controller_trees
use Rattle.theorem_stepwise.proofs.Application.{answering_preferences}
use Rattle.sessions.specs.declared.Operation.{Operation}
use Rattle.sessions.specs.declared.Operation.TheVariants.{InitializeController, InitializeKeyboard, ResetKeyboard, CommandKeyboard, SetLamps, SetScancodeSet, GetScancodeSet, DetectKeyboard, SetRepeat, KeyboardWaits, ReadScancode, ResetMouse, StartPackets, StopPackets, GetIdentity, SetIdentity, CommandMouse, SetSamplingRate, SetResolution, MouseWaits, ReadPacket, ApplyPreferences}
use Rattle.sessions.specs.declared.Ending.{Ending}
use Rattle.sessions.specs.Operations.{refused_as, value_told, identity_told, controller_told, packet_told, telling_number, talk_of}
use Rattle.sessions.proofs.Rounds.{exchange_rounds}
use Rattle.step_words.specs.Sessions.{ended, whole}
use Rattle.theorem_stepwise.specs.Operations.{answer_numbers, numbers, mouse_numbers, controller_numbers, packet_numbers, operation}

module _ {A : Type 0} (worth : A → ℕ) where
  value_both : (r : Result A Failure) → bind (on_ok (λ a. tree (tells (Ok (value_told worth a)))) r) (λ r. done (ended r)) ≡ bind (done (answer_of r)) (λ a. done (answer_numbers worth a))
  unfolding bind tree
  value_both (Ok a) = refl
  value_both (Err f) = refl

  told_value : (t : Talk A) (x : Exchange (Answer A)) → answering t ≡ x → telling ended (telling_number worth t) ≡ numbers worth x
  unfolding tree
  told_value t x p =
      bind_assoc (tree t) (λ r. on_ok (λ a. tree (tells (Ok (value_told worth a)))) r) (λ r. done (ended r))
      ∙ ap (bind (tree t)) (fun_ext value_both)
      ∙ sym (bind_assoc (tree t) (λ r. done (answer_of r)) (λ a. done (answer_numbers worth a)))
      ∙ ap (numbers worth) p

abbrev ending_of : {L : Type 0} → (L → Ending) → Result L Failure → Ending
ending_of w (Ok l) = w l
ending_of w (Err f) = ended (Err f)

module _ {L K : Type 0} (w : L → Ending) (v : Result L Failure → K) (u : K → Ending) where
  left_both : ((r : Result L Failure) → ending_of w r ≡ u (v r)) → (r : Result L Failure)
      → bind (on_ok (λ l. tree (tells (Ok (w l)))) r) (λ r. done (ended r)) ≡ bind (done (v r)) (λ k. done (u k))
  unfolding bind tree
  left_both e (Ok l) = ap done (e (Ok l))
  left_both e (Err f) = ap done (e (Err f))

  told_left : (t : Talk L) (x : Exchange K) → ((r : Result L Failure) → ending_of w r ≡ u (v r)) → telling v t ≡ x → telling ended (next t (λ l. tells (Ok (w l)))) ≡ bind x (λ k. done (u k))
  unfolding tree
  told_left t x e p =
      bind_assoc (tree t) (λ r. on_ok (λ l. tree (tells (Ok (w l)))) r) (λ r. done (ended r))
      ∙ ap (bind (tree t)) (fun_ext (left_both e))
      ∙ sym (bind_assoc (tree t) (λ r. done (v r)) (λ k. done (u k)))
      ∙ ap (λ x. bind x (λ k. done (u k))) p

refused : (r : Result Success Failure) → refused_as r ≡ number_answered (answer_of r)
refused (Ok s) = refl
refused (Err f) = refl

mouse_left : (r : Result IdentityLeft Failure) → ending_of identity_told r ≡ mouse_numbers (mouse_trees.left_told r)
mouse_left (Ok l) = ap (λ n. record { refusal = n; first = mouse_id_byte l.id; second = 0; third = 0; fourth = 0 }) (refused l.answer)
mouse_left (Err f) = refl

controller_left : (r : Result ControllerLeft Failure) → ending_of controller_told r ≡ controller_numbers (controller_trees.left_told r)
controller_left (Ok l) =
    ap (λ n. record { refusal = n; first = weigh l.controller.initialized; second = weigh l.controller.keyboard_attached; third = weigh l.controller.mouse_attached; fourth = 0 }) (refused l.answer)
controller_left (Err f) = refl

packet_left : (r : Result SignedPacket Failure) → ending_of packet_told r ≡ packet_numbers (answer_of r)
packet_left (Ok p) = refl
packet_left (Err f) = refl

told : (o : Operation) → telling ended (talk_of o) ≡ operation o
unfolding talk_of operation
told (InitializeController passed) = told_left controller_told controller_trees.left_told controller_numbers (controller.initialize passed) _ controller_left (telling_initialize passed)
told InitializeKeyboard = told_value no_value keyboard.keyboard_init _ answering_keyboard_init
told ResetKeyboard = told_value no_value keyboard.reset_keyboard _ answering_reset_keyboard
told (CommandKeyboard c) = told_value no_value (keyboard.keyboard_command c) _ (answering_keyboard_command c)
told (SetLamps leds) = told_value no_value (keyboard.set_port_led Port1 leds) _ (answering_keyboard_led leds)
told (SetScancodeSet set) = told_value no_value (keyboard.set_scancode_set set) _ (answering_set_set set)
told GetScancodeSet = told_value scancode_set_byte keyboard.get_scancode_set _ answering_get_set
told DetectKeyboard = told_value type_number keyboard.keyboard_detect _ answering_detect
told (SetRepeat byte) = told_value no_value (keyboard.set_keyboard_repeat byte) _ (answering_repeat byte)
told KeyboardWaits = told_value weigh keyboard.keyboard_waits _ answering_keyboard_waits
told ReadScancode = told_value byte_value read_data _ answering_read_data
told ResetMouse = told_value no_value mouse.reset_mouse _ answering_reset_mouse
told StartPackets = told_value no_value mouse.enable_packet_streaming _ answering_enable
told StopPackets = told_value no_value mouse.disable_packet_streaming _ answering_disable
told GetIdentity = told_value mouse_id_byte mouse.mouse_id _ answering_mouse_id
told (SetIdentity old) = told_left identity_told mouse_trees.left_told mouse_numbers (mouse.set_mouse_id old) _ mouse_left (telling_set_mouse_id old)
told (CommandMouse c) = told_value no_value (mouse.mouse_command c) _ (answering_mouse_command c)
told (SetSamplingRate rate) = told_value no_value (mouse.set_sampling_rate rate) _ (answering_rate rate)
told (SetResolution resolution) = told_value no_value (mouse.set_resolution resolution) _ (answering_resolution resolution)
told MouseWaits = told_value weigh mouse.mouse_waits _ answering_mouse_waits
told (ReadPacket id) = told_left packet_told answer_of packet_numbers (mouse.read_packet id) _ packet_left (answering_packet id)
told (ApplyPreferences p) = told_value no_value (apply_preferences p) _ (answering_preferences p)

pub whole_operation : (o : Operation) → whole o ≡ operation o
whole_operation o = ap (λ x. bind x (λ r. done (ended r))) (exchange_rounds (talk_of o)) ∙ told o
