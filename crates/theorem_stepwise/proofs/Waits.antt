-- A wait that is sought is the repetition that the operations make.
use Prim.Native.Nat.{ℕ, suc}
use mathlib.Core.Bool.{Bool, true, false, cond}
use mathlib.Core.List.{List, [], ◌∷◌}
use lib.Dec.{eqb}
use mathlib.Core.Path.{◌≡◌, refl, sym, ap, ◌∙◌, fun_ext}
use Rattle.std.specs.Prelude.{Option, Some, None, Result, Ok, Err}
use Rattle.bits.specs.Bits.{bit}
use Rattle.bits.specs.Table.{decode}
use Rattle.bits.proofs.Table.{decode_map}
use Rattle.exchange.specs.Exchange.{p60, p64, Exchange, done, read, write, bind}
use Rattle.exchange.specs.Answer.{Answer, gives, refuses, on_given, and_then}
use Rattle.exchange.specs.Repeat.{Turn, found, again, repeat}
use Rattle.exchange.proofs.Sequence.{bind_assoc}
use Rattle.ps2_bytes.specs.Commands.{controller_byte}
use Rattle.ps2_bytes.specs.declared.command.HostToControllerCommand.{HostToControllerCommand}
use Rattle.ps2_bytes.specs.declared.command.HostToControllerCommand.TheVariants.{WriteByteToPort2InputBuffer}
use Rattle.ps2_bytes.specs.Responses.{responses}
use Rattle.ps2_ports.specs.Ports.{write_port, write_command}
use Rattle.ps2_bytes.specs.Writable.{to_device}
use Rattle.ps2_bytes.specs.declared.writable.HostToDevice.{HostToDevice}
use Rattle.ps2_layouts.specs.Status.{output_buffer_full, input_buffer_full}
use Rattle.ps2_answers.specs.Refusals.{Success, success, number_of, port_of}
use Rattle.ps2_answers.specs.declared.ReadPort.{ReadPort}
use Rattle.ps2_answers.specs.declared.ReadPort.TheVariants as Port
use Rattle.ps2_answers.specs.declared.Failure.{Failure}
use Rattle.ps2_answers.specs.declared.Failure.TheVariants.{NoResponse, InputBufferFull}
use Rattle.ps2_polling.specs.Polling.{send_try, polling_send, poll, data_turn, passed_turn, response_turn, polling_receive, polling_send_receive}
use Rattle.ps2_command.specs.Command as Rule
use Rattle.ps2_command.specs.Command.{settled, command_by}
use Rattle.ps2_command.specs.Search.{listed_turn, self_test_within}
use Rattle.ps2_ports.specs.declared.DevicePort.{DevicePort}
use Rattle.ps2_ports.specs.declared.DevicePort.TheVariants.{Port1, Port2}
use Rattle.ps2_bytes.specs.declared.response.DeviceToHostResponse.{DeviceToHostResponse}
use Rattle.ps2_bytes.specs.declared.response.DeviceToHostResponse.TheVariants.{KeyDetectionErrorOrInternalBufferOverrun1, SelfTestPassed, ResponseToEcho, Acknowledge, SelfTestFailed1, SelfTestFailed2, ResendCommand, KeyDetectionErrorOrInternalBufferOverrun2}
use Rattle.questions.specs.declared.Question.TheVariants.{Seek, Attempt}
use Rattle.questions.specs.declared.Sought.{Sought}
use Rattle.questions.specs.declared.Sought.TheVariants.{InputFree, Response, Byte, Data}
use Rattle.questions.specs.Asked.{came, meets, second, turn, further_turns, further_tries, further_polls, response_awaited, sent, asked}
use Rattle.talks.specs.Talk.{Talk, tells, next, on_ok, tree, answer_of, answering}
use Rattle.talks.specs.Commands as talk
use Rattle.talks.specs.Commands.{or_fails, seek}
use Rattle.theorem_stepwise.proofs.Trees.{answering_next, answering_attempting, turn_answer, through, repeat_through, wait_through}

-- ---- what follows a wait

abbrev pub after_seek : {B : Type 0} → Failure → (ℕ → Exchange (Answer B)) → Option ℕ → Exchange (Answer B)
after_seek f h None = done (refuses (number_of f))
after_seek f h (Some b) = h b

sought_both : {B : Type 0} (f : Failure) (g : ℕ → Talk B) (r : Option ℕ)
    → bind (bind (bind (done (Ok r)) (λ r. on_ok (λ r. tree (tells (or_fails f r))) r)) (λ r. on_ok (λ b. tree (g b)) r)) (λ r. done (answer_of r)) ≡ after_seek f (λ b. answering (g b)) r
unfolding bind tree
sought_both f g None = refl
sought_both f g (Some b) = refl

pub answering_seek : {B : Type 0} (s : Sought) (m : ℕ) (f : Failure) (g : ℕ → Talk B)
    → answering (next (seek s m f) g) ≡ bind (asked (Seek s m)) (after_seek f (λ b. answering (g b)))
unfolding tree seek
answering_seek s m f g =
    ap (λ y. bind (bind y (λ r. on_ok (λ b. tree (g b)) r)) (λ r. done (answer_of r))) (bind_assoc (asked (Seek s m)) (λ r. done (Ok r)) (λ r. on_ok (λ r. tree (tells (or_fails f r))) r))
    ∙ ap (λ y. bind y (λ r. done (answer_of r))) (bind_assoc (asked (Seek s m)) (λ r. bind (done (Ok r)) (λ r. on_ok (λ r. tree (tells (or_fails f r))) r)) (λ r. on_ok (λ b. tree (g b)) r))
    ∙ bind_assoc (asked (Seek s m)) (λ r. bind (bind (done (Ok r)) (λ r. on_ok (λ r. tree (tells (or_fails f r))) r)) (λ r. on_ok (λ b. tree (g b)) r)) (λ r. done (answer_of r))
    ∙ ap (bind (asked (Seek s m))) (fun_ext (sought_both f g))

-- the repetition that it is
pub answering_sought : {B : Type 0} (s : Sought) (m : ℕ) (f : Failure) (g : ℕ → Talk B) (t' : Exchange (Turn (Answer B)))
    → bind (turn s) (through (after_seek f (λ b. answering (g b)))) ≡ t' → answering (next (seek s m f) g) ≡ repeat (suc m) (refuses (number_of f)) t'
answering_sought s m f g t' p =
    answering_seek s m f g ∙ wait_through s m (after_seek f (λ b. answering (g b))) (refuses (number_of f)) t' refl p

-- one read of data, whatever it brings
pub answering_data : {B : Type 0} (g : ℕ → Talk B) → answering (next talk.read_data g) ≡ read p60 (λ b. answering (g b))
unfolding bind
answering_data g = answering_seek Data 0 NoResponse g

-- a write
pub answering_write : {B : Type 0} (p : ReadPort) (v : ℕ) (g : Success → Talk B) → answering (next (talk.write p v) g) ≡ write (port_of p) v (answering (g success))
unfolding bind tree talk.write
answering_write p v g = refl

pub answering_written : (p : ReadPort) (v : ℕ) → answering (talk.write p v) ≡ write (port_of p) v (done (gives success))
unfolding bind tree talk.write
answering_written p v = refl

pub answering_write_command : (c : HostToControllerCommand) → answering (talk.write_command c) ≡ write_command c
unfolding write_port
answering_write_command c = answering_written Port.Status (controller_byte c)

-- ---- what a byte is worth

-- a poll
pub polls_through : {B : Type 0} (G : Option ℕ → Exchange (Answer B)) (met : ℕ → Turn (Option ℕ)) (worth : ℕ → Turn (Answer B))
    → ((b : ℕ) → through G (met b) ≡ done (worth b)) → (full : Bool)
    → bind (cond full (read p60 (λ b. done (met b))) (done again)) (through G) ≡ cond full (data_turn worth) (done again)
unfolding bind
polls_through G met worth e true = ap (read p60) (fun_ext e)
polls_through G met worth e false = refl

-- a byte that a table knows is the answer that the table gives
module _ {A B : Type 0} (h : A → B) (o : B) where
  known_row : (x : B) (a : A) (v : Bool) (more : B) (y z : Turn B) → x ≡ cond v (h a) more → (x ≡ more → y ≡ z) → cond v (found x) y ≡ cond v (found (h a)) z
  known_row x a true more y z p f = ap found p
  known_row x a false more y z p f = f p

  decode_known : (rows : List (ℕ × A)) (b : ℕ) (x : B) → x ≡ decode h o rows b → decode (λ _. found x) again rows b ≡ decode (λ a. found (h a)) again rows b
  unfolding decode
  decode_known [] b x p = refl
  decode_known (row ∷ rows) b x p =
      known_row x row.1 (eqb b row.0) (decode h o rows b) (decode (λ _. found x) again rows b) (decode (λ a. found (h a)) again rows b) p (λ q. decode_known rows b x q)

abbrev pub table_talk : {A : Type 0} → Failure → List (ℕ × A) → ℕ → Talk A
table_talk f rows b = tells (decode Ok (Err f) rows b)

pub table_through : {A : Type 0} (f : Failure) (rows : List (ℕ × A)) (b : ℕ)
    → through (after_seek f (λ b. answering (table_talk f rows b))) (decode (λ _. came b) again rows b) ≡ done (listed_turn rows b)
unfolding bind tree
table_through f rows b =
    sym (decode_map (through (after_seek f (λ b. answering (table_talk f rows b)))) (λ _. came b) again rows b)
    ∙ decode_map done (λ _. found (answer_of (decode Ok (Err f) rows b))) again rows b
    ∙ ap done (decode_known gives (refuses (number_of f)) rows b (answer_of (decode Ok (Err f) rows b)) (sym (decode_map answer_of Ok (Err f) rows b)))

-- one byte
byte_through : (f : Failure) (b : ℕ) (v : Bool)
    → through (after_seek f (λ b. answering (tells (Ok success)))) (cond v (came b) again) ≡ done (cond v (found (gives success)) again)
unfolding bind tree
byte_through f b true = refl
byte_through f b false = refl

pub this_through : (f : Failure) (good b : ℕ) → through (after_seek f (λ b. answering (tells (Ok success)))) (cond (eqb b good) (came b) again) ≡ done (passed_turn good b)
this_through f good b = byte_through f b (eqb b good)

-- reads of data until this byte
pub answering_byte : (good m : ℕ) (f : Failure) → answering (next (seek (Byte good) m f) (λ _. tells (Ok success))) ≡ repeat (suc m) (refuses (number_of f)) (data_turn (passed_turn good))
unfolding bind
answering_byte good m f = answering_sought (Byte good) m f (λ _. tells (Ok success)) (data_turn (passed_turn good)) (ap (read p60) (fun_ext (λ b. this_through f good b)))

-- ---- an attempt, the command rule

verdicts : (r : DeviceToHostResponse) → turn_answer (talk.verdict r) ≡ settled (gives r)
verdicts KeyDetectionErrorOrInternalBufferOverrun1 = refl
verdicts SelfTestPassed = refl
verdicts ResponseToEcho = refl
verdicts Acknowledge = refl
verdicts SelfTestFailed1 = refl
verdicts SelfTestFailed2 = refl
verdicts ResendCommand = refl
verdicts KeyDetectionErrorOrInternalBufferOverrun2 = refl

-- what follows an attempt's reply, a sending and a receiving
abbrev outcome : Option ℕ → Turn (Answer Success)
outcome r = turn_answer (talk.attempt_told r)

abbrev told_outcome : Option ℕ → Exchange (Turn (Answer Success))
told_outcome r = done (outcome r)

abbrev told_settled : Answer DeviceToHostResponse → Exchange (Turn (Answer Success))
told_settled a = done (settled a)

abbrev then_receives : Answer Success → Exchange (Turn (Answer Success))
then_receives a = bind (on_given (λ _. polling_receive) a) told_settled

abbrev then_replies : ℕ → Option ℕ → Exchange (Turn (Answer Success))
then_replies v r = bind (sent v r) told_outcome

-- the receiving
response_both : (b : ℕ) → through told_outcome (meets Response b) ≡ through told_settled (response_turn b)
unfolding bind
response_both b =
    sym (decode_map (through told_outcome) (λ _. came b) again responses b)
    ∙ decode_map done (λ _. found (outcome (Some b))) again responses b
    ∙ ap done (decode_known (λ r. turn_answer (talk.verdict r)) (found (refuses 4)) responses b (outcome (Some b)) (sym (decode_map turn_answer talk.verdict (Err InputBufferFull) responses b))
    ∙ ap (λ h. decode (λ r. found (h r)) again responses b) (fun_ext verdicts))
    ∙ sym (decode_map done (λ r. found (settled (gives r))) again responses b)
    ∙ decode_map (through told_settled) (λ r. found (gives r)) again responses b

poll_both : (full : Bool) → bind (cond full (second Response) (done again)) (through told_outcome) ≡ bind (cond full (data_turn response_turn) (done again)) (through told_settled)
unfolding bind
poll_both true = ap (read p60) (fun_ext response_both)
poll_both false = refl

received : bind response_awaited told_outcome ≡ bind polling_receive told_settled
unfolding polling_receive poll bind
received =
    wait_through Response further_polls told_outcome (found (refuses 5)) (bind (poll response_turn) (through told_settled)) refl
    (ap (read p64) (fun_ext (λ status. poll_both (bit output_buffer_full status))))
    ∙ sym (repeat_through told_settled 65535 (refuses 5) (found (refuses 5)) (poll response_turn) (bind (poll response_turn) (through told_settled)) refl refl)

-- the sending before it
try_both : (v status : ℕ) (full : Bool)
    → bind (cond full (done again) (done (came status))) (through (then_replies v)) ≡ bind (cond full (done again) (write p60 v (done (found (gives success))))) (through then_receives)
unfolding bind
try_both v status true = refl
try_both v status false = ap (λ x. write p60 v (bind x (λ b. done (found b)))) received

tries_both : (v : ℕ) → bind (turn InputFree) (through (then_replies v)) ≡ bind (send_try v) (through then_receives)
unfolding send_try bind
tries_both v = ap (read p64) (fun_ext (λ status. try_both v status (bit input_buffer_full status)))

asked_attempt : (value : HostToDevice) → bind (asked (Attempt (to_device value))) told_outcome ≡ Rule.attempt value
unfolding Rule.attempt polling_send_receive polling_send and_then bind decode
asked_attempt value =
    bind_assoc (bind (turn InputFree) (further_turns InputFree further_tries)) (sent (to_device value)) told_outcome
    ∙ wait_through InputFree further_tries (then_replies (to_device value)) (found (refuses 4)) (bind (send_try (to_device value)) (through then_receives)) refl (tries_both (to_device value))
    ∙ sym (repeat_through then_receives 255 (refuses 4) (found (refuses 4)) (send_try (to_device value)) (bind (send_try (to_device value)) (through then_receives)) refl refl)
    ∙ sym (bind_assoc (polling_send value) (on_given (λ _. polling_receive)) told_settled)

tree_attempt : (value : HostToDevice) → bind (tree (talk.attempt value)) (λ r. done (turn_answer r)) ≡ Rule.attempt value
unfolding tree talk.attempt bind
tree_attempt value =
    ap (λ y. bind y (λ r. done (turn_answer r))) (bind_assoc (asked (Attempt (to_device value))) (λ r. done (Ok r)) (λ r. on_ok (λ r. tree (tells (talk.attempt_told r))) r))
    ∙ bind_assoc (asked (Attempt (to_device value))) (λ r. bind (done (Ok r)) (λ r. on_ok (λ r. tree (tells (talk.attempt_told r))) r)) (λ r. done (turn_answer r))
    ∙ asked_attempt value

pub answering_command : (value : HostToDevice) → answering (talk.command value) ≡ Rule.command value
unfolding talk.command Rule.command
answering_command value = answering_attempting _ _ (talk.attempt value) (Rule.attempt value) (tree_attempt value)

pub answering_command_by : (port : DevicePort) (value : HostToDevice) → answering (talk.command_by port value) ≡ command_by port value
unfolding talk.command_by Rule.command_to_port2
answering_command_by Port1 value = answering_command value
answering_command_by Port2 value = answering_next _ _ (λ _. talk.command value) (λ _. Rule.command value) (answering_write_command WriteByteToPort2InputBuffer) (λ _. answering_command value)

pub answering_pair : (port : DevicePort) (first second : HostToDevice) → answering (talk.command_pair port first second) ≡ and_then (command_by port first) (λ _. command_by port second)
unfolding talk.command_pair
answering_pair port first second = answering_next _ _ (λ _. talk.command_by port second) (λ _. command_by port second) (answering_command_by port first) (λ _. answering_command_by port second)

pub answering_self_test : (m : ℕ) → answering (talk.self_test m) ≡ self_test_within (suc m)
unfolding talk.self_test self_test_within
answering_self_test m = answering_byte 0xAA m _
