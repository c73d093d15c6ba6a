-- How many questions the operations ask.
use Prim.Native.Nat.{ℕ, zero, suc, ◌+◌, ◌≤◌, ◌<◌}
use native.Mathlib.Omega.{arith}
use lib.Dec.{eqb}
use mathlib.Core.Bool.{Bool, true, false}
use mathlib.Core.List.{List, [], ◌∷◌}
use mathlib.Core.Path.{◌≡◌, sym, ap, ◌∙◌}
use Rattle.std.specs.Prelude.{length, Option, Result, Ok, Err}
use Rattle.ps2_answers.specs.Refusals.{Success, success}
use Rattle.ps2_answers.specs.declared.ReadPort.{ReadPort}
use Rattle.ps2_answers.specs.declared.Failure.{Failure}
use Rattle.ps2_bytes.specs.declared.command.HostToControllerCommand.{HostToControllerCommand}
use Rattle.ps2_bytes.specs.declared.data.MouseResolution.{MouseResolution}
use Rattle.ps2_bytes.specs.declared.data.MouseSampleRate.{MouseSampleRate}
use Rattle.ps2_bytes.specs.declared.data.ScancodeSet.{ScancodeSet}
use Rattle.ps2_bytes.specs.declared.response.MouseId.{MouseId}
use Rattle.ps2_bytes.specs.declared.response.MouseId.TheVariants.{Zero, Three, Four}
use Rattle.ps2_bytes.specs.declared.writable.HostToDevice.{HostToDevice}
use Rattle.ps2_layouts.specs.declared.configuration.ControllerConfigurationByte.{ControllerConfigurationByte}
use Rattle.ps2_layouts.specs.declared.leds.LEDState.{LEDState}
use Rattle.preferences.specs.declared.Fields.{Fields}
use Rattle.preferences.specs.declared.Preferences.{Preferences}
use Rattle.preferences.specs.declared.Preferences.TheVariants.{Version1, Version2}
use Rattle.preferences.specs.Record.{within_values}
use Rattle.ps2_ports.specs.declared.DevicePort.{DevicePort}
use Rattle.ps2_ports.specs.declared.DevicePort.TheVariants.{Port1, Port2}
use Rattle.ps2_setup.specs.declared.WorkingPorts.{WorkingPorts}
use Rattle.ps2_init.specs.declared.PS2Controller.{PS2Controller}
use Rattle.questions.specs.declared.Question.{Question}
use Rattle.questions.specs.declared.Sought.{Sought}
use Rattle.talks.specs.declared.Stop.TheVariants.{Asks as StopAsks}
use Rattle.talks.specs.Talk.{Talk, tells, asks, next, failing_as, trying, worked, replaced, is_done}
use Rattle.talks.specs.Commands as command
use Rattle.talks.specs.Keyboard as keyboard
use Rattle.talks.specs.Mouse as mouse
use Rattle.talks.specs.Controller as controller
use Rattle.talks.specs.Application as club
use Rattle.sessions.specs.declared.Operation.{Operation}
use Rattle.sessions.specs.declared.Operation.TheVariants.{InitializeController, InitializeKeyboard, ResetKeyboard, CommandKeyboard, SetLamps, SetScancodeSet, GetScancodeSet, DetectKeyboard, SetRepeat, KeyboardWaits, ReadScancode, ResetMouse, StartPackets, StopPackets, GetIdentity, SetIdentity, CommandMouse, SetSamplingRate, SetResolution, MouseWaits, ReadPacket, ApplyPreferences}
use Rattle.sessions.specs.Memory.{reply_in}
use Rattle.sessions.specs.Operations.{talk_of}
use Rattle.sessions.specs.Rounds.{Rounds, over, round, joined, on_done, unless_accepted, attempt_rounds, rounds, past, shown}
use Rattle.sessions.proofs.Ran.{past_over}

-- at most so many questions on every way
pub data Asks {R : Type 0} : ℕ → Rounds R → Type 0 where
  asks_none : {n : ℕ} {r : R} → Asks n (over r)
  asks_one : {n m : ℕ} {q : Question} {k : Option ℕ → Rounds R} → m < n → ((r : Option ℕ) → Asks m (k r)) → Asks n (round q k)

module _ {R : Type 0} where
  weaker : (r : Rounds R) (n m : ℕ) → n ≤ m → Asks n r → Asks m r
  weaker _ n m h asks_none = asks_none
  weaker _ n m h (asks_one {m = k} l f) = asks_one {m = k} (omega arith) f

over_asks : {A : Type 0} (x : Result A Failure) {q : Question} → shown (over x) ≡ Err (StopAsks q) → ⊥
over_asks (Ok a) p = cc
over_asks (Err f) p = cc

pub short : {A : Type 0} (r : Rounds (Result A Failure)) (n : ℕ) (l : List ℕ) {q : Question} → Asks n r → shown (past r l) ≡ Err (StopAsks q) → length l < n
unfolding past
short (over x) n l b p = absurd (over_asks x (ap shown (sym (past_over x l)) ∙ p))
short (round q k) n [] (asks_one l f) p = omega arith
short (round q k) n (w ∷ l) (asks_one {m = m} h f) p =
    let s : length l < m = short (k (reply_in w)) m l (f (reply_in w)) p in
    omega arith

module _ {R S : Type 0} where
  joined_asks : (r : Rounds R) (g : R → Rounds S) (n m k : ℕ) → Asks n r → ((a : R) → Asks m (g a)) → n + m ≤ k → Asks k (joined r g)
  unfolding joined
  joined_asks (over a) g n m k b c h = weaker (g a) m k (omega arith) (c a)
  joined_asks (round q f) g n m k (asks_one {m = p} l e) c h = asks_one {m = p + m} (omega arith) (λ r. joined_asks (f r) g p m (p + m) (e r) c (omega arith))

module _ {A B : Type 0} where
  on_done_asks : (g : A → Talk B) (m : ℕ) → ((a : A) → Asks m (rounds (g a))) → (r : Result A Failure) → Asks m (on_done (λ a. rounds (g a)) r)
  on_done_asks g m c (Ok a) = c a
  on_done_asks g m c (Err f) = asks_none

  next_asks : (t : Talk A) (g : A → Talk B) (n m k : ℕ) → Asks n (rounds t) → ((a : A) → Asks m (rounds (g a))) → n + m ≤ k → Asks k (rounds (next t g))
  unfolding rounds
  next_asks t g n m k b c h = joined_asks (rounds t) (λ r. on_done (λ a. rounds (g a)) r) n m k b (on_done_asks g m c) h

module _ {A : Type 0} where
  tells_asks : (r : Result A Failure) (n : ℕ) → Asks n (rounds (tells r))
  unfolding rounds
  tells_asks r n = asks_none

  failing_asks : (f : Failure) (t : Talk A) (n : ℕ) → Asks n (rounds t) → Asks n (rounds (failing_as f t))
  unfolding rounds
  failing_asks f t n b = joined_asks (rounds t) (λ r. over (replaced f r)) n 0 n b (λ _. asks_none) (omega arith)

  trying_asks : (t : Talk A) (n : ℕ) → Asks n (rounds t) → Asks n (rounds (trying t))
  unfolding rounds
  trying_asks t n b = joined_asks (rounds t) (λ r. over (Ok r)) n 0 n b (λ _. asks_none) (omega arith)

  worked_asks : (t : Talk A) (n : ℕ) → Asks n (rounds t) → Asks n (rounds (worked t))
  unfolding rounds
  worked_asks t n b = joined_asks (rounds t) (λ r. over (Ok (is_done r))) n 0 n b (λ _. asks_none) (omega arith)

abbrev total : ℕ → ℕ → ℕ
total zero m = 0
total (suc n) m = m + total n m

accepted_asks : (rest : Rounds (Result Success Failure)) (m : ℕ) → Asks m rest → (r : Result Bool Failure) → Asks m (unless_accepted rest r)
accepted_asks rest m b (Ok true) = asks_none
accepted_asks rest m b (Ok false) = b
accepted_asks rest m b (Err f) = asks_none

attempts_asks : (n : ℕ) (f : Failure) (r : Rounds (Result Bool Failure)) (m : ℕ) → Asks m r → Asks (total n m) (attempt_rounds n f r)
unfolding attempt_rounds
attempts_asks zero f r m b = asks_none
attempts_asks (suc n) f r m b =
    joined_asks r (unless_accepted (attempt_rounds n f r)) m (total n m) (m + total n m) b (accepted_asks (attempt_rounds n f r) (total n m) (attempts_asks n f r m b)) (omega arith)

one_asks : (q : Question) → Asks 1 (rounds (asks q))
unfolding rounds
one_asks q = asks_one {m = 0} (omega arith) (λ r. asks_none)

-- ---- the operations' parts

seek_asks : (s : Sought) (m : ℕ) (f : Failure) → Asks 1 (rounds (command.seek s m f))
unfolding command.seek
seek_asks s m f = next_asks (asks _) _ 1 0 1 (one_asks _) (λ r. tells_asks _ 0) (omega arith)

write_asks : (p : ReadPort) (v : ℕ) → Asks 1 (rounds (command.write p v))
unfolding command.write
write_asks p v = next_asks (asks _) _ 1 0 1 (one_asks _) (λ r. tells_asks _ 0) (omega arith)

-- one question behind others, and what is told of it
sought_asks : {B : Type 0} (s : Sought) (m : ℕ) (f : Failure) (g : ℕ → Result B Failure) → Asks 1 (rounds (next (command.seek s m f) (λ b. tells (g b))))
sought_asks s m f g = next_asks (command.seek s m f) (λ b. tells (g b)) 1 0 1 (seek_asks s m f) (λ b. tells_asks (g b) 0) (omega arith)

attempt_asks : (v : HostToDevice) → Asks 1 (rounds (command.attempt v))
unfolding command.attempt
attempt_asks v = next_asks (asks _) _ 1 0 1 (one_asks _) (λ r. tells_asks _ 0) (omega arith)

command_asks : (v : HostToDevice) → Asks 12 (rounds (command.command v))
unfolding command.command rounds
command_asks v = weaker (rounds (command.command v)) 4 12 (omega arith) (attempts_asks 4 _ (rounds (command.attempt v)) 1 (attempt_asks v))

by_asks : (port : DevicePort) (v : HostToDevice) → Asks 13 (rounds (command.command_by port v))
unfolding command.command_by
by_asks Port1 v = weaker (rounds (command.command v)) 12 13 (omega arith) (command_asks v)
by_asks Port2 v = next_asks (command.write _ _) (λ _. command.command v) 1 12 13 (write_asks _ _) (λ _. command_asks v) (omega arith)

pair_asks : (port : DevicePort) (v w : HostToDevice) → Asks 26 (rounds (command.command_pair port v w))
unfolding command.command_pair
pair_asks port v w = next_asks (command.command_by port v) (λ _. command.command_by port w) 13 13 26 (by_asks port v) (λ _. by_asks port w) (omega arith)

test_asks : (m : ℕ) → Asks 1 (rounds (command.self_test m))
unfolding command.self_test
test_asks m = sought_asks _ m _ (λ _. Ok success)

-- ---- the keyboard's

reset_keyboard_asks : Asks 13 (rounds keyboard.reset_keyboard)
unfolding keyboard.reset_keyboard
reset_keyboard_asks = next_asks (keyboard.keyboard_command _) (λ _. command.self_test _) 12 1 13 (command_asks _) (λ _. test_asks _) (omega arith)

led_asks : (port : DevicePort) (leds : LEDState) → Asks 26 (rounds (keyboard.set_port_led port leds))
unfolding keyboard.set_port_led
led_asks port leds = failing_asks _ (command.command_pair port _ _) 26 (pair_asks port _ _)

set_command_asks : (set : ScancodeSet) → Asks 26 (rounds (keyboard.command_scancode_set set))
unfolding keyboard.command_scancode_set
set_command_asks set = pair_asks _ _ _

get_set_asks : Asks 27 (rounds keyboard.get_scancode_set)
unfolding keyboard.get_scancode_set
get_set_asks = next_asks (keyboard.command_scancode_set _) _ 26 1 27 (set_command_asks _) (λ _. sought_asks _ _ _ keyboard.set_given) (omega arith)

set_set_asks : (set : ScancodeSet) → Asks 53 (rounds (keyboard.set_scancode_set set))
unfolding keyboard.set_scancode_set
set_set_asks set =
    next_asks (keyboard.command_scancode_set set) _ 26 27 53 (set_command_asks set) (λ _. next_asks keyboard.get_scancode_set _ 27 0 27 get_set_asks (λ _. tells_asks _ 0) (omega arith)) (omega arith)

repeat_asks : (b : ℕ) → Asks 26 (rounds (keyboard.set_keyboard_repeat b))
unfolding keyboard.set_keyboard_repeat
repeat_asks b = pair_asks _ _ _

waits_asks : Asks 1 (rounds keyboard.keyboard_waits)
unfolding keyboard.keyboard_waits
waits_asks = sought_asks _ _ _ _

type_after_asks : (v : Bool) → Asks 1 (rounds (keyboard.type_after v))
unfolding keyboard.inner_search
type_after_asks true = tells_asks _ 1
type_after_asks false = sought_asks _ _ _ keyboard.second_given

type_asks : Asks 2 (rounds keyboard.type_search)
unfolding keyboard.type_search
type_asks = next_asks (command.seek _ _ _) _ 1 1 2 (seek_asks _ _ _) (λ b. type_after_asks (eqb b 0)) (omega arith)

detect_asks : Asks 38 (rounds keyboard.keyboard_detect)
unfolding keyboard.keyboard_detect
detect_asks =
    next_asks (keyboard.keyboard_command _) _ 12 26 38 (command_asks _)
    (λ _. next_asks (keyboard.keyboard_command _) _ 12 14 26 (command_asks _)
    (λ _. next_asks (trying keyboard.type_search) _ 2 12 14 (trying_asks keyboard.type_search 2 type_asks)
    (λ type. next_asks (keyboard.keyboard_command _) (λ _. tells type) 12 0 12 (command_asks _) (λ _. tells_asks type 0) (omega arith)) (omega arith)) (omega arith)) (omega arith)

keyboard_init_asks : Asks 91 (rounds keyboard.keyboard_init)
unfolding keyboard.keyboard_init
keyboard_init_asks = next_asks (failing_as _ keyboard.keyboard_detect) (λ _. keyboard.set_scancode_set _) 38 53 91 (failing_asks _ keyboard.keyboard_detect 38 detect_asks) (λ _. set_set_asks _) (omega arith)

-- ---- the mouse's

reset_mouse_asks : Asks 15 (rounds mouse.reset_mouse)
unfolding mouse.reset_mouse
reset_mouse_asks =
    next_asks (mouse.mouse_command _) _ 13 2 15 (by_asks _ _)
    (λ _. next_asks (command.self_test _) (λ _. next command.read_data (λ _. tells (Ok success))) 1 1 2 (test_asks _) (λ _. sought_asks _ _ _ (λ _. Ok success)) (omega arith)) (omega arith)

rate_asks : (rate : MouseSampleRate) → Asks 26 (rounds (mouse.set_sampling_rate rate))
unfolding mouse.set_sampling_rate mouse.setting
rate_asks rate = failing_asks _ (command.command_pair _ _ _) 26 (pair_asks _ _ _)

resolution_asks : (r : MouseResolution) → Asks 26 (rounds (mouse.set_resolution r))
unfolding mouse.set_resolution mouse.setting
resolution_asks r = failing_asks _ (command.command_pair _ _ _) 26 (pair_asks _ _ _)

stop_asks : Asks 13 (rounds mouse.disable_packet_streaming)
unfolding mouse.disable_packet_streaming
stop_asks = failing_asks _ (mouse.mouse_command _) 13 (by_asks _ _)

start_asks : Asks 13 (rounds mouse.enable_packet_streaming)
unfolding mouse.enable_packet_streaming
start_asks = failing_asks _ (mouse.mouse_command _) 13 (by_asks _ _)

id_asks : Asks 14 (rounds mouse.mouse_id)
unfolding mouse.mouse_id
id_asks = next_asks (mouse.mouse_command _) _ 13 1 14 (by_asks _ _) (λ _. sought_asks _ _ _ mouse.identity_given) (omega arith)

mouse_waits_asks : Asks 1 (rounds mouse.mouse_waits)
unfolding mouse.mouse_waits
mouse_waits_asks = sought_asks _ _ _ _

after_three_asks : (id : MouseId) (a b c : ℕ) → Asks 1 (rounds (mouse.after_three id a b c))
after_three_asks Zero a b c = tells_asks _ 1
after_three_asks Three a b c = sought_asks _ _ _ _
after_three_asks Four a b c = sought_asks _ _ _ _

packet_asks : (id : MouseId) → Asks 4 (rounds (mouse.read_packet id))
unfolding mouse.read_packet
packet_asks id =
    next_asks command.read_data _ 1 3 4 (seek_asks _ _ _)
    (λ a. next_asks command.read_data _ 1 2 3 (seek_asks _ _ _)
    (λ b. next_asks command.read_data (mouse.after_three id a b) 1 1 2 (seek_asks _ _ _) (after_three_asks id a b) (omega arith)) (omega arith)) (omega arith)

rates_asks : (a b c : MouseSampleRate) → Asks 78 (rounds (mouse.set_rates a b c))
unfolding mouse.set_rates
rates_asks a b c =
    next_asks (mouse.set_sampling_rate a) _ 26 52 78 (rate_asks a)
    (λ _. next_asks (mouse.set_sampling_rate b) _ 26 26 52 (rate_asks b)
    (λ _. next_asks (mouse.set_sampling_rate c) _ 26 0 26 (rate_asks c) (λ _. tells_asks _ 0) (omega arith)) (omega arith)) (omega arith)

identity_asks : (a b c : MouseSampleRate) → Asks 92 (rounds (mouse.identity_after a b c))
unfolding mouse.identity_after
identity_asks a b c = next_asks (mouse.set_rates a b c) (λ _. trying mouse.mouse_id) 78 14 92 (rates_asks a b c) (λ _. trying_asks mouse.mouse_id 14 id_asks) (omega arith)

after_first_asks : (old : MouseId) (r : Result MouseId Failure) → Asks 92 (rounds (mouse.after_first old r))
unfolding mouse.button_identity
after_first_asks old (Err f) = tells_asks _ 92
after_first_asks old (Ok Zero) = tells_asks _ 92
after_first_asks old (Ok Three) = next_asks (mouse.identity_after _ _ _) _ 92 0 92 (identity_asks _ _ _) (λ _. tells_asks _ 0) (omega arith)
after_first_asks old (Ok Four) = tells_asks _ 92

new_identity_asks : (old : MouseId) → Asks 197 (rounds (mouse.new_identity old))
unfolding mouse.new_identity
new_identity_asks old =
    next_asks mouse.disable_packet_streaming _ 13 184 197 stop_asks
    (λ _. next_asks (mouse.identity_after _ _ _) (mouse.after_first old) 92 92 184 (identity_asks _ _ _) (after_first_asks old) (omega arith)) (omega arith)

start_packets_asks : (old : MouseId) (r : Result MouseId Failure) → Asks 13 (rounds (mouse.start_packets old r))
start_packets_asks old (Ok id) = next_asks (trying mouse.enable_packet_streaming) _ 13 0 13 (trying_asks mouse.enable_packet_streaming 13 start_asks) (λ _. tells_asks _ 0) (omega arith)
start_packets_asks old (Err f) = tells_asks _ 13

set_id_asks : (old : MouseId) → Asks 210 (rounds (mouse.set_mouse_id old))
unfolding mouse.set_mouse_id mouse.new_identity_tried
set_id_asks old = next_asks (trying (mouse.new_identity old)) (mouse.start_packets old) 197 13 210 (trying_asks (mouse.new_identity old) 197 (new_identity_asks old)) (start_packets_asks old) (omega arith)

-- ---- the controller's

read_config_asks : Asks 2 (rounds controller.read_config)
unfolding controller.read_config
read_config_asks = next_asks (command.write _ _) _ 1 1 2 (write_asks _ _) (λ _. sought_asks _ _ _ _) (omega arith)

write_config_asks : (c : ControllerConfigurationByte) → Asks 2 (rounds (controller.write_config c))
unfolding controller.write_config
write_config_asks c = next_asks (command.write _ _) _ 1 1 2 (write_asks _ _) (λ _. write_asks _ _) (omega arith)

disable_asks : Asks 5 (rounds controller.disable_devices)
unfolding controller.disable_devices
disable_asks =
    next_asks (command.write _ _) _ 1 4 5 (write_asks _ _)
    (λ _. next_asks (command.write _ _) _ 1 3 4 (write_asks _ _) (λ _. next_asks command.read_data _ 1 2 3 (seek_asks _ _ _) (λ _. read_config_asks) (omega arith)) (omega arith)) (omega arith)

test_controller_asks : Asks 2 (rounds controller.test_controller)
unfolding controller.test_controller
test_controller_asks = next_asks (command.write _ _) _ 1 1 2 (write_asks _ _) (λ _. sought_asks _ _ _ (λ _. Ok success)) (omega arith)

test_with_asks : (c : ControllerConfigurationByte) → Asks 6 (rounds (controller.test_with c))
unfolding controller.test_with
test_with_asks c =
    next_asks (controller.write_config c) _ 2 4 6 (write_config_asks c) (λ _. next_asks controller.test_controller _ 2 2 4 test_controller_asks (λ _. write_config_asks c) (omega arith)) (omega arith)

test_port_asks : (c : HostToControllerCommand) → Asks 2 (rounds (controller.port_works c))
unfolding controller.port_works controller.test_port
test_port_asks c = worked_asks (controller.test_port c) 2 (next_asks (command.write_command c) _ 1 1 2 (write_asks _ _) (λ _. sought_asks _ _ _ (λ _. Ok success)) (omega arith))

second_asks : (v : Bool) → Asks 2 (rounds (controller.second_works v))
second_asks true = test_port_asks _
second_asks false = tells_asks _ 2

test_ports_asks : (v : Bool) → Asks 4 (rounds (controller.test_ports v))
unfolding controller.test_ports
test_ports_asks v =
    next_asks (controller.port_works _) _ 2 2 4 (test_port_asks _) (λ first. next_asks (controller.second_works v) _ 2 0 2 (second_asks v) (λ _. tells_asks _ 0) (omega arith)) (omega arith)

enable_port_asks : (port : DevicePort) (v : Bool) (c : ControllerConfigurationByte) → Asks 1 (rounds (controller.enable_port port v c))
enable_port_asks port true c = next_asks (command.write _ _) _ 1 0 1 (write_asks _ _) (λ _. tells_asks _ 0) (omega arith)
enable_port_asks port false c = tells_asks _ 1

enable_ports_asks : (w : WorkingPorts) (c : ControllerConfigurationByte) → Asks 4 (rounds (controller.enable_ports w c))
unfolding controller.enable_ports
enable_ports_asks w c =
    next_asks (controller.enable_port Port1 w.port_1_works c) _ 1 3 4 (enable_port_asks Port1 w.port_1_works c)
    (λ c. next_asks (controller.enable_port Port2 w.port_2_works c) _ 1 2 3 (enable_port_asks Port2 w.port_2_works c) (λ c. write_config_asks c) (omega arith)) (omega arith)

resets_asks : Asks 30 (rounds controller.reset_devices)
unfolding controller.reset_devices controller.keyboard_attached controller.mouse_attached
resets_asks =
    next_asks (worked keyboard.reset_keyboard) _ 13 17 30 (worked_asks keyboard.reset_keyboard 13 reset_keyboard_asks)
    (λ k. next_asks (worked mouse.reset_mouse) _ 15 2 17 (worked_asks mouse.reset_mouse 15 reset_mouse_asks)
    (λ m. next_asks controller.read_config _ 2 0 2 read_config_asks (λ _. tells_asks _ 0) (omega arith)) (omega arith)) (omega arith)

set_up_asks : Asks 49 (rounds controller.set_up)
unfolding controller.set_up
set_up_asks =
    next_asks controller.disable_devices _ 5 44 49 disable_asks
    (λ c. next_asks (controller.test_with _) _ 6 38 44 (test_with_asks _)
    (λ _. next_asks (controller.test_ports _) _ 4 34 38 (test_ports_asks _)
    (λ w. next_asks (controller.enable_ports w _) _ 4 30 34 (enable_ports_asks w _) (λ _. resets_asks) (omega arith)) (omega arith)) (omega arith)) (omega arith)

initialize_asks : (v : Bool) (passed : PS2Controller) → Asks 49 (rounds (controller.initialize_if v passed))
initialize_asks true passed = tells_asks _ 49
initialize_asks false passed = next_asks (trying controller.set_up) _ 49 0 49 (trying_asks controller.set_up 49 set_up_asks) (λ _. tells_asks _ 0) (omega arith)

-- ---- preferences

four_asks : (four : Fields) → Asks 131 (rounds (club.apply_four four))
unfolding club.apply_four
four_asks four =
    next_asks (keyboard.set_scancode_set _) _ 53 78 131 (set_set_asks _)
    (λ _. next_asks (mouse.set_sampling_rate _) _ 26 52 78 (rate_asks _)
    (λ _. next_asks (mouse.set_resolution _) (λ _. keyboard.set_port_led Port1 _) 26 26 52 (resolution_asks _) (λ _. led_asks Port1 _) (omega arith)) (omega arith)) (omega arith)

within_asks : (p : Preferences) → Asks 157 (rounds (club.apply_within p))
within_asks (Version1 four) = weaker (rounds (club.apply_four four)) 131 157 (omega arith) (four_asks four)
within_asks (Version2 four again) = next_asks (club.apply_four four) (λ _. keyboard.set_keyboard_repeat again) 131 26 157 (four_asks four) (λ _. repeat_asks again) (omega arith)

apply_asks : (v : Bool) (p : Preferences) → Asks 157 (rounds (club.apply_if v p))
apply_asks true p = within_asks p
apply_asks false p = tells_asks _ 157

-- ---- all of them

-- an operation, and what is handed back
told_asks : {A : Type 0} (t : Talk A) {B : Type 0} (w : A → Result B Failure) (n : ℕ) → n ≤ 224 → Asks n (rounds t) → Asks 224 (rounds (next t (λ a. tells (w a))))
told_asks t w n h b = next_asks t (λ a. tells (w a)) n 0 224 b (λ a. tells_asks (w a) 0) (omega arith)

pub most_asked : (o : Operation) → Asks 224 (rounds (talk_of o))
unfolding talk_of controller.initialize club.apply_preferences
most_asked (InitializeController passed) = told_asks (controller.initialize_if passed.initialized passed) _ 49 (omega arith) (initialize_asks passed.initialized passed)
most_asked InitializeKeyboard = told_asks keyboard.keyboard_init _ 91 (omega arith) keyboard_init_asks
most_asked ResetKeyboard = told_asks keyboard.reset_keyboard _ 13 (omega arith) reset_keyboard_asks
most_asked (CommandKeyboard c) = told_asks (keyboard.keyboard_command c) _ 12 (omega arith) (command_asks _)
most_asked (SetLamps leds) = told_asks (keyboard.set_port_led Port1 leds) _ 26 (omega arith) (led_asks Port1 leds)
most_asked (SetScancodeSet set) = told_asks (keyboard.set_scancode_set set) _ 53 (omega arith) (set_set_asks set)
most_asked GetScancodeSet = told_asks keyboard.get_scancode_set _ 27 (omega arith) get_set_asks
most_asked DetectKeyboard = told_asks keyboard.keyboard_detect _ 38 (omega arith) detect_asks
most_asked (SetRepeat b) = told_asks (keyboard.set_keyboard_repeat b) _ 26 (omega arith) (repeat_asks b)
most_asked KeyboardWaits = told_asks keyboard.keyboard_waits _ 1 (omega arith) waits_asks
most_asked ReadScancode = told_asks command.read_data _ 1 (omega arith) (seek_asks _ _ _)
most_asked ResetMouse = told_asks mouse.reset_mouse _ 15 (omega arith) reset_mouse_asks
most_asked StartPackets = told_asks mouse.enable_packet_streaming _ 13 (omega arith) start_asks
most_asked StopPackets = told_asks mouse.disable_packet_streaming _ 13 (omega arith) stop_asks
most_asked GetIdentity = told_asks mouse.mouse_id _ 14 (omega arith) id_asks
most_asked (SetIdentity old) = told_asks (mouse.set_mouse_id old) _ 210 (omega arith) (set_id_asks old)
most_asked (CommandMouse c) = told_asks (mouse.mouse_command c) _ 13 (omega arith) (by_asks _ _)
most_asked (SetSamplingRate rate) = told_asks (mouse.set_sampling_rate rate) _ 26 (omega arith) (rate_asks rate)
most_asked (SetResolution r) = told_asks (mouse.set_resolution r) _ 26 (omega arith) (resolution_asks r)
most_asked MouseWaits = told_asks mouse.mouse_waits _ 1 (omega arith) mouse_waits_asks
most_asked (ReadPacket id) = told_asks (mouse.read_packet id) _ 4 (omega arith) (packet_asks id)
most_asked (ApplyPreferences p) = told_asks (club.apply_if (within_values p) p) _ 157 (omega arith) (apply_asks (within_values p) p)
