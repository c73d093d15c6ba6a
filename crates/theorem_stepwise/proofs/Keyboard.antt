-- Each of the keyboard's talks is its tree.
use Prim.Native.Nat.{ℕ}
use mathlib.Core.Bool.{Bool, true, false, cond}
use lib.Dec.{eqb}
use mathlib.Core.Path.{◌≡◌, refl, sym, ap, ◌∙◌, fun_ext}
use Rattle.std.specs.Prelude.{Option, Some, None, Ok}
use Rattle.bits.specs.Bits.{bit}
use Rattle.exchange.specs.Exchange.{p60, p64, done, read, bind}
use Rattle.exchange.specs.Answer.{refuses, and_then}
use Rattle.exchange.specs.Repeat.{found, again, repeat}
use Rattle.exchange.proofs.Sequence.{bind_assoc}
use Rattle.ps2_bytes.specs.Data.{scancode_sets}
use Rattle.ps2_bytes.specs.declared.command.HostToKeyboardCommand.{HostToKeyboardCommand}
use Rattle.ps2_bytes.specs.declared.data.ScancodeSet.{ScancodeSet}
use Rattle.ps2_bytes.specs.declared.data.ScancodeSet.TheVariants as Set
use Rattle.ps2_bytes.specs.declared.response.KeyboardType.TheVariants.{AncientATKeyboard}
use Rattle.ps2_layouts.specs.declared.leds.LEDState.{LEDState}
use Rattle.ps2_layouts.specs.Status.{output_buffer_full}
use Rattle.ps2_ports.specs.declared.DevicePort.{DevicePort}
use Rattle.ps2_ports.specs.declared.DevicePort.TheVariants.{Port1}
use Rattle.ps2_ports.specs.Ports.{read_status, read_port}
use Rattle.ps2_answers.specs.declared.Failure.TheVariants.{NoResponse, NoSetOrIdentity, UnknownKeyboard, LedsNotSet, KeyboardNotDetected}
use Rattle.ps2_polling.specs.Polling.{poll, data_turn}
use Rattle.ps2_command.specs.Search.{listed_turn}
use Rattle.ps2_keyboard.specs.Keyboard as tree
use Rattle.ps2_keyboard.specs.Keyboard.{command_to_keyboard}
use Rattle.ps2_detect.specs.Detection as D
use Rattle.ps2_detect.specs.Detection.{FirstByte, first_turn, second_bytes}
use Rattle.preferences_application.specs.Application.{set_keyboard_repeat}
use Rattle.keyboard_init.specs.KeyboardInit.{detection, keyboard_init}
use Rattle.questions.specs.declared.Question.TheVariants.{Seek}
use Rattle.questions.specs.declared.Sought.TheVariants as Sought
use Rattle.questions.specs.Asked.{came, meets, asked, further_polls}
use Rattle.talks.specs.Talk.{tells, next, trying, tree as the_tree, answering, answer_of}
use Rattle.talks.specs.Commands.{seek, read_data, self_test}
use Rattle.talks.specs.Keyboard as talk
use Rattle.theorem_stepwise.proofs.Trees.{answering_next, telling_tried, answering_failing, answering_tells, through, wait_through}
use Rattle.theorem_stepwise.proofs.Waits.{after_seek, answering_seek, answering_sought, polls_through, table_talk, table_through, answering_command, answering_pair, answering_self_test}

pub answering_keyboard_command : (c : HostToKeyboardCommand) → answering (talk.keyboard_command c) ≡ tree.keyboard_command c
unfolding command_to_keyboard
answering_keyboard_command c = answering_command _

pub answering_reset_keyboard : answering talk.reset_keyboard ≡ tree.reset_keyboard
unfolding talk.reset_keyboard tree.reset_keyboard
answering_reset_keyboard = answering_next (talk.keyboard_command _) _ (λ _. self_test 262139) _ (answering_keyboard_command _) (λ _. answering_self_test 262139)

pub answering_port_led : (port : DevicePort) (leds : LEDState) → answering (talk.set_port_led port leds) ≡ tree.set_port_led port leds
unfolding talk.set_port_led tree.set_port_led tree.set_led_by
answering_port_led port leds = answering_failing LedsNotSet _ _ (answering_pair port _ _)

pub answering_keyboard_led : (leds : LEDState) → answering (talk.set_port_led Port1 leds) ≡ tree.set_keyboard_led leds
unfolding talk.set_port_led tree.set_keyboard_led tree.set_led_by command_to_keyboard
answering_keyboard_led leds = answering_failing LedsNotSet _ _ (answering_pair Port1 _ _)

pub answering_set_command : (set : ScancodeSet) → answering (talk.command_scancode_set set) ≡ tree.command_scancode_set set
unfolding talk.command_scancode_set tree.command_scancode_set command_to_keyboard
answering_set_command set = answering_pair Port1 _ _

set_search : answering (next (seek Sought.ScancodeSet further_polls NoSetOrIdentity) (table_talk NoSetOrIdentity scancode_sets)) ≡ repeat 65535 (refuses 11) (poll (listed_turn scancode_sets))
unfolding poll bind
set_search =
    answering_sought Sought.ScancodeSet further_polls NoSetOrIdentity (table_talk NoSetOrIdentity scancode_sets) (poll (listed_turn scancode_sets))
    (ap (read p64) (fun_ext (λ status. polls_through (after_seek NoSetOrIdentity (λ b. answering (table_talk NoSetOrIdentity scancode_sets b))) (meets Sought.ScancodeSet) (listed_turn scancode_sets) (table_through NoSetOrIdentity scancode_sets) (bit output_buffer_full status))))

pub answering_get_set : answering talk.get_scancode_set ≡ tree.get_scancode_set
unfolding talk.get_scancode_set tree.get_scancode_set
answering_get_set = answering_next (talk.command_scancode_set Set.Get) _ (λ _. next (seek Sought.ScancodeSet further_polls NoSetOrIdentity) (table_talk NoSetOrIdentity scancode_sets)) _ (answering_set_command Set.Get) (λ _. set_search)

pub answering_set_set : (set : ScancodeSet) → answering (talk.set_scancode_set set) ≡ tree.set_scancode_set set
unfolding talk.set_scancode_set tree.set_scancode_set
answering_set_set set =
    answering_next (talk.command_scancode_set set) _ (λ _. next talk.get_scancode_set _) _ (answering_set_command set)
    (λ _. answering_next talk.get_scancode_set _ _ _ answering_get_set (λ _. answering_tells _))

pub answering_repeat : (byte : ℕ) → answering (talk.set_keyboard_repeat byte) ≡ set_keyboard_repeat byte
unfolding talk.set_keyboard_repeat set_keyboard_repeat command_to_keyboard
answering_repeat byte = answering_pair Port1 _ _

pub answering_keyboard_waits : answering talk.keyboard_waits ≡ tree.keyboard_output_buffer_full
unfolding talk.keyboard_waits tree.keyboard_output_buffer_full read_status and_then bind
answering_keyboard_waits = answering_seek Sought.Status 0 NoResponse (λ status. tells (Ok (bit output_buffer_full status))) ∙ ap (read p64) (fun_ext (λ b. answering_tells (Ok (bit output_buffer_full b))))

pub answering_read_data : answering read_data ≡ read_port p60
unfolding seek read_port bind the_tree
answering_read_data = refl

-- ---- detection

inner : answering talk.inner_search ≡ D.inner_search
unfolding talk.inner_search D.inner_search poll bind
inner =
    answering_sought Sought.SecondOfIdentity further_polls UnknownKeyboard (table_talk UnknownKeyboard second_bytes) (poll (listed_turn second_bytes))
    (ap (read p64) (fun_ext (λ status. polls_through (after_seek UnknownKeyboard (λ b. answering (table_talk UnknownKeyboard second_bytes b))) (meets Sought.SecondOfIdentity) (listed_turn second_bytes) (table_through UnknownKeyboard second_bytes) (bit output_buffer_full status))))

-- the first byte of an identity
abbrev first_of : Option ℕ → FirstByte
first_of None = D.none
first_of (Some b) = cond (eqb b 0x00) D.came00 D.came_ab

first_through : (b : ℕ) (v w : Bool) → eqb b 0x00 ≡ v → eqb b 0xAB ≡ w
    → through (λ r. done (first_of r)) (cond v (came b) (cond w (came b) again)) ≡ done (cond v (found D.came00) (cond w (found D.came_ab) again))
unfolding bind
first_through b true w p q = rw p refl
first_through b false true p q = rw p refl
first_through b false false p q = refl

first_poll : (full : Bool)
    → bind (cond full (read p60 (λ b. done (meets Sought.FirstOfIdentity b))) (done again)) (through (λ r. done (first_of r))) ≡ cond full (data_turn first_turn) (done again)
unfolding bind
first_poll true = ap (read p60) (fun_ext (λ b. first_through b (eqb b 0x00) (eqb b 0xAB) refl refl))
first_poll false = refl

outer : bind (asked (Seek Sought.FirstOfIdentity further_polls)) (λ r. done (first_of r)) ≡ D.outer_search
unfolding D.outer_search poll bind
outer = wait_through Sought.FirstOfIdentity further_polls (λ r. done (first_of r)) D.none (poll first_turn) refl (ap (read p64) (fun_ext (λ status. first_poll (bit output_buffer_full status))))

type_given : (v : Bool) → answering (talk.type_after v) ≡ D.type_after (cond v D.came00 D.came_ab)
type_given true = answering_tells (Ok AncientATKeyboard)
type_given false = inner

type_both : (r : Option ℕ) → after_seek UnknownKeyboard (λ b. answering (talk.type_after (eqb b 0x00))) r ≡ bind (done (first_of r)) D.type_after
unfolding bind
type_both None = refl
type_both (Some b) = type_given (eqb b 0x00)

type : answering talk.type_search ≡ D.type_search
unfolding talk.type_search D.type_search
type =
    answering_seek Sought.FirstOfIdentity further_polls UnknownKeyboard (λ b. talk.type_after (eqb b 0x00))
    ∙ ap (bind (asked (Seek Sought.FirstOfIdentity further_polls))) (fun_ext type_both)
    ∙ sym (bind_assoc (asked (Seek Sought.FirstOfIdentity further_polls)) (λ r. done (first_of r)) D.type_after)
    ∙ ap (λ x. bind x D.type_after) outer

pub answering_detect : answering talk.keyboard_detect ≡ D.keyboard_detect
unfolding talk.keyboard_detect D.keyboard_detect
answering_detect =
    answering_next (talk.keyboard_command _) _ (λ _. next (talk.keyboard_command _) (λ _. next (trying talk.type_search) _)) _ (answering_keyboard_command _)
    (λ _. answering_next (talk.keyboard_command _) _ (λ _. next (trying talk.type_search) _) _ (answering_keyboard_command _)
    (λ _. telling_tried answer_of talk.type_search D.type_search _ _ type
    (λ r. answering_next (talk.keyboard_command _) _ (λ _. tells r) _ (answering_keyboard_command _) (λ _. answering_tells r))))

pub answering_keyboard_init : answering talk.keyboard_init ≡ keyboard_init
unfolding talk.keyboard_init keyboard_init detection
answering_keyboard_init =
    answering_next _ _ (λ _. talk.set_scancode_set Set.Set1) (λ _. tree.set_scancode_set Set.Set1) (answering_failing KeyboardNotDetected talk.keyboard_detect D.keyboard_detect answering_detect) (λ _. answering_set_set Set.Set1)
