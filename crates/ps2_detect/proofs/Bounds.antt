-- The most reads and writes of a detection, and a script that takes them.
use native.Mathlib.Omega.{arith}
use Rattle.bits.specs.Table.{decode}
use Rattle.exchange.specs.Exchange.{done}
use Rattle.exchange.specs.Answer.{gives, refuses}
use Rattle.exchange.specs.Attains.{Attains, attains_done, Most}
use Rattle.exchange.specs.Bounds.{Within, within_done}
use Rattle.exchange.proofs.Attains.{attains_bind, attains_last}
use Rattle.exchange.proofs.Bounds.{within_bind, within_repeat}
use Rattle.exchange.proofs.Then.{within_then, attains_then}
use Rattle.ps2_bytes.specs.declared.command.HostToKeyboardCommand.TheVariants as Command
use Rattle.ps2_bytes.specs.declared.response.KeyboardType.TheVariants.{MF2Keyboard}
use Rattle.ps2_bytes.specs.declared.writable.HostToKeyboardCommandOrData.TheVariants as Byte
use Rattle.ps2_polling.specs.Polling.{poll_limit}
use Rattle.ps2_polling.proofs.Bounds.{within_poll}
use Rattle.ps2_polling.proofs.Attained.{attains_poll}
use Rattle.ps2_command.specs.Search.{listed_turn}
use Rattle.ps2_keyboard.proofs.Bounds.{within_keyboard, attains_keyboard}
use Rattle.ps2_detect.specs.Detection.{FirstByte, none, came00, came_ab, first_turn, outer_search, second_bytes, inner_search, type_after, type_search, keyboard_detect}

within_type_after : (first : FirstByte) → Within 131070 0 (type_after first)
unfolding inner_search
within_type_after none = within_done
within_type_after came00 = within_done
within_type_after came_ab = within_repeat (within_poll (listed_turn second_bytes)) (refuses 12) poll_limit

within_type_search : Within 262140 0 type_search
unfolding type_search outer_search
within_type_search = within_bind (within_repeat (within_poll first_turn) none poll_limit) within_type_after

-- AB with the last poll of the outer search, and 83 with the last of the inner one
attains_type_search : Attains (gives MF2Keyboard) 262140 0 type_search
unfolding type_search outer_search inner_search decode
attains_type_search =
    attains_bind (λ first. type_after first)
    (attains_last none (attains_poll first_turn 1 (omega arith)) 65534 (attains_poll first_turn 0xAB (omega arith)))
    (attains_last (refuses 12) (attains_poll (listed_turn second_bytes) 1 (omega arith)) 65534 (attains_poll (listed_turn second_bytes) 0x83 (omega arith)))

pub attains_keyboard_detect : Attains (gives MF2Keyboard) 1838040 12 keyboard_detect
unfolding keyboard_detect
attains_keyboard_detect =
    attains_then _ (attains_keyboard (Byte.KeyboardCommand Command.DisableScanning))
    (attains_then _ (attains_keyboard (Byte.KeyboardCommand Command.IdentifyKeyboard))
    (attains_bind _ attains_type_search
    (attains_then (λ _. done (gives MF2Keyboard)) (attains_keyboard (Byte.KeyboardCommand Command.EnableScanning)) attains_done)))

pub most_keyboard_detect : Most 1838040 12 keyboard_detect
unfolding keyboard_detect
most_keyboard_detect =
    record {
      within =
          within_then (within_keyboard (Byte.KeyboardCommand Command.DisableScanning))
          (λ _. within_then (within_keyboard (Byte.KeyboardCommand Command.IdentifyKeyboard))
          (λ _. within_bind within_type_search
          (λ _. within_then (within_keyboard (Byte.KeyboardCommand Command.EnableScanning)) (λ _. within_done {r = 0} {w = 0}))));
      yielded = gives MF2Keyboard;
      attains = attains_keyboard_detect;
    }
