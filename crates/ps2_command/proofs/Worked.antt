-- Closed runs of a command, by computation: one for each kind of response.
use mathlib.Core.List.{List, [], ◌∷◌, ◌++◌}
use mathlib.Core.Path.{◌≡◌, refl}
use Prim.Native.Nat.{ℕ}
use Rattle.bits.specs.Bits.{bit, odd}
use Rattle.bits.specs.Table.{decode}
use Rattle.exchange.specs.Exchange.{p64, bind, no_script, yields, lacks, played, play}
use Rattle.exchange.specs.Answer.{gives, refuses, and_then}
use Rattle.exchange.specs.Repeat.{repeat, times}
use Rattle.ps2_bytes.specs.declared.command.HostToKeyboardCommand.TheVariants.{EnableScanning}
use Rattle.ps2_bytes.specs.declared.writable.HostToDevice.{HostToDevice}
use Rattle.ps2_bytes.specs.declared.writable.HostToDevice.TheVariants.{Keyboard}
use Rattle.ps2_bytes.specs.declared.writable.HostToKeyboardCommandOrData.TheVariants.{KeyboardCommand}
use Rattle.ps2_polling.specs.Polling.{send_try, polling_send, poll, polling_receive, polling_send_receive}
use Rattle.ps2_answers.specs.Refusals.{success}
use Rattle.ps2_command.specs.Command.{attempt, command}
use Rattle.ps2_command.proofs.Runs.{room}

abbrev f4 : HostToDevice
f4 = Keyboard (KeyboardCommand EnableScanning)

-- a response at the first poll
abbrev says : ℕ → List ℕ
says b = 0x00 ∷ 0x01 ∷ b ∷ []

-- In order: FA and AA; FC and FD; 00, EE and FF try again, and the fourth attempt is the last; FE four times; a byte that is no response.
pub runs :
    (play (command f4) (says 0xFA) (room 1) ≡ played (yields (gives success)) 3 1 (0x60 ∷ 0xF4 ∷ []))
    × (play (command f4) (says 0xAA) (room 1) ≡ played (yields (gives success)) 3 1 (0x60 ∷ 0xF4 ∷ []))
    × (play (command f4) (says 0xFC) (room 1) ≡ played (yields (refuses 6)) 3 1 (0x60 ∷ 0xF4 ∷ []))
    × (play (command f4) (says 0xFD) (room 1) ≡ played (yields (refuses 6)) 3 1 (0x60 ∷ 0xF4 ∷ []))
    × (play (command f4) (says 0x00 ++ says 0xEE ++ says 0xFF ++ says 0xFA) (room 4)
    ≡ played (yields (gives success)) 12 4 (0x60 ∷ 0xF4 ∷ 0x60 ∷ 0xF4 ∷ 0x60 ∷ 0xF4 ∷ 0x60 ∷ 0xF4 ∷ []))
    × (play (command f4) (times 4 (says 0xFE) ++ says 0xFA) (room 5)
    ≡ played (yields (refuses 7)) 12 4 (0x60 ∷ 0xF4 ∷ 0x60 ∷ 0xF4 ∷ 0x60 ∷ 0xF4 ∷ 0x60 ∷ 0xF4 ∷ 0 ∷ 0 ∷ []))
    × (play (command f4) (says 0x1E) (room 1) ≡ played (lacks (no_script p64)) 3 1 (0x60 ∷ 0xF4 ∷ []))
unfolding play bind and_then repeat command attempt polling_send_receive polling_send send_try polling_receive poll decode bit odd
runs = (refl, refl, refl, refl, refl, refl, refl)
