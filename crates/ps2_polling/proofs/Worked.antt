-- Closed examples of the polling: what is read, written and answered on given scripts and logs.
use mathlib.Core.List.{[], ◌∷◌, ◌++◌}
use mathlib.Core.Path.{◌≡◌, refl}
use lib.ListN.{replicate}
use Rattle.bits.specs.Bits.{bit, odd}
use Rattle.bits.specs.Table.{decode}
use Rattle.exchange.specs.Exchange.{p60, p64, bind, no_script, no_log, yields, lacks, played, play}
use Rattle.exchange.specs.Answer.{gives, and_then}
use Rattle.exchange.specs.Keeping.{kept, keeping}
use Rattle.exchange.specs.Repeat.{repeat, times}
use Rattle.ps2_bytes.specs.declared.command.HostToControllerCommand.TheVariants.{TestPort2}
use Rattle.ps2_bytes.specs.declared.command.HostToKeyboardCommand.TheVariants.{IdentifyKeyboard}
use Rattle.ps2_bytes.specs.declared.response.DeviceToHostResponse.TheVariants.{Acknowledge}
use Rattle.ps2_bytes.specs.declared.writable.HostToDevice.{HostToDevice}
use Rattle.ps2_bytes.specs.declared.writable.HostToDevice.TheVariants.{Keyboard}
use Rattle.ps2_bytes.specs.declared.writable.HostToKeyboardCommandOrData.TheVariants.{KeyboardCommand}
use Rattle.ps2_answers.specs.Refusals.{success}
use Rattle.ps2_kept.specs.Kept.{keeping_thrown}
use Rattle.ps2_ports.specs.Ports.{write_port}
use Rattle.ps2_polling.specs.Polling.{send_try, polling_send, poll, polling_receive, polling_send_receive, controller_test_result, test_controller, port_test_result, test_port}

abbrev identify : HostToDevice
identify = Keyboard (KeyboardCommand IdentifyKeyboard)

-- F2 on 00 01 FA: written at the first status, acknowledged at the first poll
pub acknowledged : play (polling_send_receive identify) (0x00 ∷ 0x01 ∷ 0xFA ∷ []) (0 ∷ 0 ∷ 7 ∷ []) ≡ played (yields (gives Acknowledge)) 3 1 (0x60 ∷ 0xF2 ∷ 7 ∷ [])
unfolding polling_send_receive polling_send polling_receive send_try poll and_then repeat bind play decode bit odd
acknowledged = refl

-- a busy status first, and 1C, no response, thrown away before FA; with a log of one byte 3, and the byte stays
pub acknowledged_late : play (polling_send_receive identify) (0x02 ∷ 0x00 ∷ 0x01 ∷ 0x1C ∷ 0x00 ∷ 0x01 ∷ 0xFA ∷ []) (0 ∷ 0 ∷ []) ≡ played (yields (gives Acknowledge)) 7 1 (0x60 ∷ 0xF2 ∷ [])
unfolding polling_send_receive polling_send polling_receive send_try poll and_then repeat bind play decode bit odd
acknowledged_late = refl

pub no_room : play (polling_send_receive identify) (0x00 ∷ 0x01 ∷ 0xFA ∷ []) (7 ∷ []) ≡ played (lacks no_log) 1 0 (7 ∷ [])
unfolding polling_send_receive polling_send polling_receive send_try poll and_then repeat bind play decode bit odd
no_room = refl

-- the controller's test reads data alone; the port's test polls, and 01 is not passed
pub tested : play test_controller (0xFC ∷ 0x55 ∷ []) (0 ∷ 0 ∷ []) ≡ played (yields (gives success)) 2 1 (0x64 ∷ 0xAA ∷ [])
unfolding test_controller controller_test_result write_port and_then repeat bind play
tested = refl

pub port_tested : play (test_port TestPort2) (0x01 ∷ 0x01 ∷ 0x01 ∷ 0x00 ∷ []) (0 ∷ 0 ∷ []) ≡ played (yields (gives success)) 4 1 (0x64 ∷ 0xA9 ∷ [])
unfolding test_port port_test_result poll write_port and_then repeat bind play bit odd
port_tested = refl

pub cut_short : play (test_port TestPort2) (0x01 ∷ 0x01 ∷ 0x01 ∷ []) (0 ∷ 0 ∷ []) ≡ played (lacks (no_script p60)) 3 1 (0x64 ∷ 0xA9 ∷ [])
unfolding test_port port_test_result poll write_port and_then repeat bind play bit odd
cut_short = refl

-- ---- the bytes that were thrown away

-- 1C and 9C come before FA: both are kept, and there is no other
pub kept_two : play (keeping_thrown polling_receive) (0x01 ∷ 0x1C ∷ 0x00 ∷ 0x01 ∷ 0x9C ∷ 0x01 ∷ 0xFA ∷ []) []
    ≡ played (yields (kept (gives Acknowledge) (record { bytes = 0x1C ∷ 0x9C ∷ replicate 14 0; count = 2; others = 0 }))) 7 0 []
unfolding keeping_thrown keeping polling_receive poll repeat bind play decode bit odd
kept_two = refl

-- 18 come: 16 are kept, 2 counted
pub kept_eighteen : play (keeping_thrown polling_receive) (times 18 (0x01 ∷ 0x1C ∷ []) ++ (0x01 ∷ 0xFA ∷ [])) []
    ≡ played (yields (kept (gives Acknowledge) (record { bytes = replicate 16 0x1C; count = 16; others = 2 }))) 38 0 []
unfolding keeping_thrown keeping polling_receive poll repeat bind play decode bit odd
kept_eighteen = refl

-- a script that is used up hands back nothing
pub kept_none : play (keeping_thrown polling_receive) (0x01 ∷ 0x1C ∷ []) [] ≡ played (lacks (no_script p64)) 2 0 []
unfolding keeping_thrown keeping polling_receive poll repeat bind play decode bit odd
kept_none = refl
