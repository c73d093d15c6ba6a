-- D4 is written once, however many attempts a command takes.
use Prim.Native.Nat.{ℕ}
use mathlib.Core.List.{List, [], ◌∷◌}
use mathlib.Core.Path.{◌≡◌, refl, ap}
use Rattle.exchange.specs.Exchange.{p64, Exchange, write, bind}
use Rattle.exchange.specs.Answer.{Answer, refuses, and_then}
use Rattle.exchange.specs.Sends.{Sends, sends_done, to_controller}
use Rattle.exchange.specs.Trace.{Access, Makes, by_write}
use Rattle.exchange.proofs.Sends.{sends_bind, sends_repeat, sends_data}
use Rattle.ps2_bytes.specs.declared.writable.HostToDevice.{HostToDevice}
use Rattle.ps2_bytes.specs.Writable.{to_device}
use Rattle.ps2_ports.specs.Ports.{write_port}
use Rattle.ps2_polling.proofs.Refuses.{DataByte, sends_send_receive}
use Rattle.ps2_answers.specs.Refusals.{Success}
use Rattle.ps2_command.specs.Command.{attempts, attempt, command, command_to_port2}

-- a command writes its byte, to port 60, and nothing else
pub sends_command : (value : HostToDevice) → Sends (DataByte (to_device value)) (command value)
unfolding command attempt
sends_command value = sends_repeat (sends_bind (sends_send_receive value) (λ a. sends_done)) (refuses 7) attempts

-- to the second port: D4 to port 64, and then the same
pub port2_first : (value : HostToDevice) → command_to_port2 value ≡ write p64 0xD4 (command value)
unfolding command_to_port2 write_port and_then bind
port2_first value = refl

after_write : (v : ℕ) {A : Type 0} {c : ℕ} {t rest : Exchange A} {a : Access} {made : List Access}
    → Sends (DataByte v) t → Makes (write p64 c t) (a ∷ made) rest → to_controller (a ∷ made) ≡ c ∷ []
after_write v {c = c} h (by_write m) = ap (λ (l : List ℕ). c ∷ l) (sends_data {W = λ x. x ≡ v} h m)

-- however far it has come: of its accesses, if there are any, one is a controller command, and it is D4
pub port2_once : (value : HostToDevice) {a : Access} {made : List Access} {rest : Exchange (Answer Success)}
    → Makes (command_to_port2 value) (a ∷ made) rest → to_controller (a ∷ made) ≡ 0xD4 ∷ []
port2_once value m = after_write (to_device value) (sends_command value) (rw (port2_first value) at m)
