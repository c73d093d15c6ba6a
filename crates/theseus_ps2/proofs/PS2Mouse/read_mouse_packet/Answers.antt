-- `read_mouse_packet` meets its contract: three bytes, and a fourth where the identity is 3 or 4.
use mathlib.Core.Path.{◌≡◌, sym, ◌∙◌}
use Rattle.std.proofs.Common.{rules}
use Rattle.exchange.specs.Exchange.{p60, done, read}
use Rattle.exchange.specs.Answer.{gives}
use Rattle.ps2_ports.specs.Ports.{read_data}
use Rattle.ps2_packet.specs.declared.MousePacket.TheVariants as Packet
use Rattle.ps2_packet.specs.Packet.{generic, packet3, packet4}
use Rattle.ps2_packet_reading.specs.Reading.{read_mouse_packet}
use Rattle.theseus_ps2.specs.Hardware.{ran, run}
use Rattle.theseus_ps2.specs.Controller.{on_controller}
use Rattle.theseus_ps2.proofs.Run.{run_done, data_then}
use Rattle.theseus_ps2.proofs.Packet.{three_read}
use Rattle.theseus_ps2.proofs.PS2Mouse.read_mouse_packet.Goals as goal

pub returns-in-Zero-clause-ran : goal.returns-in-Zero-clause-ran
unfolding read_mouse_packet
returns-in-Zero-clause-ran g c =
    let d = on_controller g.H.Hardware.device in
    let e1 : ran (gives c.read_data.result) c.read_data.new.arg1.0.now ≡ run d read_data c.args.self.now.controller.now = search rules in
    let e2 : ran (gives c.read_data-in-Zero.result) c.read_data-in-Zero.new.arg1.0.now ≡ run d read_data c.read_data.new.arg1.0.now = search rules in
    let e3 : ran (gives c.read_data-in-Zero-2.result) c.read_data-in-Zero-2.new.arg1.0.now ≡ run d read_data c.read_data-in-Zero.new.arg1.0.now = search rules in
    rw (c.in-Zero.is, c.from_bytes.ensures)
    (run_done d _ _ ∙ sym (three_read d (λ b1 b2 b3. done (gives (Packet.Zero (generic b1 b2 b3)))) _ _ _ _ _ _ _ e1 e2 e3))

pub returns-in-Three-clause-ran : goal.returns-in-Three-clause-ran
unfolding read_mouse_packet
returns-in-Three-clause-ran g c =
    let d = on_controller g.H.Hardware.device in
    let e1 : ran (gives c.read_data-in-Three.result) c.read_data-in-Three.new.arg1.0.now ≡ run d read_data c.args.self.now.controller.now = search rules in
    let e2 : ran (gives c.read_data-in-Three-2.result) c.read_data-in-Three-2.new.arg1.0.now ≡ run d read_data c.read_data-in-Three.new.arg1.0.now = search rules in
    let e3 : ran (gives c.read_data-in-Three-3.result) c.read_data-in-Three-3.new.arg1.0.now ≡ run d read_data c.read_data-in-Three-2.new.arg1.0.now = search rules in
    let e4 : ran (gives c.read_data-in-Three-4.result) c.read_data-in-Three-4.new.arg1.0.now ≡ run d read_data c.read_data-in-Three-3.new.arg1.0.now = search rules in
    rw (c.in-Three.is, c.from_bytes-in-Three.ensures)
    (run_done d _ _
    ∙ sym (three_read d (λ b1 b2 b3. read p60 (λ b4. done (gives (Packet.Three (packet3 b1 b2 b3 b4))))) _ _ _ _ _ _ _ e1 e2 e3
    ∙ data_then d (λ b4. done (gives (Packet.Three (packet3 c.read_data-in-Three.result c.read_data-in-Three-2.result c.read_data-in-Three-3.result b4)))) _ _ _ e4))

pub returns-in-Four-clause-ran : goal.returns-in-Four-clause-ran
unfolding read_mouse_packet
returns-in-Four-clause-ran g c =
    let d = on_controller g.H.Hardware.device in
    let e1 : ran (gives c.read_data-in-Four.result) c.read_data-in-Four.new.arg1.0.now ≡ run d read_data c.args.self.now.controller.now = search rules in
    let e2 : ran (gives c.read_data-in-Four-2.result) c.read_data-in-Four-2.new.arg1.0.now ≡ run d read_data c.read_data-in-Four.new.arg1.0.now = search rules in
    let e3 : ran (gives c.read_data-in-Four-3.result) c.read_data-in-Four-3.new.arg1.0.now ≡ run d read_data c.read_data-in-Four-2.new.arg1.0.now = search rules in
    let e4 : ran (gives c.read_data-in-Four-4.result) c.read_data-in-Four-4.new.arg1.0.now ≡ run d read_data c.read_data-in-Four-3.new.arg1.0.now = search rules in
    rw (c.in-Four.is, c.from_bytes-in-Four.ensures)
    (run_done d _ _
    ∙ sym (three_read d (λ b1 b2 b3. read p60 (λ b4. done (gives (Packet.Four (packet4 b1 b2 b3 b4))))) _ _ _ _ _ _ _ e1 e2 e3
    ∙ data_then d (λ b4. done (gives (Packet.Four (packet4 c.read_data-in-Four.result c.read_data-in-Four-2.result c.read_data-in-Four-3.result b4)))) _ _ _ e4))
