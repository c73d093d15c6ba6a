-- `read_three` meets its contract: each byte is read where the last one ended.
use native.Mathlib.Omega.{arith}
use Prim.Native.Nat.{ℕ}
use Rattle.exchange.specs.Exchange.{Exchange, done, bind}
use Rattle.exchange.specs.Answer.{Answer, gives, and_then}
use Rattle.exchange.proofs.Reading.{read_to_used_le}
use Rattle.ps2_answers.proofs.Then.{exit}
use Rattle.ps2_answers.proofs.Reading.{read_first, read_first_stops, read_then_steps, read_then_stops, read_here}
use Rattle.ps2_ports.specs.Ports.{read_port, read_data}
use Rattle.ps2_packet_reading.specs.declared.FirstBytes.{FirstBytes}
use Rattle.ps2_packet_reading.specs.Reading.{first_bytes}
use Rattle.ps2_packet_reading.proofs.read_three.Goals as goal

-- what follows each byte
abbrev after2 : ℕ → ℕ → ℕ → Exchange (Answer FirstBytes)
after2 b1 b2 b3 = done (gives (first_bytes b1 b2 b3))

abbrev after1 : ℕ → ℕ → Exchange (Answer FirstBytes)
after1 b1 b2 = and_then read_data (after2 b1 b2)

abbrev from_start : ℕ → Exchange (Answer FirstBytes)
from_start b1 = and_then read_data (after1 b1)

pub slice_bounds-read_data-count : goal.slice_bounds-read_data-count
unfolding read_port and_then bind
slice_bounds-read_data-count c = read_to_used_le (read_first read_data from_start _ c.in_ok-one.one c.in_ok-one.ensures).to

pub slice_bounds-read_data-start : goal.slice_bounds-read_data-start
unfolding read_port and_then bind
slice_bounds-read_data-start c = read_to_used_le (read_first read_data from_start _ c.in_ok-one.one c.in_ok-one.ensures).to

pub slice_bounds-read_data-count-2 : goal.slice_bounds-read_data-count-2
unfolding read_port and_then bind
slice_bounds-read_data-count-2 c =
    read_to_used_le
    (read_then_steps (omega (arith, c.well_formed)) c.in_ok-one.one read_data (after1 c.in_ok-one.one.value)
    (read_first read_data from_start _ c.in_ok-one.one c.in_ok-one.ensures) _ c.read_data-2.ensures _ c.in_ok-two.ensures).to

pub slice_bounds-read_data-start-2 : goal.slice_bounds-read_data-start-2
unfolding read_port and_then bind
slice_bounds-read_data-start-2 c =
    read_to_used_le
    (read_then_steps (omega (arith, c.well_formed)) c.in_ok-one.one read_data (after1 c.in_ok-one.one.value)
    (read_first read_data from_start _ c.in_ok-one.one c.in_ok-one.ensures) _ c.read_data-2.ensures _ c.in_ok-two.ensures).to

pub returns-in_err-one : goal.returns-in_err-one
unfolding read_port and_then bind
returns-in_err-one c = rw (exit _ _ c.from_residual.ensures.1) (read_first_stops read_data from_start _ _ c.in_err-one.ensures)

pub returns-in_err-two : goal.returns-in_err-two
unfolding read_port and_then bind
returns-in_err-two c =
    rw (exit _ _ c.from_residual-in_err-two.ensures.1)
    (read_then_stops (omega (arith, c.well_formed)) c.in_ok-one.one read_data (after1 c.in_ok-one.one.value)
    (read_first read_data from_start _ c.in_ok-one.one c.in_ok-one.ensures) _ c.read_data-2.ensures _ c.in_err-two.ensures)

pub returns-in_err-three : goal.returns-in_err-three
unfolding read_port and_then bind
returns-in_err-three c =
    rw (exit _ _ c.from_residual-in_err-three.ensures.1)
    (read_then_stops (omega (arith, c.well_formed)) c.in_ok-two.two read_data (after2 c.in_ok-one.one.value c.in_ok-two.two.value)
    (read_then_steps (omega (arith, c.well_formed)) c.in_ok-one.one read_data (after1 c.in_ok-one.one.value)
    (read_first read_data from_start _ c.in_ok-one.one c.in_ok-one.ensures) _ c.read_data-2.ensures _ c.in_ok-two.ensures)
    _ c.read_data-3.ensures _ c.in_err-three.ensures)

pub returns : goal.returns
unfolding read_port and_then bind
returns c =
    rw c.with.ensures
    (read_here
    (read_then_steps (omega (arith, c.well_formed)) c.in_ok-two.two read_data (after2 c.in_ok-one.one.value c.in_ok-two.two.value)
    (read_then_steps (omega (arith, c.well_formed)) c.in_ok-one.one read_data (after1 c.in_ok-one.one.value)
    (read_first read_data from_start _ c.in_ok-one.one c.in_ok-one.ensures) _ c.read_data-2.ensures _ c.in_ok-two.ensures)
    _ c.read_data-3.ensures _ c.in_ok-three.ensures))
