-- `keyboard::key_call` meets its contract: the byte that is taken, then what it does.
use mathlib.Core.Path.{refl}
use Prim.Native.Nat.{◌≤◌}
use native.Mathlib.Omega.{arith}
use lib.ListN.{length}
use Rattle.ps2_kept.specs.Kept.{kept_limit}
use Rattle.keyboard_scancodes.specs.Waiting.{waiting_bytes}
use Rattle.keyboard_scancodes.specs.declared.WaitingBytes.{WaitingBytes}
use Rattle.keyboard_scancodes.proofs.Waiting.{length_bytes}
use Rattle.keyboard.specs.KeyboardLamps.{port_rules}
use Rattle.keyboard.specs.Outcomes.{still_waiting}
use Rattle.keyboard.proofs.Outcomes.{still_few, byte_used, byte_call, no_byte}
use Rattle.keyboard.proofs.key_call.Goals as goal

-- at most 16 bytes wait
few : (w : WaitingBytes) → w.count ≤ kept_limit → length (still_waiting (waiting_bytes w)) ≤ kept_limit
few w h = still_few (waiting_bytes w) (rw (length_bytes w.bytes 0 w.count) h)

-- the rest of the call, after the byte
pub overflow_add-result : goal.overflow_add-result
overflow_add-result c =
    let k = c.args.keyboard.now in
    let taken = rw c.in-Ok.is at c.take_byte-taken.ensures in
    omega (
      arith,
      byte_used (port_rules c.args.profile c.args.port) k _ _ taken _ refl (c.on_byte-after.ensures.at _ taken.keeps (few k.waiting c.requires)).0,
      c.well_formed,
    )

pub returns-in-Ok : goal.returns-in-Ok
returns-in-Ok c =
    let k = c.args.keyboard.now in
    let taken = rw c.in-Ok.is at c.take_byte-taken.ensures in
    let p = c.on_byte-after.ensures.at _ taken.keeps (few k.waiting c.requires) in
    byte_call (port_rules c.args.profile c.args.port) k _ _ taken _ refl p.0 p.1

pub returns-in-Err : goal.returns-in-Err
returns-in-Err c =
    rw c.without_event.ensures
    (no_byte (port_rules c.args.profile c.args.port) c.args.keyboard.now _ _ (rw c.in-Err.is at c.take_byte-taken.ensures) c.in-Err.refused.value refl)
