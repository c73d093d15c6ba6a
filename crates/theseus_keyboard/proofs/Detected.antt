-- Keyboard initialisation goes on where the detection found a type.
use mathlib.Core.Path.{◌≡◌}
use mathlib.Core.List.{List}
use Prim.Native.Nat.{ℕ}
use Rattle.std.specs.Prelude.{Result, Ok}
use Rattle.std.specs.Borrow.{Bor}
use Rattle.ps2_bytes.specs.declared.data.ScancodeSet.TheVariants.{Set1}
use Rattle.ps2_bytes.specs.declared.response.KeyboardType.{KeyboardType}
use Rattle.ps2_detect.specs.Detection.{keyboard_detect}
use Rattle.ps2_keyboard.specs.Keyboard.{set_scancode_set}
use Rattle.keyboard_init.specs.KeyboardInit.{detection, keyboard_init}
use Rattle.theseus_ps2.specs.Hardware.{Device, ran, run}
use Rattle.theseus_ps2.specs.Messages.{said}
use Rattle.theseus_ps2.proofs.Run.{steps, refused_as}

pub detected : {S : Type 0} (d : Device S) (s s' : S) (r : Result KeyboardType (Bor (List ℕ))) (k : KeyboardType) → r ≡ Ok k
    → ran (said r) s' ≡ run d keyboard_detect s → run d keyboard_init s ≡ run d (set_scancode_set Set1) s'
unfolding keyboard_init detection
detected d s s' r k e p = steps d detection (λ (_ : KeyboardType). set_scancode_set Set1) s s' (refused_as d 18 keyboard_detect s s' (rw e at p))
