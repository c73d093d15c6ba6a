-- `keyboard_scancodes::presses_lock` meets its contract: three bytes press a lock, and no other does.
use mathlib.Core.Path.{◌≡◌, refl, sym, ◌∙◌}
use mathlib.Core.Bool.{Bool, true, false, true≢false}
use mathlib.Core.Logic.{◌≢◌}
use Prim.Native.Nat.{ℕ, ◌<◌}
use native.Mathlib.Omega.{arith}
use lib.Dec.{eqb}
use borrow.Author.Tests.{eq-eqb, eqb-true}
use Rattle.keyboard_scancodes.specs.Strokes.{stroke}
use Rattle.keyboard_scancodes.specs.FlagTable.{flag_table, is_of, presses_lock}
use Rattle.keyboard_scancodes.proofs.Untouched.{no_lock}
use Rattle.keyboard_scancodes.proofs.presses_lock.Goals as goal
use Rattle.keyboard_scancodes.proofs.presses_lock.Goals.{then-scan_code-eq-CAPS_LOCK, else-scan_code-eq-CAPS_LOCK}

-- the presses of the first two locks
caps_lock : {b : ℕ} → b ≡ 0x3A → true ≡ presses_lock flag_table (stroke b false)
unfolding flag_table is_of presses_lock
caps_lock e = rw e

num_lock : {b : ℕ} → b ≡ 0x45 → true ≡ presses_lock flag_table (stroke b false)
unfolding flag_table is_of presses_lock
num_lock e = rw e

-- of any other byte the third decides
scroll_lock : (b : ℕ) → b < 256 → b ≢ 0x3A → b ≢ 0x45 → (t : Bool) → eqb b 0x46 ≡ t → t ≡ presses_lock flag_table (stroke b false)
unfolding flag_table is_of presses_lock
scroll_lock b fits n m true e = let q : b ≡ 0x46 = eqb-true b 0x46 e in rw q
scroll_lock b fits n m false e = sym (no_lock b fits n m (λ q. true≢false (sym (eq-eqb b 0x46 q) ∙ e)))

pub returns-then-scan_code-eq-NUM_LOCK : goal.returns-then-scan_code-eq-NUM_LOCK
returns-then-scan_code-eq-NUM_LOCK c =
    elim c.if-scan_code-eq-CAPS_LOCK.branch [
      | then-scan_code-eq-CAPS_LOCK w ↦
          let q = w.if-scan_code-eq-CAPS_LOCK.true in
          w.t-3-is ∙ eq-eqb _ 0x3A q ∙ caps_lock q
      | else-scan_code-eq-CAPS_LOCK w ↦
          let q : c.args.scan_code ≡ 0x45 = omega (arith, c.if-scan_code-eq-NUM_LOCK.either, w.if-scan_code-eq-CAPS_LOCK.false) in
          w.t-3-is ∙ eq-eqb _ 0x45 q ∙ num_lock q
    ]

pub returns-else-scan_code-eq-NUM_LOCK : goal.returns-else-scan_code-eq-NUM_LOCK
returns-else-scan_code-eq-NUM_LOCK c =
    let n = c.if-scan_code-eq-NUM_LOCK.false in
    scroll_lock _ c.ranges.scan_code.fits n.0 n.1 _ refl
