-- `keyboard_scancodes::is_lock_press` meets its contract: the locks of the table, or none.
use mathlib.Core.Path.{◌≡◌, sym, ◌∙◌}
use mathlib.Core.Bool.{false, true≢false}
use Prim.Native.Nat.{ℕ}
use Rattle.keyboard_scancodes.specs.declared.Profile.{Profile}
use Rattle.keyboard_scancodes.specs.Strokes.{stroke}
use Rattle.keyboard_scancodes.specs.FlagTable.{flag_table, is_of, presses_lock}
use Rattle.keyboard_scancodes.specs.Profile.{followed, presses_followed}
use Rattle.keyboard_scancodes.proofs.is_lock_press.Goals as goal
use Rattle.keyboard_scancodes.proofs.is_lock_press.Goals.{in-Any, in_default}

any_press : {profile : Profile} → profile ≡ Profile.Any → (b : ℕ) → presses_lock flag_table (stroke b false) ≡ presses_followed profile b
unfolding followed
any_press e b = rw e

no_press : {profile : Profile} → profile ≡ Profile.Tournament → (b : ℕ) → false ≡ presses_followed profile b
unfolding followed flag_table is_of presses_lock
no_press e b = rw e

pub returns-then-matches : goal.returns-then-matches
returns-then-matches c =
    c.presses_lock.ensures
    ∙ elim c.match-matches.branch [ in-Any w ↦ any_press w.in-Any.is _ | in_default w ↦ absurd (true≢false (sym c.if-matches.true ∙ w.matches-is)) ]

pub returns-else-matches : goal.returns-else-matches
returns-else-matches c =
    c.if-matches.false
    ∙ elim c.match-matches.branch [ in-Any w ↦ absurd (true≢false (sym w.matches-is ∙ c.if-matches.false)) | in_default w ↦ no_press w.in_default.is _ ]
