-- `keyboard_scancodes::followed_lock` meets its contract: the locks of the table, or none.
use mathlib.Core.Path.{◌≡◌, ◌∙◌}
use Prim.Native.Nat.{ℕ}
use Rattle.keyboard_scancodes.specs.declared.Profile.{Profile}
use Rattle.keyboard_scancodes.specs.FlagTable.{flag_table, is_of}
use Rattle.keyboard_scancodes.specs.FlagsAfter.{lock_flags}
use Rattle.keyboard_scancodes.specs.Profile.{followed}
use Rattle.keyboard_scancodes.proofs.followed_lock.Goals as goal

any_lock : {profile : Profile} → profile ≡ Profile.Any → (code : ℕ) → lock_flags flag_table code ≡ lock_flags (followed profile) code
unfolding followed
any_lock e code = rw e

no_lock : {profile : Profile} → profile ≡ Profile.Tournament → (code : ℕ) → 0 ≡ lock_flags (followed profile) code
unfolding followed flag_table is_of
no_lock e code = rw e

pub returns-in-Any : goal.returns-in-Any
returns-in-Any c = c.lock_flag.ensures ∙ any_lock c.in-Any.is _

pub returns-in-Tournament : goal.returns-in-Tournament
returns-in-Tournament c = no_lock c.in-Tournament.is _
