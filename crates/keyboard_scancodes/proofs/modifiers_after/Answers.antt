-- `keyboard_scancodes::modifiers_after` meets its contract: the masks of the byte's key, put in or taken out.
use borrow.Author.Tests.{lt-ltb, le-ltb}
use mathlib.Core.Path.{◌≡◌, refl, ap, ap₂, ◌∙◌}
use mathlib.Core.Bool.{Bool, xor, ◌||◌}
use Prim.Native.Nat.{ℕ, ◌<◌, ◌%◌}
use lib.Bits.{bit_and, and_mask}
use native.Mathlib.Omega.{arith}
use Rattle.bits.specs.Bits.{bitwise, without}
use Rattle.keyboard_scancodes.specs.Strokes.{stroke}
use Rattle.keyboard_scancodes.specs.FlagTable.{flag_table, is_of}
use Rattle.keyboard_scancodes.specs.declared.Profile.{Profile}
use Rattle.keyboard_scancodes.specs.Profile.{followed}
use Rattle.keyboard_scancodes.specs.FlagsAfter.{flags_of, holds, locks, held_flags, lock_flags}
use Rattle.keyboard_scancodes.proofs.Flags.{table_distinct, table_below_16}
use Rattle.keyboard_scancodes.proofs.Masks.{press_after, release_after}
use Rattle.keyboard_scancodes.proofs.modifiers_after.Goals as goal

-- the masks by the byte's press code are those of its stroke; what a key holds down is followed under each profile
held_same : (profile : Profile) (b : ℕ) (x : Bool) → held_flags flag_table (b % 128) x ≡ flags_of (holds (stroke b x)) (followed profile)
unfolding followed flag_table is_of
held_same Profile.Any b x = refl
held_same Profile.Tournament b x = refl

held_of : (profile : Profile) (b : ℕ) (x : Bool) → held_flags flag_table (bit_and b 0x7F) x ≡ flags_of (holds (stroke b x)) (followed profile)
held_of profile b x = ap (λ (code : ℕ). held_flags flag_table code x) (and_mask b 7) ∙ held_same profile b x

lock_of : (profile : Profile) (b : ℕ) (x : Bool) → b < 128 → lock_flags (followed profile) (bit_and b 0x7F) ≡ flags_of (locks (stroke b x)) (followed profile)
unfolding followed flag_table is_of
lock_of Profile.Any b x h = rw (and_mask b 7, lt-ltb b 128 h)
lock_of Profile.Tournament b x h = refl

pub returns-then-scan_code-lt-KEY_RELEASED_OFFSET : goal.returns-then-scan_code-lt-KEY_RELEASED_OFFSET
returns-then-scan_code-lt-KEY_RELEASED_OFFSET c =
    let a = c.args in
    let b = a.scan_code in
    let x = a.keyboard.prefix in
    let w = a.keyboard.modifiers.bits in
    let pressed = c.if-scan_code-lt-KEY_RELEASED_OFFSET.true in
    c.toggle.ensures
    ∙ ap₂ (λ (m n : ℕ). bitwise xor 16 m n)
    (c.insert.ensures ∙ ap (bitwise ◌||◌ 16 w) (c.held_flags-held.ensures ∙ held_of a.profile b x))
    (c.followed_lock-lock.ensures ∙ lock_of a.profile b x pressed)
    ∙ press_after (stroke b x) w 16 (followed a.profile) (table_distinct a.profile) (table_below_16 a.profile) (omega arith) (lt-ltb b 128 pressed)

pub returns-else-scan_code-lt-KEY_RELEASED_OFFSET : goal.returns-else-scan_code-lt-KEY_RELEASED_OFFSET
returns-else-scan_code-lt-KEY_RELEASED_OFFSET c =
    let a = c.args in
    let b = a.scan_code in
    let x = a.keyboard.prefix in
    let w = a.keyboard.modifiers.bits in
    c.remove.ensures
    ∙ ap (bitwise without 16 w) (c.held_flags-held.ensures ∙ held_of a.profile b x)
    ∙ release_after (stroke b x) w 16 (followed a.profile) (table_distinct a.profile) (table_below_16 a.profile) (omega arith) (le-ltb b 128 c.if-scan_code-lt-KEY_RELEASED_OFFSET.false)
