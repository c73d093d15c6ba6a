-- A rated game and its replay: Alt and Shift are held in both, and no lock is on, whatever the lamp exchanges are. And why the profile must be the same: of the press of Caps Lock, counted in both, one leaves the flag and the other none.
use mathlib.Core.Path.{◌≡◌, refl, sym, ◌∙◌}
use Prim.Native.Nat.{ℕ}
use Rattle.bits.specs.Bits.{odd, bit, put_bit}
use Rattle.bits.specs.Table.{decode}
use Rattle.exchange.specs.Exchange.{Exchange, play}
use Rattle.exchange.specs.Answer.{Answer}
use Rattle.exchange.specs.Keeping.{keeping}
use Rattle.keyboard_scancodes.specs.declared.Profile.{Profile}
use Rattle.keyboard_scancodes.specs.Profile.{followed}
use Rattle.keyboard_scancodes.specs.FlagTable.{flag_table, is_of, presses_lock}
use Rattle.keyboard_sides.specs.declared.Side.{Side}
use Rattle.keyboard.specs.Scancode.{caught, scancode}
use Rattle.theorem_history.specs.Past.{nothing, ◌▸◌}
use Rattle.theorem_history.specs.Said.{prefix_said, strokes, times, last_was_press, said_of, word_of, flags_said}
use Rattle.theorem_history.specs.Counted.{own, scancode_after, thrown_after, behind_after, joined_after, counted, waits}
use Rattle.theorem_history.specs.Examples.{one, rated}
use Rattle.theorem_history.proofs.History.{history}
use Rattle.theorem_same_hands.specs.SameHands.{counted_in, Agree, flags_in, SameHands}
use Rattle.theorem_same_hands.specs.Examples.{rated_once, rated_again, caps_at}
use Rattle.theorem_same_hands.proofs.SameHands.{same_hands}

module _ {A B : Type 0} (lamps : Side → ℕ → Exchange (Answer A)) (others : Side → ℕ → Exchange (Answer B)) where
  once_counted : counted_in Side.First (rated_once lamps) ≡ nothing ▸ 0x3A ▸ 0x1E ▸ 0x38 ▸ 0x2A ▸ 0x30 ▸ 0xBA
  unfolding own counted waits behind_after joined_after thrown_after caught scancode_after scancode followed flag_table is_of presses_lock
  once_counted = refl

  again_counted : counted_in Side.First (rated_again others) ≡ nothing ▸ 0x3A ▸ 0x1E ▸ 0x38 ▸ 0x2A ▸ 0x30 ▸ 0xBA
  unfolding own counted waits behind_after joined_after thrown_after caught scancode_after scancode followed flag_table is_of presses_lock
  again_counted = refl

  pub rated_same : SameHands Side.First (rated_once lamps) (rated_again others)
  rated_same = same_hands Side.First (rated_once lamps) (rated_again others) refl (once_counted ∙ sym again_counted)

  -- Alt and Shift, and no lock
  rated_said : flags_said Profile.Tournament (nothing ▸ 0x3A ▸ 0x1E ▸ 0x38 ▸ 0x2A ▸ 0x30 ▸ 0xBA) ≡ 0x11
  unfolding flags_said word_of said_of times last_was_press strokes prefix_said followed flag_table is_of presses_lock put_bit odd bit
  rated_said = refl

  pub rated_again_flags : flags_in Side.First (rated_again others) ≡ 0x11
  rated_again_flags = (history (rated_again others).table (rated_again others).lamps (rated_again others).calls).flags Side.First ∙ rw again_counted rated_said

-- ---- under two profiles

caps_counted : counted_in Side.First (caps_at one) ≡ nothing ▸ 0x3A
unfolding own counted waits behind_after joined_after thrown_after caught scancode_after scancode keeping decode play followed flag_table is_of presses_lock
caps_counted = refl

rated_caps_counted : counted_in Side.First (caps_at rated) ≡ nothing ▸ 0x3A
unfolding own counted waits behind_after joined_after thrown_after caught scancode_after scancode keeping decode play followed flag_table is_of presses_lock
rated_caps_counted = refl

caps_any : flags_said Profile.Any (nothing ▸ 0x3A) ≡ 0x80
unfolding flags_said word_of said_of times last_was_press strokes prefix_said followed flag_table is_of presses_lock put_bit odd bit
caps_any = refl

caps_rated : flags_said Profile.Tournament (nothing ▸ 0x3A) ≡ 0
unfolding flags_said word_of said_of times last_was_press strokes prefix_said followed flag_table is_of presses_lock put_bit odd bit
caps_rated = refl

pub profiles_agree : Agree Side.First (caps_at one) (caps_at rated)
profiles_agree = caps_counted ∙ sym rated_caps_counted

pub flags_any : flags_in Side.First (caps_at one) ≡ 0x80
flags_any = (history (caps_at one).table (caps_at one).lamps (caps_at one).calls).flags Side.First ∙ rw caps_counted caps_any

pub flags_rated : flags_in Side.First (caps_at rated) ≡ 0
flags_rated = (history (caps_at rated).table (caps_at rated).lamps (caps_at rated).calls).flags Side.First ∙ rw rated_caps_counted caps_rated
