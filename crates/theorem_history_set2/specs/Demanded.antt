-- The rule's sentences on flags, said of set 2 codes, with nothing of strokes, of the table of
-- flags or of set 1: what the laws of the words compare the rule with.
use Rattle.std.specs.Prelude.{Bool, true, false, not, cond, List, [], ◌∷◌, ℕ, suc, eqb}
use Rattle.bits.specs.Bits.{odd}
use Rattle.keyboard_modifiers.specs.Flags.{shift_left, shift_right, control_left, control_right, alt, super_key_left, super_key_right, caps_lock, num_lock, scroll_lock, alt_right}
use Rattle.scancode_set2.specs.Codes.{Code, alone, after_f0, ends_after_f0}
use Rattle.keyboard_scancodes.specs.FlagTable.{Kind, lock, held, left, right, FlagRow, flag_row}
use Rattle.theorem_history.specs.Past.{Past, nothing, ◌▸◌}
use Rattle.theorem_history_set2.specs.SaidSet2.{prefix_set2}

-- The keys that the flags follow, by their codes in set 2.
abbrev pub flag_codes : List FlagRow
flag_codes =
    flag_row shift_left held 0x12 ∷
    flag_row shift_right held 0x59 ∷
    flag_row control_left left 0x14 ∷
    flag_row control_right right 0x14 ∷
    flag_row alt held 0x11 ∷
    flag_row super_key_left held 0x1F ∷
    flag_row super_key_right held 0x27 ∷
    flag_row caps_lock lock 0x58 ∷
    flag_row num_lock lock 0x77 ∷
    flag_row scroll_lock lock 0x7E ∷
    flag_row alt_right right 0x11 ∷ []

-- How many times the code p came by itself.
unfoldable pub times_alone : ℕ → Past Code → ℕ
times_alone p nothing = 0
times_alone p (past ▸ alone c) = cond (eqb c p) (suc (times_alone p past)) (times_alone p past)
times_alone p (past ▸ after_f0 c) = times_alone p past
times_alone p (past ▸ ends_after_f0) = times_alone p past

-- Of p by itself and p after F0, the last that came was p by itself.
unfoldable pub last_alone : ℕ → Past Code → Bool
last_alone p nothing = false
last_alone p (past ▸ alone c) = cond (eqb c p) true (last_alone p past)
last_alone p (past ▸ after_f0 c) = cond (eqb c p) false (last_alone p past)
last_alone p (past ▸ ends_after_f0) = last_alone p past

-- The codes of which f holds, asked whether the code came directly after a prefix.
unfoldable pub those : (Bool → Bool) → Past Code → Past Code
those f nothing = nothing
those f (past ▸ c) = cond (f (prefix_set2 past)) (those f past ▸ c) (those f past)

-- "A lock is on exactly when its press byte came an odd number of times; any other key is held
-- exactly when the last byte of its own press and release pair was the press, right Control judging
-- only bytes directly after E0 or E1, left Control the rest": for a press byte the code by itself,
-- for a release byte the code after F0.
unfoldable pub demanded_set2 : Kind → ℕ → Past Code → Bool
demanded_set2 lock p codes = odd (times_alone p codes)
demanded_set2 held p codes = last_alone p codes
demanded_set2 left p codes = last_alone p (those not codes)
demanded_set2 right p codes = last_alone p (those (λ x. x) codes)
