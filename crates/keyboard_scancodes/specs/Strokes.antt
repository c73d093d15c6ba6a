-- The strokes that single bytes of scan code set 1 say.
use Rattle.std.specs.Prelude.{Bool, ◌||◌, ℕ, ◌%◌, eqb, ltb}

-- A stroke of a key: the key's code, whether it was pressed or released, and whether the stroke
-- came directly after a prefix.
pub record Stroke : Type 0 where
  pub code : ℕ
  pub pressed : Bool
  pub prefixed : Bool

-- "E0 and E1 set the prefix".
abbrev pub is_prefix : ℕ → Bool
is_prefix b = eqb b 0xE0 || eqb b 0xE1

-- A scancode's low part is its low seven bits.
abbrev pub low_part : ℕ → ℕ
low_part b = b % 0x80

-- "Pressed or Released (byte 80 up)".
abbrev pub is_press : ℕ → Bool
is_press b = ltb b 0x80

-- A byte of set 1 as a stroke. Every byte is read so; 00, E0, E1 and FA are then strokes of 00, 60,
-- 61 and 7A, codes that the table of flags does not have.
abbrev pub stroke : ℕ → Bool → Stroke
stroke b x = record { code = low_part b; pressed = is_press b; prefixed = x }

-- Bytes 00, E0, E1 and FA are asked neither 19 nor 20; they change nothing but the prefix.
abbrev pub is_silent : ℕ → Bool
is_silent b = is_prefix b || (eqb b 0x00 || eqb b 0xFA)
