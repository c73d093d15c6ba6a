-- Which bytes have a key.
use mathlib.Core.Path.{◌≡◌}
use mathlib.Core.Bool.{Bool, true, false, xor}
use mathlib.Core.Option.{Option, none, some}
use Prim.Native.Nat.{ℕ, ◌<◌}
use Rattle.bits.specs.Bits.{bit, odd, put_bit}
use Rattle.bits.proofs.Every.{agree_bool}
use Rattle.keycodes_ascii.specs.Keycode.{keycodes}
use Rattle.keycodes_ascii.specs.Characters.{character_of}
use Rattle.typing.specs.Keys.{Key, gives_it, lowest, key_of}
use Rattle.typing.specs.Answered.{is_typable}

abbrev pub has_key : Option Key → Bool
has_key none = false
has_key (some k) = true

pub typable : (c : ℕ) → c < 256 → has_key (key_of c) ≡ is_typable c
unfolding key_of lowest gives_it character_of keycodes bit odd put_bit xor
typable c h = agree_bool (λ (c : ℕ). has_key (key_of c)) is_typable 256 tt c h
