-- What is asked of a key: "Where several keys give a character,
-- one without Shift comes first, then the lowest keycode."
use Rattle.std.specs.Prelude.{Bool, true, false, ◌≡◌, ℕ, ◌≤◌}
use Rattle.keycodes_ascii.specs.declared.Keycode.{Keycode}
use Rattle.keycodes_ascii.specs.Keycode.{number_of}
use Rattle.typing.specs.Keys.{Key, gives_it}

pub record Chosen (c : ℕ) (k : Key) : Type 0 where
  -- the key gives the character
  pub right : gives_it k.shift c k.keycode ≡ true
  -- with Shift it is typed only where no key gives it without
  pub unshifted_first : k.shift ≡ true → (j : Keycode) → gives_it false c j ≡ false
  -- no other key that gives it so is lower
  pub lowest : (j : Keycode) → gives_it k.shift c j ≡ true → number_of k.keycode ≤ number_of j

-- No key gives the character.
pub record NoKey (c : ℕ) : Type 0 where
  pub gives_none : (shift : Bool) (j : Keycode) → gives_it shift c j ≡ false
