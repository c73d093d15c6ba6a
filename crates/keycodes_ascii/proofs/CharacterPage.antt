-- The page of the characters, src/layout.rt, agrees with the rule: one test, computed over all of its entries.
use mathlib.Core.Path.{refl}
use mathlib.Core.Bool.{xor}
use Rattle.keycodes_ascii.specs.declared.layout.TheConstants.{CHARACTERS}
use Rattle.keycodes_ascii.specs.Keycode.{keycodes}
use Rattle.keycodes_ascii.specs.CharacterTable.{Agrees}
use Rattle.keycodes_ascii.proofs.CharacterTable.{agreement, all_right, row_right, entry_right, same}

pub characters_agree : Agrees CHARACTERS
unfolding all_right row_right entry_right same keycodes xor
characters_agree = agreement CHARACTERS refl
