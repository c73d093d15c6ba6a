-- `keycodes_ascii::Keycode::to_ascii` meets its contract: the table agrees with the rule, so the entry at the key's number, in the
-- column of the flags, is by the rule.
use mathlib.Core.List.{[]}
use mathlib.Core.Path.{◌≡◌, refl, ap, ◌∙◌}
use Prim.Native.Nat.{◌<◌, ◌≤◌}
use native.Mathlib.Omega.{arith}
use lib.ListN.{length, get_or}
use Rattle.std.proofs.lemmas.List.{get_or_read_under}
use Rattle.keycodes_ascii.specs.declared.layout.TheConstants.{CHARACTERS}
use Rattle.keycodes_ascii.specs.CharacterTable.{entry_character}
use Rattle.keycodes_ascii.proofs.CharacterTable.{past_end, table_flags}
use Rattle.keycodes_ascii.proofs.CharacterPage.{characters_agree}
use Rattle.keycodes_ascii.proofs.Keycode.to_ascii.Goals as goal

pub returns-in-None : goal.returns-in-None
returns-in-None c =
    let past : length CHARACTERS ≤ c.from-2.result = omega (arith, c.in-None.ensures.lookup) in
    past_end CHARACTERS c.from-2.result _ past
    ∙ table_flags characters_agree c.args.self c.args.modifiers (c.from-2.ensures ∙ c.from.ensures) refl refl refl

pub returns-in-Some : goal.returns-in-Some
returns-in-Some c =
    let found : c.from-2.result < length CHARACTERS = omega (arith, c.in-Some.ensures.lookup) in
    let row : c.in-Some.row.now ≡ get_or CHARACTERS c.from-2.result [] = get_or_read_under CHARACTERS c.from-2.result (length CHARACTERS) c.in-Some.row.now [] c.in-Some.ensures.lookup.1 found refl in
    c.of_entry.ensures
    ∙ ap (λ r. entry_character (get_or r c.column-at.result 0)) row
    ∙ table_flags characters_agree c.args.self c.args.modifiers (c.from-2.ensures ∙ c.from.ensures) c.column-at.ensures c.is_shift.ensures c.is_caps_lock.ensures
