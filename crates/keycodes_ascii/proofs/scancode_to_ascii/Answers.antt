-- `keycodes_ascii::scancode_to_ascii` meets its contract: the character of the byte's keycode, if it has one.
use mathlib.Core.Path.{ap, ◌∙◌}
use Rattle.std.specs.Result.{result_ok}
use Rattle.keycodes_ascii.specs.Characters.{character_of_found, scancode_character}
use Rattle.keycodes_ascii.proofs.Codes.{ok_read}
use Rattle.keycodes_ascii.proofs.scancode_to_ascii.Goals as goal

pub returns-in_err-ok : goal.returns-in_err-ok
unfolding scancode_character
returns-in_err-ok c =
    let a = c.args in
    c.from_residual.ensures
    ∙ ap (λ f. character_of_found f a.modifiers) (c.in_err-ok.ensures.value ∙ ap result_ok c.try_from.ensures ∙ ok_read a.scan_code)

pub returns : goal.returns
unfolding scancode_character
returns c =
    let a = c.args in
    c.to_ascii.ensures
    ∙ ap (λ f. character_of_found f a.modifiers) (c.in_ok-ok.ensures.value ∙ ap result_ok c.try_from.ensures ∙ ok_read a.scan_code)
