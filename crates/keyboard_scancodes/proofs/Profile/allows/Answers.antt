-- `keyboard_scancodes::Profile::allows` meets its contract: every key, or those of the list.
use mathlib.Core.Path.{◌≡◌, sym, ◌∙◌}
use mathlib.Core.Bool.{true, true≢false}
use Rattle.keycodes_ascii.specs.declared.Keycode.{Keycode}
use Rattle.keycodes_ascii.specs.Keycode.{number_of}
use Rattle.keyboard_scancodes.specs.declared.Profile.{Profile}
use Rattle.keyboard_scancodes.specs.Profile.{allows, is_tournament_code}
use Rattle.keyboard_scancodes.proofs.Profile.allows.Goals as goal
use Rattle.keyboard_scancodes.proofs.Profile.allows.Goals.{in-Any, in_default}

any_allows : {profile : Profile} → profile ≡ Profile.Any → (key : Keycode) → true ≡ allows profile key
unfolding allows
any_allows e key = rw e

tournament_allows : {profile : Profile} → profile ≡ Profile.Tournament → (key : Keycode) → is_tournament_code (number_of key) ≡ allows profile key
unfolding allows
tournament_allows e key = rw e

pub returns-then-matches : goal.returns-then-matches
returns-then-matches c =
    let any : true ≡ allows c.args.self c.args.keycode =
    elim c.match-matches.branch [ in-Any w ↦ any_allows w.in-Any.is _ | in_default w ↦ absurd (true≢false (sym c.if-matches.true ∙ w.matches-is)) ]
    in
    search (any, c.if-matches.true ∙ any)

pub returns-else-matches : goal.returns-else-matches
returns-else-matches c =
    rw c.from.ensures at c.is_tournament_key.ensures
    ∙ elim c.match-matches.branch [ in-Any w ↦ absurd (true≢false (sym w.matches-is ∙ c.if-matches.false)) | in_default w ↦ tournament_allows w.in_default.is _ ]
