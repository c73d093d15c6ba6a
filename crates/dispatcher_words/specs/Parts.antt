-- What the parts of the code that have contracts of their own promise.
use Rattle.std.specs.Prelude.{List, [], ◌∷◌, ℕ}
use Rattle.ps2_bytes.specs.Responses.{mouse_id_byte}
use Rattle.ps2_bytes.specs.declared.response.MouseId.{MouseId}
use Rattle.keyboard_sides.specs.declared.Side.{Side}
use Rattle.keyboard.specs.KeyboardLamps.{keyboard_lamps}
use Rattle.dispatcher.specs.declared.Source.{Source}
use Rattle.dispatcher.specs.Sources.{place_of, unused}
use Rattle.dispatcher.specs.Step.{serve_mouse, serve_keyboard}
use Rattle.dispatcher_words.specs.declared.StepWords.{StepWords}
use Rattle.dispatcher_words.specs.Words.{place_in, dispatcher_of}
use Rattle.dispatcher_words.specs.Steps.{with_turn, with_call, Made}

-- What stands behind the handler's record where nobody was served yet: the mouse's identity, and
-- the starts of the scripts.
abbrev pub unserved : MouseId → List ℕ
unserved id = mouse_id_byte id ∷ 0 ∷ 0 ∷ 0 ∷ 0 ∷ []

-- The turn of a side, which is lent this script.
abbrev pub SideServed : Side → List ℕ → List ℕ → List ℕ → StepWords → List ℕ → List ℕ → Type 0
SideServed side ws script log answer ws' log' =
    let source = Source.Keyboard side in
    let x = serve_keyboard keyboard_lamps side (dispatcher_of ws) script log in
    Made x (with_turn source (place_of source x.state.places)
    (with_call side (unused (place_in source ws) script) log ws)) answer ws' log'

-- The mouse's turn.
abbrev pub MouseServed : List ℕ → List ℕ → List ℕ → StepWords → List ℕ → List ℕ → Type 0
MouseServed ws script log answer ws' log' =
    let x = serve_mouse (dispatcher_of ws) script log in
    Made x (with_turn Source.Mouse (place_of Source.Mouse x.state.places) ws) answer ws' log'
