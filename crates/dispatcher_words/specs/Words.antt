-- The dispatcher as 149 numbers of 64 bits: the state that
-- they stand for, and the numbers of a state.
use Rattle.std.specs.Prelude.{Bool, cond, ◌&&◌, ◌||◌, List, [], ◌∷◌, ◌++◌, ◌≡◌, ℕ, eqb, ltb, length, get_or, take, Option, Some, None}
use Rattle.ps2_bytes.specs.Responses.{mouse_id_byte}
use Rattle.ps2_bytes.specs.declared.response.MouseId.{MouseId}
use Rattle.keyboard_sides.specs.declared.Side.{Side}
use Rattle.keyboard_record.specs.Limits.{queue_length}
use Rattle.handler_words.specs.Arguments.{side_number}
use Rattle.handler_words.specs.Layout.{words_length}
use Rattle.handler_words.specs.Words.{record_of, words_of, Fits}
use Rattle.dispatcher.specs.declared.Dispatcher.{Dispatcher}
use Rattle.dispatcher.specs.declared.Source.{Source}
use Rattle.dispatcher_words.specs.Layout.{mouse_at, place_at, last_at}

-- ---- the mouse's identity, by the byte that the mouse names itself with: 0, 3 or 4

abbrev pub identity_of : ℕ → MouseId
identity_of n = cond (eqb n 3) MouseId.Three (cond (eqb n 4) MouseId.Four MouseId.Zero)

-- ---- a source: 1 and 2 are the sides, and 3 is the mouse

abbrev pub source_number : Source → ℕ
source_number (Source.Keyboard side) = side_number side
source_number Source.Mouse = 3

-- Who was served last; 0 stands for nobody.
abbrev pub last_of : ℕ → Option Source
last_of n =
    cond (eqb n 1) (Some (Source.Keyboard Side.First))
    (cond (eqb n 2) (Some (Source.Keyboard Side.Second)) (cond (eqb n 3) (Some Source.Mouse) None))

abbrev pub last_number : Option Source → ℕ
last_number None = 0
last_number (Some source) = source_number source

-- ---- the state that the numbers stand for

-- Whether the numbers that name something name what a dispatcher can hold: the mouse's identity,
-- and who was served last. Those of the handler's record are asked by its calls.
unfoldable pub names_all : List ℕ → Bool
names_all ws =
    let identity = get_or ws mouse_at 0 in
    (eqb identity 0 || (eqb identity 3 || eqb identity 4)) && ltb (get_or ws last_at 0) 4

-- The numbers of the handler's record.
abbrev pub handler_in : List ℕ → List ℕ
handler_in ws = take words_length ws

abbrev pub place_in : Source → List ℕ → ℕ
place_in source ws = get_or ws (place_at source) 0

unfoldable pub dispatcher_of : List ℕ → Dispatcher
dispatcher_of ws =
    record {
      handler = record_of (handler_in ws);
      mouse = record { id = identity_of (get_or ws mouse_at 0) };
      places = record {
        first = place_in (Source.Keyboard Side.First) ws;
        second = place_in (Source.Keyboard Side.Second) ws;
        mouse = place_in Source.Mouse ws;
      };
      last = last_of (get_or ws last_at 0);
    }

-- ---- the numbers of a state

abbrev pub words_of_dispatcher : Dispatcher → List ℕ
words_of_dispatcher d =
    words_of d.handler ++ (mouse_id_byte d.mouse.id ∷ d.places.first ∷ d.places.second
    ∷ d.places.mouse ∷ last_number d.last ∷ [])

-- A state whose handler's record fits the numbers, with its 128 places.
pub record DispatcherFits (d : Dispatcher) : Type 0 where
  pub handler : Fits d.handler
  pub places : length d.handler.places ≡ queue_length
