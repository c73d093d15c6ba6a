-- Runs that show that the statement speaks of something: a game and its replay at a spare table,
-- one for rated games, and one that fills the queue.
use Rattle.std.specs.Prelude.{[], ◌∷◌, ℕ}
use Rattle.exchange.specs.Exchange.{Exchange}
use Rattle.exchange.specs.Answer.{Answer}
use Rattle.ps2_bytes.specs.declared.response.MouseId.{MouseId}
use Rattle.ps2_mouse.specs.declared.PS2Mouse.{PS2Mouse}
use Rattle.ps2_mouse.specs.Answers.{fresh_mouse}
use Rattle.keyboard_scancodes.specs.declared.Profile.{Profile}
use Rattle.keyboard_sides.specs.declared.Side.{Side}
use Rattle.keyboard_record.specs.declared.Keyboards.{Keyboards}
use Rattle.keyboard_record.specs.declared.Table.{Table}
use Rattle.theorem_history.specs.Past.{nothing, ◌▸◌}
use Rattle.theorem_history.specs.Counted.{handling, taking}
use Rattle.theorem_history.specs.Examples.{one, two, rated, then_presses, short_lamps, patient_lamps, four_free, rated_game}
use Rattle.dispatcher.specs.Sources.{scripts}
use Rattle.dispatcher.specs.Runs.{stepping}
use Rattle.dispatcher.specs.Runs as Runs
use Rattle.theorem_same_hands.specs.SameHands.{Run}
use Rattle.theorem_same_hands.specs.Through.{Turns}

-- At the table with one keyboard: Caps Lock, whose lamp exchange fails, and E0.
abbrev pub game : Run ℕ
game =
    record {
      table = one;
      lamps = λ side. short_lamps;
      calls = nothing ▸ handling Side.First (0x3A ∷ 0xFE ∷ []) four_free
          ▸ handling Side.First (0xE0 ∷ []) [];
    }

-- At a spare table with two, where the first byte comes twice, since its script ended inside the
-- lamp exchange; the lamps are lit then, E0 was caught in that exchange and is taken from the
-- waiting bytes, the other side presses A, and an event is taken.
abbrev pub replayed : Run ℕ
replayed =
    record {
      table = two;
      lamps = λ side. patient_lamps;
      calls = nothing ▸ handling Side.First (0x3A ∷ []) four_free
          ▸ handling Side.First (0x3A ∷ 0xE0 ∷ 0xFA ∷ []) four_free
          ▸ handling Side.Second (0x1E ∷ []) [] ▸ taking ▸ handling Side.First [] [];
    }

-- A is pressed 130 times at the first side.
abbrev pub pressed : {A : Type 0} → Table → (Side → ℕ → Exchange (Answer A)) → Run A
pressed table lamps =
    record { table = table; lamps = lamps; calls = then_presses Side.First 130 nothing }

-- A rated game at a table with one keyboard, and its replay at one with two, where an event is
-- taken behind it, and the other side presses Caps Lock and Control.
abbrev pub rated_two : Table
rated_two = record { keyboards = Keyboards.Two; profile = Profile.Tournament }

abbrev pub rated_once : {A : Type 0} → (Side → ℕ → Exchange (Answer A)) → Run A
rated_once lamps = record { table = rated; lamps = lamps; calls = rated_game }

abbrev pub rated_again : {A : Type 0} → (Side → ℕ → Exchange (Answer A)) → Run A
rated_again lamps = record {
  table = rated_two;
  lamps = lamps;
  calls = rated_game ▸ taking ▸ handling Side.Second (0x3A ∷ []) []
      ▸ handling Side.Second (0x1D ∷ []) [];
}

-- Caps Lock alone, at a table of any profile.
abbrev pub caps_at : Table → Run ℕ
caps_at table = record {
  table = table;
  lamps = λ side. short_lamps;
  calls = nothing ▸ handling Side.First (0x3A ∷ 0xFA ∷ []) four_free;
}

-- The game through the dispatcher, in two steps; its replay at the spare table with a wheel mouse,
-- whose packet is read between the other side's call and the taking.
abbrev pub wheel_mouse : PS2Mouse
wheel_mouse = record { id = MouseId.Three }

abbrev pub game_turns : Turns ℕ
game_turns =
    let lent = stepping (scripts (0x3A ∷ 0xFE ∷ 0xE0 ∷ []) [] []) four_free in
    record {
      table = one;
      lamps = λ side. short_lamps;
      mouse = fresh_mouse;
      moves = nothing ▸ lent ▸ lent;
    }

abbrev pub replayed_turns : Turns ℕ
replayed_turns =
    let lent = stepping (scripts (0x3A ∷ 0xE0 ∷ 0xFA ∷ []) (0x1E ∷ [])
    (0x08 ∷ 0x01 ∷ 0x02 ∷ 0x00 ∷ [])) four_free in
    record {
      table = two;
      lamps = λ side. patient_lamps;
      mouse = wheel_mouse;
      moves = nothing ▸ lent ▸ lent ▸ lent ▸ Runs.taking ▸ lent;
    }
