-- What it means that a worked position holds: the definitions
-- of every layer, on its literals, come to what it says.
use Rattle.std.specs.Prelude.{List, [], ◌∷◌, ◌≡◌, ℕ, ◌+◌, ◌*◌, ◌^◌, take, replicate}
use Rattle.std.proofs.Math.Option.{Option, none, some}
use Prim.Native.Char.{code}
use Rattle.exchange.specs.Exchange.{End, yields, lacks, play}
use Rattle.exchange.specs.Answer.{Answer, gives, refuses, number_ended}
use Rattle.std.specs.Prelude.{Some}
use Rattle.std.specs.Prelude as prelude
use Rattle.keycodes_ascii.specs.declared.KeyEvent.{KeyEvent}
use Rattle.keycodes_ascii.specs.Characters.{character_of}
use Rattle.ps2_packet.specs.declared.MousePacket.{MousePacket}
use Rattle.ps2_bytes.specs.declared.response.MouseId.TheVariants.{Zero}
use Rattle.ps2_packet.specs.Packet.{common, x_movement, wheel}
use Rattle.ps2_mouse.specs.Mouse.{mouse_command}
use Rattle.ps2_packet_reading.specs.Reading.{read_mouse_packet}
use Rattle.keyboard_sides.specs.declared.Side.{Side}
use Rattle.keyboard_sides.specs.Named.{Sided}
use Rattle.keyboard_record.specs.declared.KeyboardHandler.{KeyboardHandler}
use Rattle.keyboard_scancodes.specs.declared.Profile.{Profile}
use Rattle.keyboard_record.specs.declared.Keyboards.{Keyboards}
use Rattle.keyboard_record.specs.declared.Table.{Table}
use Rattle.keyboard.specs.Handler.{Called, handled, log_left}
use Rattle.keyboard.specs.KeyboardLamps.{keyboard_lamps}
use Rattle.keyboard_record.specs.Queue.{waiting}
use Rattle.keyboard_record.specs.Record.{fresh}
use Rattle.theorem_worked.specs.Positions.{Seen, event, writes, no_event, flags, refused, used, log, Position, scripts, x_is, wheel_is, character, mouse_sends, Row, row}

-- The word in which these flags are set, and no other.
abbrev pub word : List ℕ → ℕ
word [] = 0
word (flag ∷ more) = 2 ^ flag + word more

-- A log of 16 free bytes, room for the 8 pairs that a handler call writes at most and the 5 of a
-- mouse command; and the pairs that are written in it.
abbrev pub free_log : List ℕ
free_log = replicate 16 0

abbrev pub written : ℕ → List ℕ → List ℕ
written pairs left = take (2 * pairs) left

-- ---- handler calls

-- A call for the first side, with the keyboard's own lamp
-- exchange: what it gives back, and the log that it leaves.
pub record Call : Type 0 where
  pub gives_back : Called
  pub leaves : List ℕ

abbrev pub call_on : KeyboardHandler → List ℕ → Call
call_on h script = record {
  gives_back = handled keyboard_lamps Side.First h script free_log;
  leaves = log_left keyboard_lamps Side.First h.state script free_log;
}

-- The last of some calls, each on the record that the one before it gave back.
abbrev pub last_call : KeyboardHandler → List ℕ → List (List ℕ) → Call
last_call h script [] = call_on h script
last_call h script (next ∷ more) = last_call (call_on h script).gives_back.handler next more

-- The last of some events.
abbrev pub newest : List (Sided KeyEvent) → Option KeyEvent
newest [] = none
newest (e ∷ []) = some e.one
newest (e ∷ f ∷ es) = newest (f ∷ es)

abbrev pub newest_after : Call → Option KeyEvent
newest_after c = newest (waiting c.gives_back.handler)

abbrev pub character_of_event : Option KeyEvent → Option (prelude.Option ℕ)
character_of_event none = none
character_of_event (some e) = some (character_of e.keycode e.modifiers)

abbrev pub Sees : Call → Seen → Type 0
Sees c (event key action carried) = newest_after c
    ≡ some (record { keycode = key; action = action; modifiers = record { bits = word carried } })
Sees c (writes sign) = character_of_event (newest_after c) ≡ some (Some (code sign))
Sees c no_event = newest_after c ≡ none
Sees c (flags set) = c.gives_back.handler.state.first.modifiers.bits ≡ word set
Sees c (refused number) = number_ended c.gives_back.end ≡ number
Sees c (used bytes) = c.gives_back.used ≡ bytes
Sees c (log pairs) = written c.gives_back.pairs c.leaves ≡ pairs

-- ---- positions

infixr 5 ◌&◌
-- P holds of each thing of a list.
pub data All {A : Type 0} (P : A → Type 0) : List A → Type 0 where
  all : All P []
  ◌&◌ : {x : A} {xs : List A} → P x → All P xs → All P (x ∷ xs)

-- A packet was read, and P holds of it.
abbrev pub ReadAs : (MousePacket → Type 0) → End (Answer MousePacket) → Type 0
ReadAs P (yields (gives packet)) = P packet
ReadAs P (yields (refuses n)) = ⊥
ReadAs P (lacks x) = ⊥

-- The table of the worked positions: one keyboard, and no profile.
abbrev pub laid : Table
laid = record { keyboards = Keyboards.One; profile = Profile.Any }

abbrev pub Holds : Position → Type 0
Holds (scripts [] seen) = ⊥
Holds (scripts (first ∷ more) seen) = All (Sees (last_call (fresh laid) first more)) seen
Holds (x_is bytes x) =
    ReadAs (λ packet. x_movement (common packet) ≡ x) (play (read_mouse_packet Zero) bytes []).end
Holds (wheel_is id byte4 turns) =
    (b1 b2 b3 : ℕ) → ReadAs (λ packet. wheel packet ≡ turns)
    (play (read_mouse_packet id) (b1 ∷ b2 ∷ b3 ∷ byte4 ∷ []) []).end
Holds (character set key sign) = character_of key (record { bits = word set }) ≡ Some (code sign)
Holds (mouse_sends command script pairs) =
    let o = play (mouse_command command) script free_log in
    written o.pairs o.log ≡ pairs

abbrev pub RowHolds : Row → Type 0
RowHolds (row number positions) = All Holds positions
