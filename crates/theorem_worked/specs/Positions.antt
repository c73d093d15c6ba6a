-- The types of worked positions: what is given, and what it must come to.
use Rattle.std.specs.Prelude.{List, [], ◌∷◌, map, ℕ, ℤ}
use Prim.Native.Char.{Char}
use Rattle.keycodes_ascii.specs.declared.KeyAction.{KeyAction}
use Rattle.keycodes_ascii.specs.declared.Keycode.{Keycode}
use Rattle.ps2_bytes.specs.declared.command.HostToMouseCommand.{HostToMouseCommand}
use Rattle.ps2_bytes.specs.declared.response.MouseId.{MouseId}

-- What is seen after a handler call. Flags are given by
-- their numbers; those that are not given are clear.
pub data Seen : Type 0 where
  -- the newest event that waits: its key, its action and its
  -- flags; the character that it writes; that none waits
  event : Keycode → KeyAction → List ℕ → Seen
  writes : Char → Seen
  no_event : Seen
  -- the flags of the record
  flags : List ℕ → Seen
  -- the number that the call is refused with; the script bytes used; the pairs written
  refused : ℕ → Seen
  used : ℕ → Seen
  log : List ℕ → Seen

-- A position by its literals, last of them what it must come to.
pub data Position : Type 0 where
  -- handler calls, one for each script, the first on a fresh
  -- record ("Flags start empty"); what is seen after the last
  scripts : List (List ℕ) → List Seen → Position
  -- the bytes of a packet at identity 0; its movement in x
  x_is : List ℕ → ℤ → Position
  -- an identity, and byte 4 of its packet, whatever the first three are; the wheel
  wheel_is : MouseId → ℕ → ℤ → Position
  -- flags and a key; its character
  character : List ℕ → Keycode → Char → Position
  -- a command to the mouse and a script; the pairs written
  mouse_sends : HostToMouseCommand → List ℕ → List ℕ → Position

-- A row: its number, and its positions.
pub data Row : Type 0 where
  row : ℕ → List Position → Row

-- Scancodes, a handler call for each. Behind its scancode each script
-- has 00 01 FA 00 01 FA, as row 3's: a keyboard that accepts both bytes
-- of a lamp exchange at once. Only the press of a lock reads that far.
abbrev pub script_of : ℕ → List ℕ
script_of b = b ∷ 0x00 ∷ 0x01 ∷ 0xFA ∷ 0x00 ∷ 0x01 ∷ 0xFA ∷ []

abbrev pub scancodes : List ℕ → List Seen → Position
scancodes bytes seen = scripts (map script_of bytes) seen
