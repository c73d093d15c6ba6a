-- What the program tablekeys prints of a script.
use Rattle.std.specs.Prelude.{cond, List, [], ◌++◌, ℕ, zero, suc, ◌+◌, eqb, length, take, drop, replicate}
use Rattle.exchange.specs.Answer.{number_ended}
use Rattle.keyboard_scancodes.specs.declared.Profile.{Profile}
use Rattle.keyboard_sides.specs.declared.Side.{Side}
use Rattle.keyboard_record.specs.declared.KeyboardHandler.{KeyboardHandler}
use Rattle.keyboard_record.specs.declared.Keyboards.{Keyboards}
use Rattle.keyboard_record.specs.declared.Table.{Table}
use Rattle.keyboard.specs.Answers.{ends2_3_21}
use Rattle.keyboard.specs.Handler.{Called, handled}
use Rattle.keyboard.specs.KeyboardLamps.{keyboard_lamps}
use Rattle.keyboard_record.specs.Record.{fresh}
use Rattle.keyboard_record.specs.Taking.{taken}
use Rattle.key_listing.specs.Lines.{taken_line, refusal_line}

-- "Reads the first 65,536 script bytes from standard input and ignores more."
abbrev pub script_limit : ℕ
script_limit = 65536

-- "A fresh record": the program has one keyboard, the first side's, and no profile.
abbrev pub table : Table
table = record { keyboards = Keyboards.One; profile = Profile.Any }

abbrev pub at_first : KeyboardHandler
at_first = fresh table

-- A handler call "with a 16-byte log each time".
abbrev pub free_log : List ℕ
free_log = replicate 16 0

abbrev pub call_on : KeyboardHandler → List ℕ → Called
call_on h script = handled keyboard_lamps Side.First h script free_log

-- What one call prints: its refusal, if it is refused, and the event that is taken "at once".
unfoldable pub call_text : KeyboardHandler → List ℕ → List ℕ
call_text h script = refusal_line (number_ended (call_on h script).end)
    ++ taken_line (taken (call_on h script).handler).answer

-- The record after a call and its taking.
unfoldable pub record_after : KeyboardHandler → List ℕ → KeyboardHandler
record_after h script = (taken (call_on h script).handler).now

-- How many bytes are left for calls to take: of the script, and waiting.
abbrev pub bytes_left : KeyboardHandler → List ℕ → ℕ
bytes_left h script = length script + h.state.first.waiting.count

-- What at most n calls print, each made on the record and on the script that the last one left,
-- "until the script is used"; the program "goes on until none waits". After 2, 3 or 21, where a
-- call leaves its record as it was, no call follows.
unfoldable pub calls_text : ℕ → KeyboardHandler → List ℕ → List ℕ
calls_text zero h script = []
calls_text (suc n) h script =
    cond (eqb (bytes_left h script) 0) []
    (call_text h script
    ++ cond (ends2_3_21 (call_on h script).end) []
    (calls_text n (record_after h script) (drop (call_on h script).used script)))

-- What is printed from a record on. Every call that another follows takes a byte, and those that
-- come to wait were the script's, so there are no more calls than bytes.
abbrev pub listing_from : KeyboardHandler → List ℕ → List ℕ
listing_from h script = calls_text (bytes_left h script) h script

-- What is printed "from a fresh record on".
unfoldable pub listing : List ℕ → List ℕ
listing script = listing_from at_first (take script_limit script)
