-- `handler_words::queue_key` meets its contract: 19, then what the queue says.
use mathlib.Core.Bool.{true}
use mathlib.Core.Path.{◌≡◌, refl, sym, ap, ◌∙◌}
use borrow.Author.Tests.{le-leb, lt-leb}
use Rattle.keyboard_scancodes.specs.Events.{last_keycode, is_known}
use Rattle.keyboard_scancodes.specs.Strokes.{low_part}
use Rattle.keyboard_record.specs.Queue.{said_room, free_place}
use Rattle.handler_words.proofs.Alone.{unknown, kept_out, joins}
use Rattle.handler_words.proofs.queue_key.Goals as goal
use Rattle.handler_words.proofs.queue_key.Goals.{Else-scan_code-gt-LAST_KEYCODE}

pub returns-then-scan_code-gt-LAST_KEYCODE : goal.returns-then-scan_code-gt-LAST_KEYCODE
returns-then-scan_code-gt-LAST_KEYCODE c =
    let a = c.args in
    unknown a.side a.left a.scan_code a.modifiers.bits (free_place a.left) a.words.now (lt-leb (low_part a.scan_code) last_keycode c.if-scan_code-gt-LAST_KEYCODE.true)

-- past the first question the key has an event
known : (c : Else-scan_code-gt-LAST_KEYCODE) → is_known c.args.scan_code ≡ true
known c = le-leb (low_part c.args.scan_code) last_keycode c.if-scan_code-gt-LAST_KEYCODE.false

pub put_key-requires : goal.put_key-requires
put_key-requires c = (known (goal.at.put_key-requires c).Else-scan_code-gt-LAST_KEYCODE, c.requires.0)

pub returns-in-Ok : goal.returns-in-Ok
returns-in-Ok c =
    let a = c.args in
    joins a.side a.left a.scan_code a.modifiers.bits (free_place a.left) a.words.now (known (goal.at.returns-in-Ok c).Else-scan_code-gt-LAST_KEYCODE) c.requires.1 (sym (ap said_room c.in-Ok.is) ∙ c.room_of.ensures) c.put_key.ensures

pub returns-in-Err-OutsideProfile : goal.returns-in-Err-OutsideProfile
returns-in-Err-OutsideProfile c =
    let a = c.args in
    kept_out a.side a.left a.scan_code a.modifiers.bits (free_place a.left) a.words.now (known (goal.at.returns-in-Err-OutsideProfile c).Else-scan_code-gt-LAST_KEYCODE) c.requires.1 (sym (ap said_room (rw c.in-Err-OutsideProfile.field-0-is at c.in-Err-OutsideProfile.is)) ∙ c.room_of.ensures) refl

pub returns-in-Err-SideFull : goal.returns-in-Err-SideFull
returns-in-Err-SideFull c =
    let a = c.args in
    kept_out a.side a.left a.scan_code a.modifiers.bits (free_place a.left) a.words.now (known (goal.at.returns-in-Err-SideFull c).Else-scan_code-gt-LAST_KEYCODE) c.requires.1 (sym (ap said_room (rw c.in-Err-SideFull.field-0-is at c.in-Err-SideFull.is)) ∙ c.room_of.ensures) refl

pub returns-in-Err-QueueFull : goal.returns-in-Err-QueueFull
returns-in-Err-QueueFull c =
    let a = c.args in
    kept_out a.side a.left a.scan_code a.modifiers.bits (free_place a.left) a.words.now (known (goal.at.returns-in-Err-QueueFull c).Else-scan_code-gt-LAST_KEYCODE) c.requires.1 (sym (ap said_room (rw c.in-Err-QueueFull.field-0-is at c.in-Err-QueueFull.is)) ∙ c.room_of.ensures) refl
