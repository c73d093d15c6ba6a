-- `keyboard::event_of` meets its contract: bytes from 80 up are releases.
use borrow.Author.Tests.{lt-ltb, le-ltb}
use Rattle.keyboard_scancodes.specs.Events.{event_of}
use Rattle.keyboard.proofs.event_of.Goals as goal

pub returns-then-scan_code-lt-KEY_RELEASED_OFFSET : goal.returns-then-scan_code-lt-KEY_RELEASED_OFFSET
unfolding event_of
returns-then-scan_code-lt-KEY_RELEASED_OFFSET c = rw (c.requires, lt-ltb _ 128 c.if-scan_code-lt-KEY_RELEASED_OFFSET.true)

pub returns-else-scan_code-lt-KEY_RELEASED_OFFSET : goal.returns-else-scan_code-lt-KEY_RELEASED_OFFSET
unfolding event_of
returns-else-scan_code-lt-KEY_RELEASED_OFFSET c = rw (c.requires, le-ltb _ 128 c.if-scan_code-lt-KEY_RELEASED_OFFSET.false)
