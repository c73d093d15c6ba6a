-- `bytes_words::is_keycode` meets its contract.
use Rattle.keycodes_ascii.specs.Keycode.{keycodes, numbered, keycode_of}
use Rattle.std.proofs.Common.{rules}
use Rattle.bytes_words.proofs.Known.{known_low, unknown_other}
use Rattle.bytes_words.proofs.is_keycode.Goals as goal

pub returns-then-keycode-le93 : goal.returns-then-keycode-le93
returns-then-keycode-le93 c = known_low c.args.keycode c.if-keycode-le93.true

pub returns-in_default : goal.returns-in_default
returns-in_default c = unknown_other c.args.keycode c.if-keycode-le93.false (search rules)

pub returns-in-157 : goal.returns-in-157
unfolding keycode_of numbered keycodes
returns-in-157 c = rw c.in-157.is

pub returns-in-170 : goal.returns-in-170
unfolding keycode_of numbered keycodes
returns-in-170 c = rw c.in-170.is

pub returns-in-182 : goal.returns-in-182
unfolding keycode_of numbered keycodes
returns-in-182 c = rw c.in-182.is

pub returns-in-184 : goal.returns-in-184
unfolding keycode_of numbered keycodes
returns-in-184 c = rw c.in-184.is

pub returns-in-219 : goal.returns-in-219
unfolding keycode_of numbered keycodes
returns-in-219 c = rw c.in-219.is

pub returns-in-220 : goal.returns-in-220
unfolding keycode_of numbered keycodes
returns-in-220 c = rw c.in-220.is
