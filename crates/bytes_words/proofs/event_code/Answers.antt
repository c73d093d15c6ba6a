-- `bytes_words::event_code` meets its contract.
use mathlib.Core.Path.{sym, ◌∙◌}
use Rattle.keycodes_ascii.specs.Keycode.{keycode_of}
use Rattle.bytes_words.proofs.Known.{no_action_event, number_event}
use Rattle.bytes_words.proofs.event_code.Goals as goal

pub returns-in-Some : goal.returns-in-Some
returns-in-Some c =
    rw (sym c.action_of.ensures ∙ c.in-Some.is)
    (c.code_of.ensures ∙ number_event c.args.keycode c.in-Some.done (sym c.is_keycode.ensures ∙ c.if-not-is_keycode.false))

pub returns-in-None : goal.returns-in-None
returns-in-None c = rw (sym c.action_of.ensures ∙ c.in-None.is) (no_action_event (keycode_of c.args.keycode))
