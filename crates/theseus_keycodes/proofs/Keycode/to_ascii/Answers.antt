-- `theseus_keycodes::Keycode::to_ascii` meets its contract: each way through it is a case of Shift, Caps Lock and letter.
use mathlib.Core.Path.{sym, ◌∙◌}
use mathlib.Core.Bool.{true, false}
use Rattle.keycodes_ascii.specs.Characters.{writes}
use Rattle.keycodes_ascii.proofs.Chars.{caps_letter, caps_other}
use Rattle.theseus_keycodes.specs.Keycode.{ours}
use Rattle.theseus_keycodes.proofs.Characters.{under}
use Rattle.theseus_keycodes.proofs.Keycode.to_ascii.Goals as goal
use Rattle.theseus_keycodes.proofs.Keycode.to_ascii.Goals.{else-is_caps_lock-via-then-is_caps_lock+else-is_letter, else-is_caps_lock-via-else-is_caps_lock}

pub returns-then-is_letter : goal.returns-then-is_letter
returns-then-is_letter c =
    let k = ours c.args.self.now in
    c.as_ascii.ensures ∙ sym (caps_letter (writes k) true (sym c.is_letter.ensures ∙ c.if-is_letter.true))
    ∙ under k c.args.modifiers (sym c.if-is_shift.true ∙ c.is_shift.ensures) (sym c.if-is_caps_lock.true ∙ c.is_caps_lock.ensures)

pub returns-else-is_caps_lock : goal.returns-else-is_caps_lock
returns-else-is_caps_lock c =
    let k = ours c.args.self.now in
    elim c.else-is_caps_lock.branch [
      | else-is_caps_lock-via-then-is_caps_lock+else-is_letter w ↦
          c.as_ascii_shifted.ensures ∙ sym (caps_other (writes k) true (sym w.is_letter.ensures ∙ w.if-is_letter.false))
          ∙ under k c.args.modifiers (sym c.if-is_shift.true ∙ c.is_shift.ensures) (sym w.if-is_caps_lock.true ∙ c.is_caps_lock.ensures)
      | else-is_caps_lock-via-else-is_caps_lock w ↦
          c.as_ascii_shifted.ensures
          ∙ under k c.args.modifiers (sym c.if-is_shift.true ∙ c.is_shift.ensures) (sym w.if-is_caps_lock.false ∙ c.is_caps_lock.ensures)
    ]

pub returns-then-is_letter-2 : goal.returns-then-is_letter-2
returns-then-is_letter-2 c =
    let k = ours c.args.self.now in
    c.as_ascii_shifted-then-is_letter-2.ensures
    ∙ sym (caps_letter (writes k) false (sym c.is_letter-then-is_caps_lock-2.ensures ∙ c.if-is_letter-2.true))
    ∙ under k c.args.modifiers (sym c.if-is_shift.false ∙ c.is_shift.ensures) (sym c.if-is_caps_lock-2.true ∙ c.is_caps_lock-2.ensures)

pub returns-else-is_letter-2 : goal.returns-else-is_letter-2
returns-else-is_letter-2 c =
    let k = ours c.args.self.now in
    c.as_ascii-else-is_letter-2.ensures
    ∙ sym (caps_other (writes k) false (sym c.is_letter-then-is_caps_lock-2.ensures ∙ c.if-is_letter-2.false))
    ∙ under k c.args.modifiers (sym c.if-is_shift.false ∙ c.is_shift.ensures) (sym c.if-is_caps_lock-2.true ∙ c.is_caps_lock-2.ensures)

pub returns : goal.returns
returns c =
    let k = ours c.args.self.now in
    c.as_ascii-2.ensures ∙ under k c.args.modifiers (sym c.if-is_shift.false ∙ c.is_shift.ensures) (sym c.if-is_caps_lock-2.false ∙ c.is_caps_lock-2.ensures)
