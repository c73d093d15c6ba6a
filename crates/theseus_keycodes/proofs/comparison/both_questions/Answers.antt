-- `both_questions` meets its contract: a flag of ours is the Rust's of the same name.
use mathlib.Core.Path.{sym, ◌∙◌}
use Rattle.theseus_keycodes.proofs.Questions.{shift_is, control_is, alt_is, alt_gr_is, super_key_is, caps_lock_is, num_lock_is, scroll_lock_is}
use Rattle.theseus_keycodes.proofs.comparison.both_questions.Goals as goal

pub returns-clause-shift : goal.returns-clause-shift
returns-clause-shift c same = c.is_shift.ensures ∙ rw same (shift_is c.args.modifiers.bits) ∙ sym c.is_shift-2.ensures

pub returns-clause-control : goal.returns-clause-control
returns-clause-control c same = c.is_control.ensures ∙ rw same (control_is c.args.modifiers.bits) ∙ sym c.is_control-2.ensures

pub returns-clause-alt : goal.returns-clause-alt
returns-clause-alt c same = c.is_alt.ensures ∙ rw same (alt_is c.args.modifiers.bits) ∙ sym c.is_alt-2.ensures

pub returns-clause-alt_gr : goal.returns-clause-alt_gr
returns-clause-alt_gr c same = c.is_alt_gr.ensures ∙ rw same (alt_gr_is c.args.modifiers.bits) ∙ sym c.is_alt_gr-2.ensures

pub returns-clause-super_key : goal.returns-clause-super_key
returns-clause-super_key c same = c.is_super_key.ensures ∙ rw same (super_key_is c.args.modifiers.bits) ∙ sym c.is_super_key-2.ensures

pub returns-clause-caps_lock : goal.returns-clause-caps_lock
returns-clause-caps_lock c same = c.is_caps_lock.ensures ∙ rw same (caps_lock_is c.args.modifiers.bits) ∙ sym c.is_caps_lock-2.ensures

pub returns-clause-num_lock : goal.returns-clause-num_lock
returns-clause-num_lock c same = c.is_num_lock.ensures ∙ rw same (num_lock_is c.args.modifiers.bits) ∙ sym c.is_num_lock-2.ensures

pub returns-clause-scroll_lock : goal.returns-clause-scroll_lock
returns-clause-scroll_lock c same = c.is_scroll_lock.ensures ∙ rw same (scroll_lock_is c.args.modifiers.bits) ∙ sym c.is_scroll_lock-2.ensures
