-- The record of the controller that the Rust's static is.
use Rattle.std.specs.Prelude.{cond, Bool, true}
use Rattle.ps2_init.specs.declared.PS2Controller.{PS2Controller}
use Rattle.theseus_ps2.specs.declared.both_init.Completed.{Completed}

-- Once it is completed, its flags; until then there is none, and the record is as passed in.
abbrev pub record_of : Bool → Bool → Bool → PS2Controller → PS2Controller
record_of completed keyboard mouse passed = cond completed
    (record { initialized = true; keyboard_attached = keyboard; mouse_attached = mouse }) passed

abbrev pub record_left : PS2Controller → Completed → PS2Controller
record_left passed s = record_of s.is_completed s.keyboard_attached s.mouse_attached passed
