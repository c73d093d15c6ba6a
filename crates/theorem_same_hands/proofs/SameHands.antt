-- Same hands, same flags: by the history rule both runs have the flags and the prefix that the one list says, read under the one profile.
use mathlib.Core.Path.{ap, ap₂, sym, ◌∙◌}
use Prim.Native.Nat.{ℕ}
use Rattle.keyboard_scancodes.specs.declared.Profile.{Profile}
use Rattle.keyboard_sides.specs.declared.Side.{Side}
use Rattle.theorem_history.specs.Past.{Past}
use Rattle.theorem_history.specs.Said.{prefix_said, flags_said}
use Rattle.theorem_history.proofs.History.{history}
use Rattle.theorem_same_hands.specs.SameHands.{Run, SameProfile, Agree, SameHands}

pub same_hands : {A B : Type 0} (side : Side) (one : Run A) (other : Run B) → SameProfile one other → Agree side one other → SameHands side one other
same_hands side one other profile agree =
    let of_one = history one.table one.lamps one.calls in
    let of_other = history other.table other.lamps other.calls in
    record {
      flags = of_one.flags side ∙ ap₂ {C = ℕ} (λ (p : Profile) (bytes : Past ℕ). flags_said p bytes) profile agree ∙ sym (of_other.flags side);
      prefix = of_one.prefix side ∙ ap prefix_said agree ∙ sym (of_other.prefix side);
    }
