-- The promise of typed text, for every text that is accepted, every lamp exchange, a table with one keyboard or two and each side of it: a fresh handler whose events are taken at once, fed the text's scancodes for that side, gives press events whose characters are the text.
use mathlib.Core.Path.{◌≡◌, ap, subst, ◌∙◌}
use mathlib.Core.Bool.{true, false}
use mathlib.Core.List.{List}
use Prim.Native.Nat.{ℕ}
use Rattle.bits.specs.Bits.{put_bit}
use Rattle.exchange.specs.Exchange.{Exchange}
use Rattle.exchange.specs.Answer.{Answer, gives}
use Rattle.typing.specs.Typing.{typed}
use Rattle.typing.proofs.Texts.{keyed}
use Rattle.typing.proofs.Answered.{typed_gives}
use Rattle.keyboard_scancodes.specs.declared.Profile.{Profile}
use Rattle.keyboard_sides.specs.declared.Side.{Side}
use Rattle.keyboard_record.specs.declared.Keyboards.{Keyboards}
use Rattle.keyboard_record.specs.Record.{at_table}
use Rattle.theorem_history.specs.Past.{Past, nothing, onto}
use Rattle.theorem_history.specs.Said.{prefix_said, flags_said, events_given}
use Rattle.theorem_history.specs.Counted.{Call}
use Rattle.theorem_history.proofs.History.{history}
use Rattle.theorem_typed.specs.Fed.{Feeds, characters}
use Rattle.theorem_typed.specs.Played.{unrated, Played}
use Rattle.theorem_typed.proofs.Bytes.{no_bytes, at_first, Says, says_text}
use Rattle.theorem_typed.proofs.Calls.{fed_counted, fed_other, fed_row, fed_taken, fed_quiet}

module _ {A : Type 0} (keyboards : Keyboards) (lamps : Side → ℕ → Exchange (Answer A)) (side : Side) (at : at_table keyboards side ≡ true) where
  by_says : {text : List ℕ} {bytes : Past ℕ} {calls : Past Call} → Says nothing false text bytes → Feeds side bytes calls → Played keyboards lamps side text bytes calls
  unfolding events_given characters put_bit
  by_says {calls = calls} s f =
      let n = s.locks no_bytes in
      let h = history (unrated keyboards) lamps calls in
      let c = fed_counted keyboards lamps side at f n in
      record {
        is_text = ap characters (fed_taken keyboards lamps side at f n side ∙ ap (events_given Profile.Any) c) ∙ s.is_text;
        no_other = λ other d. fed_taken keyboards lamps side at f n other ∙ ap (events_given Profile.Any) (fed_other keyboards lamps side at other d f);
        all_counted = c;
        quiet = fed_quiet keyboards lamps side at f n;
        none_waits = h.queue ∙ fed_row keyboards lamps side at f n;
        no_flags = h.flags side ∙ ap (flags_said Profile.Any) c ∙ s.at.flags;
        no_prefix = h.prefix side ∙ ap prefix_said c ∙ s.at.prefix;
      }

  pub typing_played : (room : ℕ) (text codes : List ℕ) → typed room text ≡ gives codes → (calls : Past Call) → Feeds side (onto nothing codes) calls
      → Played keyboards lamps side text (onto nothing codes) calls
  typing_played room text codes e calls f =
      let k = typed_gives room text codes e in
      by_says (subst (λ (l : List ℕ). Says nothing false text (onto nothing l)) k.2 (says_text (keyed text k.1) at_first)) f
