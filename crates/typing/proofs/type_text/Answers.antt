-- `typing::type_text` meets its contract: 25, then 26, then the scancodes are put.
use native.Mathlib.Omega.{arith}
use mathlib.Core.Path.{sym, ◌∙◌}
use Rattle.typing.specs.declared.TypingRefusal.TheVariants.{NoKey, OutputShort}
use Rattle.typing.proofs.Lengths.{typed_no_key, count_none, count_some, short_text, short_shift, accepted, refused}
use Rattle.typing.proofs.type_text.Goals as goal
use Rattle.typing.proofs.type_text.Goals.{then-room-text-via-then-room-text, then-room-text-via-else-room-text+then-room-text-2}

pub returns-in_default : goal.returns-in_default
returns-in_default c = refused _ _ NoKey (typed_no_key _ _ (count_none _ (sym c.count_shifted.ensures ∙ c.in_default.is)))

pub returns-then-room-text : goal.returns-then-room-text
returns-then-room-text c =
    let counted = count_some _ _ (sym c.count_shifted.ensures ∙ c.in-Some.is) in
    elim c.then-room-text.branch [
      | then-room-text-via-then-room-text w ↦ refused _ _ OutputShort (short_text counted _ w.if-room-text.true)
      | then-room-text-via-else-room-text+then-room-text-2 w ↦ refused _ _ OutputShort (short_shift counted _ w.if-room-text-2.true)
    ]

pub put_keys-requires : goal.put_keys-requires
put_keys-requires c = accepted (count_some _ _ (sym c.count_shifted.ensures ∙ c.in-Some.is)) _ c.if-room-text.false (omega arith)
