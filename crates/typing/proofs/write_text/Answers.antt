-- `typing::write_text` meets its contract: up to each piece the scancodes are written.
use Rattle.std.proofs.Common.{refl, rules, arith, sym, ap, ◌∙◌}
use lib.Seq.{take-length}
use Rattle.std.specs.Option.{is_some}
use Rattle.typing.proofs.Lengths.{count_is_none, count_is_some}
use Rattle.typing.proofs.Writing.{writing_begins, writing_accepted, writing_goes_on, writing_ends}
use Rattle.typing.proofs.write_text.Goals as goal

-- the pieces are those of the whole text (`take-length`: a text cut at its own length is whole)
pub loop-piece-init : goal.loop-piece-init
loop-piece-init g c =
    let all_keys = count_is_some c.args.text.now (search rules) in
    record { room = search rules; writing = writing_begins _ _ _ all_keys.1 (search (rules, take-length)) }

pub put_keys-length-requires : goal.put_keys-length-requires
put_keys-length-requires g c =
    let inv = c.loop-piece.invariant in
    let steps = c.in-Some.ensures.steps in
    writing_accepted inv.writing _ _ steps.1.0 _ (omega (arith, inv.room, steps.1.1))

pub loop-piece-preserved : goal.loop-piece-preserved
loop-piece-preserved g c =
    let inv = c.loop-piece.invariant in
    let steps = c.in-Some.ensures.steps in
    record {
      room = omega (arith, inv.room, steps.0, c.put_keys-length.auto.out);
      writing = writing_goes_on inv.writing _ _ steps.1.0 _ (omega (arith, inv.room, steps.1.1)) c.put_keys-length.ensures (search rules);
    }

pub returns : goal.returns
returns g c = writing_ends g.W.Write.contents c.loop-piece.invariant.writing c.in-None.ensures.steps.1.0

pub returns-then-is_none : goal.returns-then-is_none
returns-then-is_none g c =
    let no_key = count_is_none c.args.text.now (ap is_some (sym c.count_shifted.ensures) ∙ c.if-is_none.ensures) in
    rw no_key (refl, refl)
