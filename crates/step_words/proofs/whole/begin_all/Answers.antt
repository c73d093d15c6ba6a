-- `begin_all` meets its contract.
use native.Mathlib.Omega.{arith}
use Rattle.step_words.proofs.Seams.{begin_whole}
use Rattle.step_words.proofs.whole.begin_all.Goals as goal

pub returns : goal.returns
returns c =
    begin_whole c.begin_in.new.fields c.begin_in.new.counts c.begin_in.new.bytes c.split_at_mut-bytes.result.1.now
    (omega (arith, c.begin_in.auto.fields, c.split_at_mut-fields.ensures.front_len)) (omega (arith, c.begin_in.auto.counts, c.split_at_mut-counts.ensures.front_len)) (omega (arith, c.begin_in.auto.bytes, c.split_at_mut-bytes.ensures.front_len))
    c.args.operation c.begin_in.result c.begin_in.ensures
