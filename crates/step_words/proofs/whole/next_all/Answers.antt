-- `next_all` meets its contract.
use native.Mathlib.Omega.{arith}
use mathlib.Core.Path.{◌≡◌, ap, ◌∙◌}
use Rattle.std.proofs.Common.{rules}
use Rattle.std.specs.Prelude.{take, drop}
use Rattle.step_words.proofs.Seams.{step_whole}
use Rattle.step_words.proofs.whole.next_all.Goals as goal

pub returns : goal.returns
returns c =
    let w = c.args.words.now in
    let f : c.split_at_mut-fields.result.0.now ≡ take 12 w = search rules in
    let r : c.split_at_mut-fields.result.1.now ≡ drop 12 w = search rules in
    let k : c.split_at_mut-counts.result.0.now ≡ take 4 c.split_at_mut-fields.result.1.now = search rules in
    let s : c.split_at_mut-counts.result.1.now ≡ drop 4 c.split_at_mut-fields.result.1.now = search rules in
    let b : c.split_at_mut-bytes.result.0.now ≡ take 16 c.split_at_mut-counts.result.1.now = search rules in
    let p : c.split_at_mut-bytes.result.1.now ≡ drop 16 c.split_at_mut-counts.result.1.now = search rules in
    let t : c.split_at_mut-counts.result.1.now ≡ drop 4 (drop 12 w) = s ∙ ap (drop 4) r in
    step_whole c.next_in.new.fields c.next_in.new.counts c.next_in.new.bytes c.next_in.new.replies
    (omega (arith, c.next_in.auto.fields, c.split_at_mut-fields.ensures.front_len)) (omega (arith, c.next_in.auto.counts, c.split_at_mut-counts.ensures.front_len)) (omega (arith, c.next_in.auto.bytes, c.split_at_mut-bytes.ensures.front_len))
    w c.split_at_mut-fields.result.0.now c.split_at_mut-counts.result.0.now c.split_at_mut-bytes.result.0.now c.split_at_mut-bytes.result.1.now c.args.byte c.next_in.result
    f (k ∙ ap (take 4) r) (b ∙ ap (take 16) t) (p ∙ ap (drop 16) t) c.next_in.ensures
