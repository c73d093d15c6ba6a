-- `ps2_command::command_pair_acknowledged` meets its contract: nothing is done, or both commands are.
use mathlib.Core.Path.{◌≡◌, sym, ap, ◌∙◌}
use Prim.Native.Nat.{◌+◌}
use lib.ListN.{drop}
use Rattle.std.specs.Prelude.{Some}
use Rattle.std.specs.Option.{option_map}
use Rattle.exchange.proofs.Parts.{part_drop}
use Rattle.ps2_bytes.specs.Writable.{to_device}
use Rattle.ps2_answers.specs.Refusals.{success}
use Rattle.ps2_answers.specs.Answers.{counted}
use Rattle.ps2_command.specs.Answering.{acknowledged, TwoWritten}
use Rattle.ps2_command.proofs.Accepted.{both_heard}
use Rattle.ps2_command.proofs.command_pair_acknowledged.Goals as goal

pub returns : goal.returns
returns c =
    let a = c.args in
    let u = c.in_ok-once.once in
    let v = c.in_ok-twice.twice in
    let w : TwoWritten a.port (to_device a.first) (to_device a.second) a.log.now _ _ = rw (c.from.ensures, c.from-2.ensures) at c.two_to.ensures in
    let first : acknowledged a.script.now ≡ Some u = sym c.acknowledged.ensures.is ∙ c.in_ok-once.was in
    let second : acknowledged (drop u a.script.now) ≡ Some v = ap acknowledged (sym (part_drop u a.script.now)) ∙ sym c.acknowledged-2.ensures.is ∙ c.in_ok-twice.was in
    both_heard a.port a.first a.second a.script.now a.log.now u v first second w _ (ap (λ n. option_map (λ m. counted success (u + v) m) n) (sym c.in_ok-pairs.was))
