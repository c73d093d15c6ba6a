-- `handler_words::event_word` meets its contract.
use mathlib.Core.Path.{◌≡◌, ap, ◌∙◌}
use Prim.Native.Nat.{◌+◌, ◌*◌}
use native.Mathlib.Omega.{arith}
use Rattle.handler_words.specs.Words.{event_at, word_of}
use Rattle.handler_words.proofs.Events.{event_at_lem}
use Rattle.handler_words.proofs.event_word.Goals as goal

pub returns : goal.returns
unfolding word_of
returns c =
    let e = c.args.event in
    let q : c.from-2.result + 256 * c.action_word.result + 65536 * c.from-3.result ≡ word_of e = rw (c.from-2.ensures, c.from.ensures, c.action_word.ensures, c.from-3.ensures) in
    (q, ap event_at q ∙ event_at_lem e (omega (arith, c.from-3.type_inv, c.from-3.ensures)))
