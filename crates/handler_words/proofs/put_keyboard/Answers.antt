-- `handler_words::put_keyboard` meets its contract.
use mathlib.Core.Path.{sym, ap, ◌∙◌}
use native.Mathlib.Omega.{arith}
use Rattle.handler_words.specs.Words.{bytes_in}
use Rattle.handler_words.proofs.put_keyboard.Goals as goal

pub returns : goal.returns
returns c =
    let w = c.waiting_words-low.ensures in (
      rw (c.keyboard_at-at.ensures.0, c.from.ensures, c.from-2.ensures, c.from-3.ensures, w.low_is, w.high_is),
      record {
        flags_in = omega (arith, c.from-2.type_inv, c.from-2.ensures);
        count_in = omega (arith, c.from-3.type_inv, c.from-3.ensures);
        low_is = ap (bytes_in 8) (sym w.low_is) ∙ w.low_found;
        high_is = ap (bytes_in 8) (sym w.high_is) ∙ w.high_found;
      },
    )
