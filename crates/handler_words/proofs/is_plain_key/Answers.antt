-- `handler_words::is_plain_key` meets its contract: each part is asked in turn.
use mathlib.Core.Bool.{true≢false}
use mathlib.Core.Path.{sym, ◌∙◌}
use Rattle.keyboard_scancodes.proofs.Plain.{plain_not_silent, plain_lamps}
use Rattle.handler_words.proofs.is_plain_key.Goals as goal
use Rattle.handler_words.proofs.is_plain_key.Goals.{then-is_from_script, else-is_from_script}

pub returns-then-is_plain : goal.returns-then-is_plain
returns-then-is_plain c =
    let ready = sym c.is_ready.ensures in
    elim c.if-is_from_script.branch [
      | then-is_from_script w ↦
          let plain = sym w.is_plain.ensures ∙ sym w.value-is ∙ c.if-is_plain.true in
          record {
            is_so = λ e.
                record {
                  alone = record { taken = c.is_from_script.ensures.is_so w.if-is_from_script.true; not_silent = plain_not_silent _ plain; no_lamps = plain_lamps _ plain };
                  plain = plain;
                  ready = ready ∙ e;
                };
            is_not = λ e p. true≢false (sym p.ready ∙ ready ∙ e);
          }
      | else-is_from_script w ↦ absurd (true≢false (sym c.if-is_plain.true ∙ w.value-is ∙ w.if-is_from_script.false))
    ]
