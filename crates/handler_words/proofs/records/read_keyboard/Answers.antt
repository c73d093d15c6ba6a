-- `handler_words::records::read_keyboard` meets its contract.
use mathlib.Core.Path.{refl}
use native.Mathlib.Omega.{arith}
use Rattle.handler_words.specs.Words.{keyboard_in}
use Rattle.handler_words.proofs.WholeRecords.{found_below, none_below, prefix_unfit, flags_unfit, count_unfit, keyboard_fits_in}
use Rattle.handler_words.proofs.records.read_keyboard.Goals as goal

pub returns-then-words-at-gt1 : goal.returns-then-words-at-gt1
returns-then-words-at-gt1 c = rw (← c.keyboard_at-at.ensures.0) (prefix_unfit c.args.words.now _ c.if-words-at-gt1.true)

pub returns-in_err-bits : goal.returns-in_err-bits
returns-in_err-bits c = rw (c.from_residual.ensures, ← c.keyboard_at-at.ensures.0) (flags_unfit c.args.words.now _ (none_below _ _ c.flags_in.ensures c.in_err-bits.was))

pub returns-in_err-count : goal.returns-in_err-count
returns-in_err-count c =
    rw (c.from_residual-in_err-count.ensures, ← c.keyboard_at-at.ensures.0) (count_unfit c.args.words.now _ (none_below _ _ c.count_in.ensures c.in_err-count.was))

pub returns : goal.returns
unfolding keyboard_in
returns c =
    let flags = found_below _ _ c.flags_in.ensures c.in_ok-bits.was in
    let count = found_below _ _ c.count_in.ensures c.in_ok-count.was in
    rw (← c.keyboard_at-at.ensures.0)
    (keyboard_fits_in c.args.words.now _ (omega (arith, c.if-words-at-gt1.false)) flags.1 count.1, rw (c.waiting_in.ensures, flags.0, count.0) refl)
