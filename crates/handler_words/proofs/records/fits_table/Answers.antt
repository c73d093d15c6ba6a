-- `handler_words::records::fits_table` meets its contract.
use mathlib.Core.Path.{refl}
use borrow.Author.Tests.{lt-ltb, le-ltb, eq-eqb, ne_eqb}
use Rattle.handler_words.specs.Records.{holds_table}
use Rattle.handler_words.proofs.records.fits_table.Goals as goal

pub returns-then-keyboards-eq1 : goal.returns-then-keyboards-eq1
unfolding holds_table
returns-then-keyboards-eq1 c = rw (lt-ltb _ _ c.if-words-lt2.true, eq-eqb _ 1 c.if-keyboards-eq1.true) refl

pub returns-else-keyboards-eq1 : goal.returns-else-keyboards-eq1
unfolding holds_table
returns-else-keyboards-eq1 c = rw (lt-ltb _ _ c.if-words-lt2.true, ne_eqb _ 1 c.if-keyboards-eq1.false) refl

pub returns-else-words-lt2 : goal.returns-else-words-lt2
unfolding holds_table
returns-else-words-lt2 c = rw (le-ltb _ _ c.if-words-lt2.false) refl
