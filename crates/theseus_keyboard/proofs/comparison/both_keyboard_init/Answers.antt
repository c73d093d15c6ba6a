-- The two agree, since each tells the operation's play; and a fresh record is what the Rust's statics begin with.
use mathlib.Core.Path.{refl, sym, subst}
use Rattle.bits.specs.Bits.{odd, bit, put_bit}
use Rattle.keyboard_init.specs.KeyboardInit.{keyboard_init}
use Rattle.keyboard_record.specs.declared.Table.{Table}
use Rattle.keyboard_record.specs.Queue.{round}
use Rattle.keyboard_record.specs.Record.{fresh}
use Rattle.theseus_keycodes.specs.Flags.{renumbered_by}
use Rattle.theseus_ps2.proofs.Agreed.{agree_run}
use Rattle.theseus_keyboard.specs.Both.{FreshAlike}
use Rattle.theseus_keyboard.proofs.comparison.both_keyboard_init.Goals as goal

pub returns-clause-agree : goal.returns-clause-agree
returns-clause-agree c = agree_run keyboard_init _ _ _ _ c.start-controller.ensures c.rusts_init-rusts.ensures c.keyboard_init-ours.ensures.0

fresh_alike : (table : Table) → FreshAlike (fresh table)
unfolding round renumbered_by bit odd put_bit
fresh_alike table = record { prefix_is = refl; flags_are = refl; queue_is = refl }

pub returns-clause-fresh : goal.returns-clause-fresh
returns-clause-fresh c = subst FreshAlike (sym c.keyboard_init-ours.ensures.1) (fresh_alike c.args.table)
