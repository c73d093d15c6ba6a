-- "The profile is chosen by the call that makes a fresh handler and changed by no other": on any record, which no fresh one needs to have led to, no list of calls and takings changes what the table is laid with.
use mathlib.Core.Path.{◌≡◌, refl, ◌∙◌}
use mathlib.Core.List.{List, [], ◌∷◌}
use Prim.Native.Nat.{ℕ}
use Rattle.exchange.specs.Exchange.{Exchange}
use Rattle.exchange.specs.Answer.{Answer}
use Rattle.keyboard_sides.specs.declared.Side.{Side}
use Rattle.keyboard_record.specs.declared.KeyboardHandler.{KeyboardHandler}
use Rattle.keyboard_record.specs.declared.Table.{Table}
use Rattle.keyboard_record.proofs.Taking.{table_taken}
use Rattle.keyboard.specs.Handler.{handled}
use Rattle.keyboard.proofs.Formed.{same_table}
use Rattle.theorem_history.specs.Counted.{Call, handling, taking}
use Rattle.theorem_history.specs.Run.{leaves, run}

module _ {A : Type 0} (table : Table) (lamps : Side → ℕ → Exchange (Answer A)) where
  leaves_table : (h : KeyboardHandler) (call : Call) → (leaves table lamps h call).state.table ≡ h.state.table
  unfolding leaves handled
  leaves_table h (handling side script log) = same_table lamps side h.state script log
  leaves_table h taking = table_taken h

  pub run_table : (calls : List Call) (h : KeyboardHandler) → (run table lamps h calls).state.table ≡ h.state.table
  unfolding run
  run_table [] h = refl
  run_table (call ∷ calls) h = run_table calls (leaves table lamps h call) ∙ leaves_table h call
