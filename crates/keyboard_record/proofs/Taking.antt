-- The cases of a taking from the queue.
use mathlib.Core.Path.{◌≡◌, refl}
use mathlib.Core.Bool.{true, false, cond}
use mathlib.Core.Logic.{⊎_elim}
use mathlib.Core.Option.{none, some}
use lib.Dec.{eqb}
use Rattle.exchange.specs.Answer.{gives, refuses, number_answered}
use Rattle.exchange.specs.Left.{left}
use Rattle.keyboard_scancodes.proofs.Tests.{which}
use Rattle.keyboard_sides.specs.declared.Side.{Side}
use Rattle.keyboard_record.specs.declared.KeyboardHandler.{KeyboardHandler}
use Rattle.keyboard_record.specs.Queue.{oldest, without_oldest}
use Rattle.keyboard_record.specs.Record.{keyboard_at, well_formed}
use Rattle.keyboard_record.specs.Taking.{taken}
use Rattle.keyboard_record.proofs.AtSides.{keyboard_at_left}

pub taken_malformed : (h : KeyboardHandler) → well_formed h.state ≡ false → taken h ≡ left (refuses 21) h
unfolding taken
taken_malformed h w = rw w

module _ (h : KeyboardHandler) (w : well_formed h.state ≡ true) where
  pub taken_none : eqb h.state.count 0 ≡ true → taken h ≡ left (gives none) h
  unfolding taken
  taken_none e = rw (w, e)

  pub taken_one : eqb h.state.count 0 ≡ false → taken h ≡ left (gives (some (oldest h))) (without_oldest h)
  unfolding taken
  taken_one e = rw (w, e)

-- a taking leaves both keyboards as they are, and the table
taken_cases : (P : KeyboardHandler → Type 0) (h : KeyboardHandler) → P h → P (without_oldest h) → P (taken h).now
taken_cases P h p q =
    ⊎_elim
    (λ w. ⊎_elim (λ e. rw (taken_none h w e) p) (λ e. rw (taken_one h w e) q) (which (eqb h.state.count 0)))
    (λ w. rw (taken_malformed h w) p)
    (which (well_formed h.state))

pub table_taken : (h : KeyboardHandler) → (taken h).now.state.table ≡ h.state.table
table_taken h = taken_cases (λ (g : KeyboardHandler). g.state.table ≡ h.state.table) h refl refl

pub keyboard_at-taken : (t : Side) (h : KeyboardHandler) → keyboard_at t (taken h).now.state ≡ keyboard_at t h.state
keyboard_at-taken t h = taken_cases (λ (g : KeyboardHandler). keyboard_at t g.state ≡ keyboard_at t h.state) h refl (keyboard_at_left t h)

-- 21 is answered exactly where the record is malformed
pub taken_number : (h : KeyboardHandler) → number_answered (taken h).answer ≡ cond (well_formed h.state) 0 21
taken_number h =
    ⊎_elim
    (λ w. ⊎_elim (λ e. rw (taken_none h w e, w)) (λ e. rw (taken_one h w e, w)) (which (eqb h.state.count 0)))
    (λ w. rw (taken_malformed h w, w))
    (which (well_formed h.state))
