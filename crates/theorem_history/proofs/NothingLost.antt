-- Nothing is lost, of either side, for every lamp exchange and every list of calls.
use mathlib.Core.Path.{◌≡◌, refl, ap, sym, subst, ◌∙◌}
use mathlib.Core.List.{List, ◌++◌, append_assoc}
use Prim.Native.Nat.{ℕ}
use lib.ListN.{length, take, drop, take-append-drop}
use Rattle.exchange.specs.Exchange.{Exchange}
use Rattle.exchange.specs.Answer.{Answer}
use Rattle.keyboard_sides.specs.declared.Side.{Side}
use Rattle.keyboard_record.specs.declared.Table.{Table}
use Rattle.keyboard.specs.Rules.{Rules, rules_at}
use Rattle.theorem_history.specs.Past.{Past, nothing, ◌▸◌, each}
use Rattle.theorem_history.specs.Counted.{Call, Lent, own, behind, room, scancode_after, thrown_after, behind_after, joined_after, dropped_after, counted, waits}
use Rattle.theorem_history.specs.Waited.{from_waiting, thrown_away, joined, dropped, taken_waiting}
use Rattle.theorem_history.specs.NothingLost.{in_order, Reported, no_call, one_call, NothingLost}
use Rattle.theorem_history.proofs.Waited.{oldest_taken}
use Rattle.theorem_history.proofs.History.{history}

module _ {A : Type 0} (rules : Rules A) where
  -- ---- those that found room, and the others

  one_reported : {thrown joined : Past (List ℕ)} {reported : Past ℕ} → Reported thrown joined reported → (bytes : Past ℕ) (ws s l : List ℕ)
      → Reported (thrown ▸ thrown_after rules bytes ws s l) (joined ▸ joined_after rules bytes ws s l) (reported ▸ length (dropped_after rules bytes ws s l))
  unfolding joined_after dropped_after
  one_reported {thrown = thrown} {joined = joined} {reported = reported} r bytes ws s l =
      let n = room (behind_after rules bytes ws s l) in
      let all = thrown_after rules bytes ws s l in
      subst (λ (x : List ℕ). Reported (thrown ▸ x) (joined ▸ take n all) (reported ▸ length (drop n all))) (take-append-drop n all)
      (one_call r (drop n all))

  all_reported : (calls : Past Lent) → Reported (thrown_away rules calls) (joined rules calls) (each length (dropped rules calls))
  unfolding thrown_away joined dropped each
  all_reported nothing = no_call
  all_reported (past ▸ x) = one_reported (all_reported past) (counted rules past) (waits rules past) x.script x.log

  -- ---- those that were taken, and those that wait

  all_waited : (calls : Past Lent) → taken_waiting rules calls ++ waits rules calls ≡ in_order (joined rules calls)
  unfolding taken_waiting waits joined in_order behind_after
  all_waited nothing = refl
  all_waited (past ▸ x) =
      let s = x.script in
      let l = x.log in
      let bytes = counted rules past in
      let ws = waits rules past in
      let sc = scancode_after rules bytes ws s l in
      let new = joined_after rules bytes ws s l in
      append_assoc (taken_waiting rules past) (from_waiting sc ws) (behind sc ws ++ new)
      ∙ ap (λ (x : List ℕ). taken_waiting rules past ++ x) (sym (append_assoc (from_waiting sc ws) (behind sc ws) new) ∙ ap (λ (x : List ℕ). x ++ new) (oldest_taken rules bytes ws s l))
      ∙ sym (append_assoc (taken_waiting rules past) ws new)
      ∙ ap (λ (x : List ℕ). x ++ new) (all_waited past)

module _ {A : Type 0} (table : Table) (lamps : Side → ℕ → Exchange (Answer A)) where
  pub nothing_lost : (side : Side) (calls : Past Call) → NothingLost table lamps side calls
  nothing_lost side calls =
      record {
        others_reported = rw ((history table lamps calls).drops side) (all_reported (rules_at table lamps side) (own table.keyboards side calls));
        taken_then_waiting = rw ((history table lamps calls).bytes_waiting side) (all_waited (rules_at table lamps side) (own table.keyboards side calls));
      }
