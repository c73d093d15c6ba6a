-- The history rule over set 2, for every lamp exchange and every list of calls in which the counted scancodes of a side are a converted stream.
use mathlib.Core.Path.{◌≡◌, sym, ap, ◌∙◌, subst, subst⁻¹}
use mathlib.Core.List.{List}
use mathlib.Core.Logic.{⊎_elim}
use Prim.Native.Nat.{ℕ}
use lib.ListN.{take}
use Rattle.exchange.specs.Exchange.{Exchange}
use Rattle.exchange.specs.Answer.{Answer, gives}
use Rattle.ps2_answers.specs.Refusals.{success}
use Rattle.keycodes_ascii.specs.declared.KeyEvent.{KeyEvent}
use Rattle.scancode_set2.specs.Convert.{convert_stream}
use Rattle.scancode_set2.proofs.Laws.{convert_became, convert_done}
use Rattle.keyboard_sides.specs.declared.Side.{Side}
use Rattle.keyboard_sides.specs.Named.{of_side}
use Rattle.keyboard_record.specs.declared.Table.{Table}
use Rattle.theorem_history.specs.Past.{Past, nothing, onto}
use Rattle.theorem_history.specs.Counted.{Call, counted_of}
use Rattle.theorem_history.specs.Row.{Given, events, less_met}
use Rattle.theorem_history.proofs.History.{history}
use Rattle.theorem_history.proofs.Own.{same_side_lem, which_side}
use Rattle.theorem_history_set2.specs.Turns.{each_set2, each_said, row_of, given_of, meets_of, removed_of}
use Rattle.theorem_history_set2.specs.HistorySet2.{codes_of, RowSaid, one_set2, HistorySet2, BothSet2}
use Rattle.theorem_history_set2.proofs.Alike.{Reads, reads_all, prefix_reads, flags_reads, events_reads, each_reads}
use Rattle.theorem_history_set2.proofs.Turns.{row_turns, given_turns, meets_turns, removed_turns, turns_same}

module _ {A : Type 0} (table : Table) (lamps : Side → ℕ → Exchange (Answer A)) where
  -- the row, by whatever says what the counted scancodes give
  pub row_said : (calls : Past Call) (said : Side → Past (List KeyEvent)) → ((t : Side) → said t ≡ each_said table.profile (counted_of table lamps t calls)) → RowSaid table lamps calls said
  row_said calls said is =
      let h = history table lamps calls in
      let t = turns_same table lamps calls said is in
      record {
        taking_answers = h.taking_answers ∙ removed_turns table lamps calls ∙ ap (removed_of table) t;
        queue = h.queue ∙ row_turns table lamps calls ∙ ap (row_of table) t;
        taken_then_waiting = h.taken_then_waiting ∙ ap less_met (given_turns table lamps calls ∙ ap (given_of table) t);
        answers_20 = h.answers_20 ∙ meets_turns table lamps 20 calls ∙ ap (meets_of table 20) t;
        answers_31 = h.answers_31 ∙ meets_turns table lamps 31 calls ∙ ap (meets_of table 31) t;
        answers_33 = h.answers_33 ∙ meets_turns table lamps 33 calls ∙ ap (meets_of table 33) t;
      }

  module _ (side : Side) (calls : Past Call) (stream : List ℕ) (r : Reads (codes_of stream) (counted_of table lamps side calls)) where
    abbrev OneSays : Side → Type 0
    OneSays t = one_set2 table lamps side stream calls t ≡ each_said table.profile (counted_of table lamps t calls)

    own_says : OneSays side
    own_says = rw (same_side_lem side) (sym (each_reads table.profile r))

    one_says : (t : Side) → OneSays t
    one_says t = ⊎_elim (λ e. subst OneSays (sym e) own_says) (λ d. rw d.1) (which_side t side)

    by_reads : HistorySet2 table lamps side calls stream
    by_reads =
        let h = history table lamps calls in
        record {
          flags = h.flags side ∙ flags_reads table.profile r;
          prefix = h.prefix side ∙ prefix_reads r;
          code_order =
              ap (λ (g : List Given). of_side side (events g)) (sym (given_turns table lamps calls ∙ ap (given_of table) (turns_same table lamps calls (one_set2 table lamps side stream calls) one_says)))
              ∙ h.byte_order side ∙ events_reads table.profile r;
          row = row_said calls (one_set2 table lamps side stream calls) one_says;
        }

  by_both : (calls : Past Call) (streams : Side → List ℕ) → ((side : Side) → Reads (codes_of (streams side)) (counted_of table lamps side calls))
      → BothSet2 table lamps calls streams
  by_both calls streams rs =
      record {
        each_side = λ side. by_reads side calls (streams side) (rs side);
        row = row_said calls (λ side. each_set2 table.profile (codes_of (streams side))) (λ side. sym (each_reads table.profile (rs side)));
      }

  -- ---- what was used of a stream, however its conversion ended

  abbrev Converted : Side → Past Call → List ℕ → ℕ → Type 0
  Converted side calls stream room = counted_of table lamps side calls ≡ onto nothing (convert_stream stream room).bytes

  abbrev used : List ℕ → ℕ → List ℕ
  used stream room = take (convert_stream stream room).used stream

  used_reads : (side : Side) (calls : Past Call) (stream : List ℕ) (room : ℕ) → Converted side calls stream room → Reads (codes_of (used stream room)) (counted_of table lamps side calls)
  used_reads side calls stream room e = subst⁻¹ (λ (bytes : Past ℕ). Reads (codes_of (used stream room)) bytes) e (reads_all (convert_became stream room))

  pub history_set2_used : (side : Side) (calls : Past Call) (stream : List ℕ) (room : ℕ) → Converted side calls stream room → HistorySet2 table lamps side calls (used stream room)
  history_set2_used side calls stream room e = by_reads side calls (used stream room) (used_reads side calls stream room e)

  pub both_set2_used : (calls : Past Call) (streams : Side → List ℕ) (rooms : Side → ℕ) → ((side : Side) → Converted side calls (streams side) (rooms side))
      → BothSet2 table lamps calls (λ side. used (streams side) (rooms side))
  both_set2_used calls streams rooms es = by_both calls (λ side. used (streams side) (rooms side)) (λ side. used_reads side calls (streams side) (rooms side) (es side))

  -- ---- a stream that was converted whole

  whole_reads : (side : Side) (calls : Past Call) (stream : List ℕ) (room : ℕ) → Converted side calls stream room → (convert_stream stream room).end ≡ gives success
      → Reads (codes_of stream) (counted_of table lamps side calls)
  whole_reads side calls stream room e d =
      subst (λ (l : List ℕ). Reads (codes_of l) (counted_of table lamps side calls)) (convert_done stream room d) (used_reads side calls stream room e)

  pub history_set2 : (side : Side) (calls : Past Call) (stream : List ℕ) (room : ℕ) → Converted side calls stream room → (convert_stream stream room).end ≡ gives success
      → HistorySet2 table lamps side calls stream
  history_set2 side calls stream room e d = by_reads side calls stream (whole_reads side calls stream room e d)

  pub both_set2 : (calls : Past Call) (streams : Side → List ℕ) (rooms : Side → ℕ) → ((side : Side) → Converted side calls (streams side) (rooms side))
      → ((side : Side) → (convert_stream (streams side) (rooms side)).end ≡ gives success) → BothSet2 table lamps calls streams
  both_set2 calls streams rooms es ds = by_both calls streams (λ side. whole_reads side calls (streams side) (rooms side) (es side) (ds side))
