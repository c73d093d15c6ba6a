-- The law for a handler call on a lent record's numbers.
use Prim.Native.Nat.{ℕ}
use mathlib.Core.List.{List}
use mathlib.Core.Option.{none, some}
use mathlib.Core.Path.{◌≡◌}
use lib.ListN.{length, take}
use Rattle.exchange.specs.Exchange.{End, told_end, play}
use Rattle.exchange.specs.Answer.{number_answered, number_ended}
use Rattle.keyboard_sides.specs.declared.Side.{Side}
use Rattle.keyboard.specs.Handler.{Outcome, end_outcome, handle, effects, log_left, handled}
use Rattle.keyboard.specs.KeyboardLamps.{keyboard_lamps}
use Rattle.port_words.specs.Told.{port_lacked}
use Rattle.handler_words.specs.declared.HandledWords.{HandledWords}
use Rattle.handler_words.specs.Layout.{words_length}
use Rattle.handler_words.specs.Words.{state_of}
use Rattle.handler_words.specs.Arguments.{side_at}
use Rattle.handler_words.specs.Calls.{words_left, SideHandled, AtSide, WordsHandled}
use Rattle.theorem_cut_scripts.specs.CutShort.{Handed, handed, next_port, CutShort}
use Rattle.theorem_cut_scripts.specs.Words.{WordsBack, words_back, two_words}
use Rattle.theorem_cut_scripts.proofs.CutShort.{handed_by, cut_short}

abbrev tell_words : Side → List ℕ → End Outcome → WordsBack
tell_words side ws e =
    let o = end_outcome (state_of ws) e in
    let end = told_end (λ x. x.answer) e in
    record {
      refusal = number_ended end;
      lamps = number_answered o.lamps;
      dropped = o.dropped;
      port = port_lacked end;
      words = words_left side ws (record { end = end; lamps = o.lamps; used = 0; pairs = 0; state = o.state; event = o.event; dropped = o.dropped });
    }

module _ (ws : List ℕ) (n : ℕ) (script log : List ℕ) where
  abbrev handed_words : HandledWords → List ℕ → List ℕ → Handed WordsBack
  handed_words r us l = handed (words_back r us) r.used r.pairs l

  handed_words_lem : (side : Side) (bytes : List ℕ) {r : HandledWords} {us l : List ℕ} → SideHandled side ws bytes log r us l
      → handed_words r us l ≡ handed_by (tell_words side ws) (play (handle keyboard_lamps side (state_of ws)) bytes log)
  unfolding handled effects log_left words_left
  handed_words_lem side bytes c = rw (c.answered, c.writes, c.logged)

  side_cut : (side : Side) {r r' : HandledWords} {us us' l l' : List ℕ} → SideHandled side ws script log r us l → SideHandled side ws (take n script) log r' us' l'
      → CutShort n (two_words ws (next_port n (handle keyboard_lamps side (state_of ws)) script log)) log (handed_words r us l) (handed_words r' us' l')
  unfolding words_left
  side_cut side c c' =
      cut_short (tell_words side ws) (handle keyboard_lamps side (state_of ws)) n script log (handed_words_lem side script c) (handed_words_lem side (take n script) c')

  module _ {r r' : HandledWords} {us us' l l' : List ℕ} where
    same_back : {x : HandledWords} → (r ≡ x) × (us ≡ ws) × (l ≡ log) → (r' ≡ x) × (us' ≡ ws) × (l' ≡ log) → handed_words r' us' l' ≡ handed_words r us l
    same_back p q = rw (p.0, p.1, p.2, q.0, q.1, q.2)

    -- for a side: on 144 numbers; any other length is refused before a byte is read, so with fewer bytes all the same is handed back
    module _ {side : Side} (c : AtSide (some side) ws script log r us l) (c' : AtSide (some side) ws (take n script) log r' us' l') where
      pub handle_at_cut : length ws ≡ words_length → CutShort n (two_words ws (next_port n (handle keyboard_lamps side (state_of ws)) script log)) log (handed_words r us l) (handed_words r' us' l')
      handle_at_cut h = side_cut side (c.0 h) (c'.0 h)

      pub at_other_length_same : (length ws ≡ words_length → ⊥) → handed_words r' us' l' ≡ handed_words r us l
      at_other_length_same h = same_back (c.1 h) (c'.1 h)

    -- by the number of a side; one that stands for nothing is refused in the same way
    module _ (m : ℕ) (c : WordsHandled ws m script log r us l) (c' : WordsHandled ws m (take n script) log r' us' l') where
      pub handle_words_cut : {side : Side} → side_at m ≡ some side → length ws ≡ words_length
          → CutShort n (two_words ws (next_port n (handle keyboard_lamps side (state_of ws)) script log)) log (handed_words r us l) (handed_words r' us' l')
      handle_words_cut {side} q = handle_at_cut {side = side} (rw q at c.is) (rw q at c'.is)

      pub no_side_same : side_at m ≡ none → handed_words r' us' l' ≡ handed_words r us l
      no_side_same q = same_back (rw q at c.is) (rw q at c'.is)

      pub other_length_same : {side : Side} → side_at m ≡ some side → (length ws ≡ words_length → ⊥) → handed_words r' us' l' ≡ handed_words r us l
      other_length_same {side} q = at_other_length_same {side = side} (rw q at c.is) (rw q at c'.is)
