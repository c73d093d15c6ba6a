-- The law for the keyboard's initialisation on a lent record's numbers: with 2 they are as they were passed.
use Prim.Native.Nat.{ℕ}
use mathlib.Core.List.{List}
use mathlib.Core.Option.{none, some}
use mathlib.Core.Path.{◌≡◌}
use lib.ListN.{length, take}
use Rattle.exchange.specs.Exchange.{End, play}
use Rattle.exchange.specs.Answer.{Answer}
use Rattle.ps2_answers.specs.Refusals.{Success}
use Rattle.keyboard_record.specs.declared.Table.{Table}
use Rattle.keyboard_record.specs.Record.{fresh}
use Rattle.keyboard_init.specs.KeyboardInit.{keyboard_init}
use Rattle.port_words.specs.declared.PortWords.{PortWords}
use Rattle.port_words.specs.Told.{no_value, told}
use Rattle.handler_words.specs.Layout.{words_length}
use Rattle.handler_words.specs.Words.{words_of}
use Rattle.handler_words.specs.Arguments.{table_at}
use Rattle.keyboard_words.specs.Operations.{left_by, InitializedLong, KeyboardInitialized}
use Rattle.theorem_cut_scripts.specs.CutShort.{next_port, CutShort}
use Rattle.theorem_cut_scripts.specs.Forms.{lack}
use Rattle.theorem_cut_scripts.specs.Told.{WithWords, with_words, handed_with}
use Rattle.theorem_cut_scripts.proofs.CutShort.{handed_by, cut_short}

abbrev tell_init : Table → List ℕ → End (Answer Success) → WithWords
tell_init table ws e = with_words (told no_value e 0 0) (left_by e (words_of (fresh table)) ws)

handed_init : (table : Table) (ws s log : List ℕ) {r : PortWords} {us l : List ℕ} → InitializedLong table ws s log r us l
    → handed_with r us l ≡ handed_by (tell_init table ws) (play keyboard_init s log)
handed_init table ws s log c = rw (c.tells.answered, c.tells.logged, c.writes)

module _ (ws : List ℕ) (k p n : ℕ) (script log : List ℕ) {r r' : PortWords} {us us' l l' : List ℕ} (c : KeyboardInitialized ws k p script log r us l) (c' : KeyboardInitialized ws k p (take n script) log r' us' l') where
  -- for a table, on 144 numbers: the run that is cut leaves them as they were passed
  pub init_words_cut : (table : Table) → table_at k p ≡ some table → length ws ≡ words_length
      → CutShort n (with_words (told no_value (lack {A = Answer Success} (next_port n keyboard_init script log)) 0 0) ws) log (handed_with r us l) (handed_with r' us' l')
  init_words_cut table q h =
      cut_short (tell_init table ws) keyboard_init n script log (handed_init table ws script log ((c.at table q).long h)) (handed_init table ws (take n script) log ((c'.at table q).long h))

  -- any other table and any other length is refused before a byte is read
  same_back : {x : PortWords} → (r ≡ x) × (us ≡ ws) × (l ≡ log) → (r' ≡ x) × (us' ≡ ws) × (l' ≡ log) → handed_with r' us' l' ≡ handed_with r us l
  same_back a b = rw (a.0, a.1, a.2, b.0, b.1, b.2)

  pub no_table_same : table_at k p ≡ none → handed_with r' us' l' ≡ handed_with r us l
  no_table_same q = same_back (c.nothing q) (c'.nothing q)

  pub init_length_same : (table : Table) → table_at k p ≡ some table → (length ws ≡ words_length → ⊥) → handed_with r' us' l' ≡ handed_with r us l
  init_length_same table q h = same_back ((c.at table q).other h) ((c'.at table q).other h)
