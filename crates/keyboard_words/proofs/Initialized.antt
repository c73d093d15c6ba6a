-- The initialisation on a lent record, by the table that its numbers stand for and by how the exchange ended.
use mathlib.Core.List.{List}
use mathlib.Core.Option.{Option, none, some}
use mathlib.Core.Path.{◌≡◌, refl, sym, ap, ◌∙◌}
use Prim.Native.Nat.{ℕ}
use Rattle.std.specs.Prelude.{Option as Maybe, Some}
use Rattle.std.specs.Array.{IsWholeChunk}
use Rattle.exchange.specs.Exchange.{End, yields, lacks, played, play}
use Rattle.exchange.specs.Answer.{Answer}
use Rattle.ps2_answers.specs.Refusals.{Success}
use Rattle.keyboard_record.specs.declared.Table.{Table}
use Rattle.keyboard_record.specs.Record.{fresh}
use Rattle.keyboard_init.specs.KeyboardInit.{keyboard_init}
use Rattle.port_words.specs.declared.PortWords.{PortWords}
use Rattle.port_words.specs.Told.{no_value, told}
use Rattle.handler_words.specs.Layout.{words_length}
use Rattle.handler_words.specs.Words.{record_of, words_of}
use Rattle.handler_words.specs.Arguments.{table_at}
use Rattle.handler_words.specs.Parts.{said_table}
use Rattle.handler_words.proofs.Fresh.{fresh_stands}
use Rattle.keyboard_words.specs.Operations.{left_by, KeyboardInitialized}

-- what is left stands for the record that is left
stands_by : {A : Type 0} (table : Table) (ws : List ℕ) {ws' : List ℕ} (e : End A) → ws' ≡ left_by e (words_of (fresh table)) ws → record_of ws' ≡ left_by e (fresh table) (record_of ws)
stands_by table ws (yields a) q = fresh_stands table q
stands_by table ws (lacks x) q = ap record_of q

some_table : {t u : Table} → ◌≡◌ {A = Option Table} (some t) (some u) → t ≡ u
some_table q = cc

none_some : {t : Table} → ◌≡◌ {A = Option Table} none (some t) → ⊥
none_some q = cc

module _ (ws : List ℕ) (k p : ℕ) (script log : List ℕ) {f : Maybe Table} (q : said_table f ≡ table_at k p) {table : Table} (is : f ≡ Some table) where
  at_table : (t : Table) → table_at k p ≡ some t → table ≡ t
  at_table t e = some_table (sym (ap said_table is) ∙ q ∙ e)

  pub at_long : {us : List ℕ} → IsWholeChunk ws us words_length → {e : End (Answer Success)} {u w : ℕ} {log' : List ℕ} → played e u w log' ≡ play keyboard_init script log
      → {ws' : List ℕ} → ws' ≡ left_by e (words_of (fresh table)) us → {answer : PortWords} → answer ≡ told no_value e u w → KeyboardInitialized ws k p script log answer ws' log'
  at_long whole {e} m {ws'} v a =
      record {
        nothing = λ n. absurd (none_some (sym n ∙ sym q ∙ ap said_table is));
        at =
            λ t n. record {
              long =
                  λ _. record {
                    tells = record { answered = rw (← m) a; logged = rw (← m) refl };
                    writes = rw (← m, ← at_table t n, ← whole.same) v;
                    stands = rw (← m, ← at_table t n, ← whole.same) (stands_by table _ e v);
                  };
              other = λ o. absurd (o whole.long);
            };
      }
