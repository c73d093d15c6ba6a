-- The numbers of a fresh dispatcher.
use mathlib.Core.Path.{◌≡◌, refl, ap, ◌∙◌}
use mathlib.Core.List.{List, ◌++◌}
use mathlib.Core.Option.{Option, none, some}
use Prim.Native.Nat.{ℕ}
use native.Mathlib.Omega.{arith}
use lib.ListN.{length, drop, take-append-drop}
use lib.Seq.{take_at}
use Rattle.ps2_bytes.specs.declared.response.MouseId.{MouseId}
use Rattle.std.specs.Prelude.{Some}
use Rattle.std.specs.Array.{IsWholeChunk}
use Rattle.std.specs.Prelude as rust
use Rattle.argument_words.specs.Arguments.{identity_at, said_found}
use Rattle.keyboard_record.specs.declared.Table.{Table}
use Rattle.handler_words.specs.Layout.{words_length}
use Rattle.handler_words.specs.Arguments.{table_at}
use Rattle.handler_words.specs.Calls.{AtTable, WordsFresh}
use Rattle.dispatcher_words.specs.Layout.{dispatcher_length}
use Rattle.dispatcher_words.specs.Words.{handler_in, dispatcher_of}
use Rattle.dispatcher_words.specs.Parts.{unserved}
use Rattle.dispatcher_words.specs.Fresh.{fresh_at, AtFresh, MadeFresh}
use Rattle.dispatcher_words.proofs.Words.{identity_back, same_dispatcher, stands, handler_length}

-- ---- by the table, where the identity is known

module _ (id : MouseId) (ws : List ℕ) (answer : ℕ) (us : List ℕ) (h : length ws ≡ dispatcher_length) where
  refused : (answer ≡ 0 → ⊥) → (t : Option Table) → AtTable t (handler_in ws) answer us → AtFresh (fresh_at (some id) t) ws answer (us ++ drop words_length ws)
  refused n none a = (a.0, ap (λ (l : List ℕ). l ++ drop words_length ws) a.1 ∙ take-append-drop words_length ws)
  refused n (some t) a = absurd (n (a.0 (handler_length ws h)).0)

  made : answer ≡ 0 → (t : Option Table) → AtTable t (handler_in ws) answer us → (ws' : List ℕ) → ws' ≡ us ++ unserved id → AtFresh (fresh_at (some id) t) ws answer ws'
  made z none a ws' u = absurd (omega (arith, a.0, z))
  made z (some t) a ws' u =
      let b = a.0 (handler_length ws h) in (
        λ _. (
          z,
          u ∙ ap (λ (l : List ℕ). l ++ unserved id) b.1,
          ap dispatcher_of u ∙ stands us (ap length b.1) (unserved id) ∙ same_dispatcher b.2 (identity_back id) refl refl,
        ),
        λ n. absurd (n h),
      )

-- ---- by the identity that was found, on the numbers as they were lent at their length

module _ {k p i : ℕ} {f : rust.Option MouseId} (q : said_found f ≡ identity_at i) {id : MouseId} (e : f ≡ Some id) {ws vs : List ℕ} (lent : IsWholeChunk ws vs dispatcher_length)
    {answer : ℕ} {us : List ℕ} (w : WordsFresh (handler_in vs) k p answer us) where
  pub at_no_table : (answer ≡ 0 → ⊥) → MadeFresh ws k p i answer (us ++ drop words_length vs)
  at_no_table n = record { is = rw (← q, e, lent.same) (refused id ws answer us lent.long n (table_at k p) (rw lent.same at w.is)) }

  -- where as many numbers came back as were lent
  pub at_fresh : answer ≡ 0 → length us ≡ length (handler_in vs) → {ws' : List ℕ} → ws' ≡ handler_in (us ++ drop words_length vs) ++ unserved id → MadeFresh ws k p i answer ws'
  at_fresh z l {ws'} u =
      record { is = rw (← q, e) (made id ws answer us lent.long z (table_at k p) (rw lent.same at w.is) ws' (u ∙ rw (take_at us (drop words_length vs) words_length (l ∙ ap (λ (l : List ℕ). length (handler_in l)) lent.same ∙ handler_length ws lent.long)))) }
