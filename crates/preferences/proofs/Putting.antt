-- Numbers put into an output one after another, from its start on.
use mathlib.Core.Path.{◌≡◌, refl, sym, ap, ap₂, subst, ◌∙◌}
use mathlib.Core.Bool.{true, false}
use mathlib.Core.List.{List, [], ◌∷◌, ◌++◌, append_assoc}
use Prim.Native.Nat.{ℕ, ◌+◌, ◌<◌, ◌≤◌}
use native.Mathlib.Omega.{arith}
use lib.ListN.{length, get_or, take, drop, length-append, length-drop}
use lib.Seq.{take-append_seam, drop-append-add, drop-drop}
use borrow.Author.Tests.{le-leb, lt-leb}
use Rattle.std.specs.Prelude.{Result, Ok, Err}
use Rattle.std.specs.Result.{result_unwrap_or}
use Rattle.exchange.specs.Answer.{gives, refuses}
use Rattle.ps2_answers.specs.Refusals.{success}
use Rattle.preferences.specs.Coding.{coding}
use Rattle.preferences.specs.declared.numbers.OutputShort.{OutputShort}
use Rattle.preferences.specs.NumberWriting.{Outcome, outcome, with_bytes, number_written, said_written, count_written}
use Rattle.preferences.specs.declared.Preferences.{Preferences}
use Rattle.preferences.specs.Record.{within_values}
use Rattle.preferences.specs.Format.{codings, record_bytes}
use Rattle.preferences.specs.Writing.{fitting, written, leaves}
use Rattle.preferences.proofs.Codings.{codings_none, codings_last, length_first, length_last, take_next, drop_next}

-- ---- one number

-- A number written at a place, and the place behind it.
pub record Put (n : ℕ) (before out : List ℕ) (at end : ℕ) : Type 0 where
  pub place : end ≡ at + length (coding n)
  pub output : out ≡ with_bytes before at (coding n)

pub number_put : {n at w : ℕ} {before out : List ℕ} {a : Outcome} → at + length (coding n) ≤ length before → a ≡ number_written n at before → a.count ≡ w → a.output ≡ out → Put n before out at (at + w)
unfolding number_written
number_put {n} {at} {w} {before} {out} {a} h e p q =
    let r : a ≡ outcome (gives success) (length (coding n)) (with_bytes before at (coding n)) = e ∙ rw (le-leb (at + length (coding n)) (length before) h) in
    record { place = ap (λ (k : ℕ). at + k) (sym p ∙ ap (λ (o : Outcome). o.count) r); output = sym q ∙ ap (λ (o : Outcome). o.output) r }

-- the same, by what the code takes as the count
pub number_put_by : {n at w : ℕ} {before out : List ℕ} (r : Result ℕ OutputShort) → at + length (coding n) ≤ length before
    → outcome (said_written r) (count_written r) out ≡ number_written n at before → w ≡ result_unwrap_or r 0 → Put n before out at (at + w)
number_put_by r h e q = number_put h e (sym (q ∙ unwrapped r)) refl
  where
    unwrapped : (r : Result ℕ OutputShort) → result_unwrap_or r 0 ≡ count_written r
    unwrapped (Ok count) = refl
    unwrapped (Err short) = refl

-- ---- several

-- Numbers written from the start of an output on, and the place behind them.
pub record Puts (numbers before out : List ℕ) (end : ℕ) : Type 0 where
  pub place : end ≡ length (codings numbers)
  pub output : out ≡ codings numbers ++ drop (length (codings numbers)) before

-- some are put, others are left, and all find room
pub record Putting (done left before out : List ℕ) (at : ℕ) : Type 0 where
  pub puts : Puts done before out at
  pub room : length (codings done) + length (codings left) ≤ length before

pub putting_begins : (numbers before : List ℕ) → length (codings numbers) ≤ length before → Putting [] numbers before before 0
putting_begins numbers before h =
    record { puts = record { place = rw codings_none; output = rw codings_none }; room = rw codings_none (omega arith) }

pub put_length : {done left before out : List ℕ} {at : ℕ} → Putting done left before out at → length out ≡ length before
put_length {done} {left} {before} {out} {at} p =
    ap length p.puts.output ∙ length-append (codings done) (drop (length (codings done)) before) ∙ rw (length-drop (length (codings done)) before) (omega (arith, p.room))

pub put_room : {done others before out : List ℕ} {n at : ℕ} → Putting done (n ∷ others) before out at → at + length (coding n) ≤ length out
put_room {done} {others} {before} {out} {n} p = omega (arith, p.puts.place, p.room, length_first n others, put_length p)

pub putting_on : {done others before out next : List ℕ} {n at end : ℕ} → Putting done (n ∷ others) before out at → Put n out next at end → Putting (done ++ n ∷ []) others before next end
putting_on {done} {others} {before} {out} {next} {n} {at} {end} p q =
    record {
      puts =
          record {
            place = q.place ∙ ap (λ (k : ℕ). k + length (coding n)) p.puts.place ∙ sym (length_last done n);
            output =
                q.output
                ∙ ap₂ (λ (o : List ℕ) (k : ℕ). with_bytes o k (coding n)) p.puts.output p.puts.place
                ∙ rw (
                  take-append_seam (codings done) (drop (length (codings done)) before),
                  drop-append-add (codings done) (drop (length (codings done)) before) (length (coding n)),
                  drop-drop (length (coding n)) (length (codings done)) before,
                  codings_last done n,
                  length-append (codings done) (coding n),
                  append_assoc (codings done) (coding n) (drop (length (codings done) + length (coding n)) before),
                );
          };
      room = rw (length_last done n) (omega (arith, p.room, length_first n others));
    }

-- ---- a list of them, from its first to its last

module _ (ns : List ℕ) (i : ℕ) {before out : List ℕ} {at : ℕ} (p : Putting (take i ns) (drop i ns) before out at) where
  pub next_room : i < length ns → at + length (coding (get_or ns i 0)) ≤ length out
  next_room h = put_room (subst (λ (l : List ℕ). Putting (take i ns) l before out at) (drop_next ns i h) p)

  pub next_put : {next : List ℕ} {end : ℕ} → i < length ns → Put (get_or ns i 0) out next at end → Putting (take (i + 1) ns) (drop (i + 1) ns) before next end
  next_put {next} {end} h q =
      subst (λ (l : List ℕ). Putting l (drop (i + 1) ns) before next end) (sym (take_next ns i h))
      (putting_on (subst (λ (l : List ℕ). Putting (take i ns) l before out at) (drop_next ns i h) p) q)

-- ---- with room and without

module _ (out bytes : List ℕ) where
  pub no_room : length out < length bytes → outcome (refuses 23) 0 out ≡ leaves out (fitting (length out) bytes)
  no_room h = rw (lt-leb (length bytes) (length out) h)

  pub with_room : {n : ℕ} {next : List ℕ} → n ≡ length bytes → length bytes ≤ length out → next ≡ bytes ++ drop (length bytes) out
      → outcome (gives success) n next ≡ leaves out (fitting (length out) bytes)
  with_room e h q = rw (le-leb (length bytes) (length out) h, e, q)

-- ---- a record

module _ (p : Preferences) where
  pub outside : (room : ℕ) → within_values p ≡ false → written room p ≡ refuses 28
  unfolding written
  outside room e = rw e

module _ (p : Preferences) (out : List ℕ) where
  pub outside_left : within_values p ≡ false → outcome (refuses 28) 0 out ≡ leaves out (written (length out) p)
  unfolding written
  outside_left e = rw e

  -- 28 is not given: what is left goes by the room
  pub inside : {o : Outcome} {bytes : List ℕ} → within_values p ≡ true → bytes ≡ record_bytes p → o ≡ leaves out (fitting (length out) bytes) → o ≡ leaves out (written (length out) p)
  unfolding written
  inside e q r = rw e (r ∙ ap (λ (l : List ℕ). leaves out (fitting (length out) l)) q)
