-- How every conversion goes: it ends at once, for a reason, or it writes a code's byte and goes on with the rest.
use mathlib.Core.Path.{◌≡◌, refl, ap, ◌∙◌}
use mathlib.Core.Bool.{false}
use mathlib.Core.List.{List, [], ◌∷◌}
use Prim.Native.Nat.{ℕ, zero, suc}
use borrow.Author.Tests.{eqb-false}
use Rattle.exchange.specs.Answer.{Answer, gives, refuses}
use Rattle.ps2_answers.specs.Refusals.{Success, success}
use Rattle.scancode_set2.specs.Codes.{break_byte, is_break, Code, alone, after_f0, codes}
use Rattle.scancode_set2.specs.Convert.{becomes, Converted, ends, writes, convert_codes, convert_stream}
use Rattle.scancode_set2.specs.Stops.{Convertible, a_prefix, a_press, a_release, Stop, used_up, no_entry, no_entry_after, full, ends_after, Written, passed, entered, released}
use Rattle.scancode_set2.proofs.Codes.{codes_alone, codes_after, ByCodes, no_code, one_alone, one_after, cut_short, by_codes}
use Rattle.scancode_set2.proofs.Becomes.{Alone, is_a_prefix, is_press, is_no_press, alone_is, After, is_release, is_no_release, after_is}
use Rattle.scancode_set2.proofs.Progress.{code_written, code_full, code_refused}

pub data Goes : List ℕ → ℕ → Converted → Type 0 where
  at_end : {stream : List ℕ} {room : ℕ} {a : Answer Success} → Stop stream room a → Goes stream room (ends a)
  by_alone : {b x room : ℕ} {stream : List ℕ} {r : Converted} → is_break b ≡ false → becomes (alone b) ≡ gives x → Written x → Goes stream room r
      → Goes (b ∷ stream) (suc room) (writes (alone b) x r)
  by_after : {c x room : ℕ} {stream : List ℕ} {r : Converted} → becomes (after_f0 c) ≡ gives x → Written x → Goes stream room r
      → Goes (break_byte ∷ c ∷ stream) (suc room) (writes (after_f0 c) x r)

-- what such a code's conversion is
module _ (stream : List ℕ) where
  pub alone_written : (b : ℕ) {x : ℕ} (room : ℕ) → is_break b ≡ false → becomes (alone b) ≡ gives x → convert_stream (b ∷ stream) (suc room) ≡ writes (alone b) x (convert_stream stream room)
  alone_written b room e q = ap (λ (cs : List Code). convert_codes cs (suc room)) (codes_alone b stream e) ∙ code_written (alone b) (codes stream) room q

  pub alone_full : (b : ℕ) {x : ℕ} → is_break b ≡ false → becomes (alone b) ≡ gives x → convert_stream (b ∷ stream) 0 ≡ ends (refuses 23)
  alone_full b e q = ap (λ (cs : List Code). convert_codes cs 0) (codes_alone b stream e) ∙ code_full (alone b) (codes stream) q

  pub alone_refused : (b room : ℕ) → is_break b ≡ false → becomes (alone b) ≡ refuses 22 → convert_stream (b ∷ stream) room ≡ ends (refuses 22)
  alone_refused b room e q = ap (λ (cs : List Code). convert_codes cs room) (codes_alone b stream e) ∙ code_refused (alone b) (codes stream) room q

  pub after_written : (c : ℕ) {x : ℕ} (room : ℕ) → becomes (after_f0 c) ≡ gives x → convert_stream (break_byte ∷ c ∷ stream) (suc room) ≡ writes (after_f0 c) x (convert_stream stream room)
  after_written c room q = ap (λ (cs : List Code). convert_codes cs (suc room)) (codes_after c stream) ∙ code_written (after_f0 c) (codes stream) room q

  pub after_full : (c : ℕ) {x : ℕ} → becomes (after_f0 c) ≡ gives x → convert_stream (break_byte ∷ c ∷ stream) 0 ≡ ends (refuses 23)
  after_full c q = ap (λ (cs : List Code). convert_codes cs 0) (codes_after c stream) ∙ code_full (after_f0 c) (codes stream) q

  pub after_refused : (c room : ℕ) → becomes (after_f0 c) ≡ refuses 22 → convert_stream (break_byte ∷ c ∷ stream) room ≡ ends (refuses 22)
  after_refused c room q = ap (λ (cs : List Code). convert_codes cs room) (codes_after c stream) ∙ code_refused (after_f0 c) (codes stream) room q

pub converts_none : (room : ℕ) → convert_stream [] room ≡ ends (gives success)
unfolding convert_codes codes
converts_none room = refl

pub converts_cut : (room : ℕ) → convert_stream (break_byte ∷ []) room ≡ ends (refuses 24)
unfolding convert_codes codes becomes
converts_cut room = refl

-- ---- every conversion goes so

goes_alone : (b : ℕ) (stream : List ℕ) → is_break b ≡ false → ((room : ℕ) → Goes stream room (convert_stream stream room)) → (room : ℕ) → Goes (b ∷ stream) room (convert_stream (b ∷ stream) room)
goes_alone b stream n more = by (alone_is b)
  where
    given : {x : ℕ} → becomes (alone b) ≡ gives x → Written x → Convertible (b ∷ stream) → (room : ℕ) → Goes (b ∷ stream) room (convert_stream (b ∷ stream) room)
    given q w v zero = rw (alone_full stream b n q) (at_end (full v))
    given q w v (suc room) = rw (alone_written stream b room n q) (by_alone n q w (more room))

    by : Alone b → (room : ℕ) → Goes (b ∷ stream) room (convert_stream (b ∷ stream) room)
    by (is_a_prefix p q) room = given q (passed p) (a_prefix p) room
    by (is_press e q) room = given q (entered b e) (a_press e) room
    by (is_no_press p e q) room = rw (alone_refused stream b room n q) (at_end (no_entry (eqb-false b break_byte n) p e))

goes_after : (c : ℕ) (stream : List ℕ) → ((room : ℕ) → Goes stream room (convert_stream stream room)) → (room : ℕ) → Goes (break_byte ∷ c ∷ stream) room (convert_stream (break_byte ∷ c ∷ stream) room)
goes_after c stream more = by (after_is c)
  where
    given : {x : ℕ} → becomes (after_f0 c) ≡ gives x → Written x → Convertible (break_byte ∷ c ∷ stream) → (room : ℕ) → Goes (break_byte ∷ c ∷ stream) room (convert_stream (break_byte ∷ c ∷ stream) room)
    given q w v zero = rw (after_full stream c q) (at_end (full v))
    given q w v (suc room) = rw (after_written stream c room q) (by_after q w (more room))

    by : After c → (room : ℕ) → Goes (break_byte ∷ c ∷ stream) room (convert_stream (break_byte ∷ c ∷ stream) room)
    by (is_release e q) room = given q (released c e) (a_release e) room
    by (is_no_release e q) room = rw (after_refused stream c room q) (at_end (no_entry_after e))

goes_by : {stream : List ℕ} → ByCodes stream → (room : ℕ) → Goes stream room (convert_stream stream room)
goes_by no_code room = rw (converts_none room) (at_end used_up)
goes_by (one_alone b {stream = stream} n rest) room = goes_alone b stream n (goes_by rest) room
goes_by (one_after c {stream = stream} rest) room = goes_after c stream (goes_by rest) room
goes_by cut_short room = rw (converts_cut room) (at_end ends_after)

pub goes : (stream : List ℕ) (room : ℕ) → Goes stream room (convert_stream stream room)
goes stream room = goes_by (by_codes stream) room
