-- A record read out of its numbers, and stored as its numbers.
use mathlib.Core.Path.{◌≡◌, refl, sym, ap, ◌∙◌}
use mathlib.Core.Bool.{Bool, true, false, cond, ◌&&◌, ◌||◌, true≢false, and-false}
use mathlib.Core.Logic.{⊎_elim}
use mathlib.Core.List.{List, ◌++◌, map}
use Prim.Native.Nat.{ℕ, ◌+◌, ◌-◌, ◌%◌, ◌<◌, ◌≤◌}
use native.Mathlib.Omega.{arith}
use lib.Dec.{eqb, ltb}
use lib.ListN.{length, get_or, set, take, drop, length-set}
use borrow.Author.Tests.{lt-ltb, le-ltb, ltb-true, ltb-false}
use Rattle.std.specs.Prelude.{Option as Maybe, Result, Ok, Err, Some, None}
use Rattle.std.proofs.lemmas.List.{ext_get_or, get_or-map, get_or_append_left, get_or-append_right, get_or_default, get_or-set_same, get_or-set_other, get_or-take, get_or-drop, length-take-le, length-drop, length-map, length-append}
use Rattle.keycodes_ascii.specs.declared.Keycode.{Keycode}
use Rattle.keycodes_ascii.specs.declared.KeyEvent.{KeyEvent}
use Rattle.keycodes_ascii.specs.declared.NoKeycode.{NoKeycode}
use Rattle.keycodes_ascii.specs.Keycode.{keycode_of, keycode_read}
use Rattle.keycodes_ascii.proofs.Codes.{read_ok, read_err}
use Rattle.keyboard_scancodes.specs.Events.{the_keycode, keycode_at}
use Rattle.keyboard_scancodes.proofs.Tests.{which}
use Rattle.keyboard_scancodes.specs.declared.KeyboardState.{KeyboardState}
use Rattle.keyboard_record.specs.declared.HandlerState.{HandlerState}
use Rattle.keyboard_record.specs.declared.Table.{Table}
use Rattle.handler_words.specs.Layout.{first_at, second_at, keyboards_at, profile_at, words_length}
use Rattle.handler_words.specs.Words.{byte_limit, flags_limit, event_at, word_of, keyboards_number, profile_number, keyboard_in, second_in, names_all, state_of, record_of, state_words}
use Rattle.handler_words.specs.Calls.{with_keyboard_at}
use Rattle.handler_words.specs.Parts.{keyboard_passes, sides_pass}
use Rattle.handler_words.specs.Records.{holds_keyboard, holds_table, table_in, holds_second, holds_record, below, Reads}
use Rattle.handler_words.proofs.Passing.{Passed, passed, second_passes}
use Rattle.handler_words.proofs.Words.{by_numbers}

-- ---- a place has the keycode of its number, and is empty where that has none

pub key_in : (w : ℕ) {f : Result Keycode NoKeycode} {b : ℕ} → f ≡ keycode_read b → b ≡ w % 256 → {k : Keycode} → f ≡ Ok k → k ≡ (event_at w).keycode
unfolding event_at keycode_at
key_in w q r e = ap the_keycode (read_ok _ q e ∙ ap keycode_of r)

pub empty_in : (w : ℕ) {f : Result Keycode NoKeycode} {b : ℕ} → f ≡ keycode_read b → b ≡ w % 256 → {x : NoKeycode} → f ≡ Err x → Keycode.OverflowError ≡ (event_at w).keycode
unfolding event_at keycode_at
empty_in w q r e = ap the_keycode (read_err _ q e ∙ ap keycode_of r)

-- ---- the places, one more at a time

-- the first n places hold what their numbers stand for
abbrev pub Read : List ℕ → List KeyEvent → ℕ → Type 0
Read ws places n = (length places ≡ 128) × ((i : ℕ) (d : KeyEvent) → i < n → get_or places i d ≡ event_at (get_or ws (16 + i) 0))

pub one_more_read : (ws : List ℕ) (places : List KeyEvent) (n : ℕ) → Read ws places n → n < 128 → {e : KeyEvent} → e ≡ event_at (get_or ws (16 + n) 0) → Read ws (set places n e) (n + 1)
one_more_read ws places n r m {e} q = (
  rw (length-set) r.0,
  λ i d h.
      ⊎_elim (λ l. let l = ltb-true i n l in get_or-set_other places n i e d (λ z. omega (arith, z, l)) ∙ r.1 i d l)
      (λ g. let z : i ≡ n = (let g = ltb-false i n g in omega (arith, g, h)) in rw z (get_or-set_same places n e d (omega (arith, r.0, m)) ∙ q)) (which (ltb i n)),
)

pub all_read : (ws : List ℕ) (places : List KeyEvent) (n : ℕ) → length ws ≡ words_length → Read ws places n → n ≡ 128 → places ≡ map event_at (drop 16 ws)
all_read ws places n h r m =
    let d = event_at 0 in
    let g : length (drop 16 ws) ≡ 128 = rw (length-drop, h) refl in
    let l : length places ≡ length (map event_at (drop 16 ws)) = rw (r.0, length-map, length-drop, h) refl in
    ext_get_or d places (map event_at (drop 16 ws)) l
    (λ i k. r.1 i d (omega (arith, k, r.0, m)) ∙ ap event_at (sym (get_or-drop 16 ws i 0)) ∙ sym (get_or-map event_at (drop 16 ws) i 0 d (omega (arith, k, r.0, g))))

-- the first n places are stored, and the state's numbers are as they were
abbrev pub Stored : List ℕ → List KeyEvent → List ℕ → ℕ → Type 0
Stored ws places ws' n =
    (length ws' ≡ words_length) × ((i : ℕ) → i < 16 → get_or ws' i 0 ≡ get_or ws i 0) × ((i : ℕ) (d : KeyEvent) → i < n → get_or ws' (16 + i) 0 ≡ word_of (get_or places i d))

pub none_stored : (ws : List ℕ) (places : List KeyEvent) → length ws ≡ words_length → Stored ws places ws 0
none_stored ws places h = (h, λ i l. refl, λ i d l. absurd (omega (arith, l)))

pub one_more_stored : (ws : List ℕ) (places : List KeyEvent) (ws' : List ℕ) (n w : ℕ) → Stored ws places ws' n → n < 128 → length places ≡ 128 → (e : KeyEvent) → w ≡ word_of (get_or places n e)
    → Stored ws places (set ws' (16 + n) w) (n + 1)
one_more_stored ws places ws' n w r m h e p = (
  rw (length-set) r.0,
  λ i l. get_or-set_other ws' (16 + n) i w 0 (λ z. omega (arith, z, l)) ∙ r.1 i l,
  λ i d k.
      ⊎_elim (λ l. let l = ltb-true i n l in get_or-set_other ws' (16 + n) (16 + i) w 0 (λ z. omega (arith, z, l)) ∙ r.2 i d l)
      (λ g.
      let z : i ≡ n = (let g = ltb-false i n g in omega (arith, g, k)) in
      rw z (get_or-set_same ws' (16 + n) w 0 (omega (arith, r.0, m)) ∙ p ∙ ap word_of (get_or_default places n e d (omega (arith, h, m))))) (which (ltb i n)),
)

pub all_stored : (ws : List ℕ) (places : List KeyEvent) → length ws ≡ words_length → length places ≡ 128 → (ws' : List ℕ) (n : ℕ) → Stored ws places ws' n → n ≡ 128 → ws' ≡ take 16 ws ++ map word_of places
all_stored ws places h g ws' n r m =
    let t : length (take 16 ws) ≡ 16 = length-take-le 16 ws (omega (arith, h)) in
    let l : length ws' ≡ length (take 16 ws ++ map word_of places) = rw (r.0, length-append, t, length-map, g) refl in
    ext_get_or 0 ws' (take 16 ws ++ map word_of places) l
    (λ i k.
    ⊎_elim
    (λ f. let f = ltb-true i 16 f in r.1 i f ∙ sym (get_or_append_left (take 16 ws) (map word_of places) 0 i (omega (arith, t, f)) ∙ get_or-take 16 ws i 0 f))
    (λ f.
    let f = ltb-false i 16 f in
    let z : i ≡ 16 + (i - 16) = omega (arith, f) in
    let j : i - 16 < 128 = omega (arith, k, r.0, f) in
    ap (λ (x : ℕ). get_or ws' x 0) z ∙ r.2 (i - 16) (event_at 0) (omega (arith, j, m)) ∙ sym (get_or-map word_of places (i - 16) (event_at 0) 0 (omega (arith, j, g)))
    ∙ sym (get_or-append_right (take 16 ws) (map word_of places) 16 i 0 t f)) (which (ltb i 16)))

-- ---- the state, each number

module _ (s : HandlerState) {k p : ℕ} (a : k ≡ keyboards_number s.table.keyboards) (b : p ≡ profile_number s.table.profile) where
  abbrev pub state_put : List ℕ → List ℕ
  state_put ws = set (set (set (set (set (set (with_keyboard_at 5 s.second (with_keyboard_at 0 s.first ws)) 10 k) 11 p) 12 s.start) 13 s.count) 14 s.sides.low) 15 s.sides.high

  pub state_stored : (rest ws : List ℕ) → length ws ≡ words_length → take 16 (state_put ws) ++ rest ≡ state_words s rest
  state_stored rest = by_numbers (λ (ws : List ℕ). take 16 (state_put ws) ++ rest ≡ state_words s rest) (λ c d e f g i j l m n o q r t u v rest. rw (a, b) refl)

-- ---- which numbers fit a record

named : (prefix fit profile one two prefix2 fit2 : Bool) → (prefix && fit) && ((profile && (one || two)) && cond two (prefix2 && fit2) true) ≡ true
    → (prefix && profile) && (one || (two && prefix2)) ≡ true
named true true true true two prefix2 fit2 e = refl
named true true true false true true fit2 e = refl
named true true true false true false fit2 e = e
named true true true false false prefix2 fit2 e = e
named true true false one two prefix2 fit2 e = e
named true false profile one two prefix2 fit2 e = absurd (true≢false (sym e))
named false fit profile one two prefix2 fit2 e = e

-- they name what a record can hold
pub fit_names : (ws : List ℕ) → holds_record ws ≡ true → names_all ws ≡ true
unfolding holds_record holds_keyboard holds_table holds_second names_all
fit_names ws e =
    named (ltb (get_or ws first_at 0) 2) _ (ltb (get_or ws profile_at 0) 2) (eqb (get_or ws keyboards_at 0) 1) (eqb (get_or ws keyboards_at 0) 2) (ltb (get_or ws second_at 0) 2) _ e

-- a number that is below a limit, or is not
is_some : Maybe ℕ → Bool
is_some (Some n) = true
is_some None = false

the_one : Maybe ℕ → ℕ
the_one (Some n) = n
the_one None = 0

module _ (limit n : ℕ) {f : Maybe ℕ} (q : f ≡ below limit n) where
  by_fit : (t : Bool) → ltb n limit ≡ t → f ≡ cond t (Some n) None → {b : ℕ} → f ≡ Some b → (b ≡ n) × (n < limit)
  unfolding is_some the_one
  by_fit true t q e = (ap the_one (sym e ∙ q), ltb-true n limit t)
  by_fit false t q e = absurd (true≢false (ap is_some (sym e ∙ q)))

  pub found_below : {b : ℕ} → f ≡ Some b → (b ≡ n) × (n < limit)
  found_below = by_fit (ltb n limit) refl q

  by_none : (t : Bool) → ltb n limit ≡ t → f ≡ cond t (Some n) None → f ≡ None → limit ≤ n
  unfolding is_some
  by_none true t q e = absurd (true≢false (ap is_some (sym q ∙ e)))
  by_none false t q e = ltb-false n limit t

  pub none_below : f ≡ None → limit ≤ n
  none_below = by_none (ltb n limit) refl q

-- a number that is too large for its field
module _ (ws : List ℕ) (at : ℕ) where
  pub prefix_unfit : 1 < get_or ws at 0 → holds_keyboard at ws ≡ false
  unfolding holds_keyboard
  prefix_unfit p = rw (le-ltb _ _ p) refl

  pub flags_unfit : flags_limit ≤ get_or ws (at + 1) 0 → holds_keyboard at ws ≡ false
  unfolding holds_keyboard
  flags_unfit f = rw (le-ltb _ _ f) (and-false (ltb (get_or ws at 0) 2))

  pub count_unfit : byte_limit ≤ get_or ws (at + 2) 0 → holds_keyboard at ws ≡ false
  unfolding holds_keyboard
  count_unfit c = rw (le-ltb _ _ c, and-false (ltb (get_or ws (at + 1) 0) flags_limit)) (and-false (ltb (get_or ws at 0) 2))

  pub keyboard_fits_in : get_or ws at 0 ≤ 1 → get_or ws (at + 1) 0 < flags_limit → get_or ws (at + 2) 0 < byte_limit → holds_keyboard at ws ≡ true
  unfolding holds_keyboard
  keyboard_fits_in p f c = rw (lt-ltb (get_or ws at 0) 2 (omega (arith, p)), lt-ltb _ _ f, lt-ltb _ _ c) refl

-- those that 21 lets pass do
keyboard_fits : (ws : List ℕ) (at : ℕ) → Passed ws at → holds_keyboard at ws ≡ true
keyboard_fits ws at p = keyboard_fits_in ws at (omega (arith, p.said)) p.flags_in p.count_in

fitting : (passes profile one two passes2 fit fit2 : Bool) → (passes && profile) && (one || (two && passes2)) ≡ true → (passes ≡ true → fit ≡ true) → (two ≡ true → fit2 ≡ true)
    → fit && ((profile && (one || two)) && cond two fit2 true) ≡ true
fitting true true true true passes2 fit fit2 e f g = rw (f refl, g refl) refl
fitting true true true false passes2 fit fit2 e f g = rw (f refl) refl
fitting true true false true passes2 fit fit2 e f g = rw (f refl, g refl) refl
fitting true true false false passes2 fit fit2 e f g = absurd (true≢false (sym e))
fitting true false one two passes2 fit fit2 e f g = absurd (true≢false (sym e))
fitting false profile one two passes2 fit fit2 e f g = absurd (true≢false (sym e))

pub passing_fits : (ws : List ℕ) → sides_pass ws ≡ true → holds_record ws ≡ true
unfolding holds_record holds_table holds_second sides_pass
passing_fits ws e =
    let k = get_or ws keyboards_at 0 in
    fitting (keyboard_passes first_at ws) (ltb (get_or ws profile_at 0) 2) (eqb k 1) (eqb k 2) (keyboard_passes second_at ws) (holds_keyboard first_at ws) (holds_keyboard second_at ws) e
    (λ f. keyboard_fits ws first_at (passed ws first_at f)) (λ t. keyboard_fits ws second_at (passed ws second_at (second_passes ws e t)))

pub unfit_fails : (ws : List ℕ) → holds_record ws ≡ false → sides_pass ws ≡ false
unfit_fails ws e = ⊎_elim (λ t. absurd (true≢false (sym (passing_fits ws t) ∙ e))) (λ n. n) (which (sides_pass ws))

-- ---- a record read

module _ (ws : List ℕ) where
  pub first_unfit : holds_keyboard first_at ws ≡ false → holds_record ws ≡ false
  unfolding holds_record
  first_unfit e = rw e refl

  pub table_unfit : holds_table ws ≡ false → holds_record ws ≡ false
  unfolding holds_record
  table_unfit e = rw e (and-false (holds_keyboard first_at ws))

  pub second_unfit : holds_second ws ≡ false → holds_record ws ≡ false
  unfolding holds_record
  second_unfit e = rw (e, and-false (holds_table ws)) (and-false (holds_keyboard first_at ws))

  all_hold : holds_keyboard first_at ws ≡ true → holds_table ws ≡ true → holds_second ws ≡ true → holds_record ws ≡ true
  unfolding holds_record
  all_hold f t s = rw (f, t, s) refl

  pub record_read : {first second : KeyboardState} {table : Table} {places : List KeyEvent} → (holds_keyboard first_at ws ≡ true) × (first ≡ keyboard_in ws first_at)
      → (holds_table ws ≡ true) × (table ≡ table_in ws) → (holds_second ws ≡ true) × (second ≡ second_in ws) → places ≡ map event_at (drop 16 ws)
      → Reads (holds_record ws) (record_of ws)
      (Some
      (record {
        state = record { first = first; table = table; start = get_or ws 12 0; second = second; count = get_or ws 13 0; sides = record { low = get_or ws 14 0; high = get_or ws 15 0 } };
        places = places;
      }))
  unfolding state_of
  record_read f t s p =
      let e : holds_record ws ≡ true = all_hold f.0 t.0 s.0 in
      (e, rw (f.1, t.1, s.1, p, fit_names ws e) refl)
