-- The words of the history rule mean what they should: order, "odd", "last", and the flags byte by byte.
use mathlib.Core.Path.{◌≡◌, refl, ap, ap₂, sym, ◌∙◌}
use mathlib.Core.Bool.{Bool, true, false, not, cond, ◌&&◌, and-eq-true_iff, and-true, and-false, false≢true}
use mathlib.Core.List.{List, [], ◌∷◌, ◌++◌, map, Memᴰ}
use mathlib.Core.Logic.{◌⊎◌, inl, inr, ⊎_elim}
use Prim.Native.Nat.{ℕ, zero, suc, ◌+◌, ◌*◌, ◌%◌, ◌/◌, ◌<◌, ◌≤◌}
use native.Mathlib.Omega.{arith}
use lib.Dec.{eqb, ltb}
use borrow.Author.Tests.{eq-eqb, ne_eqb, eqb-true, eqb-false, lt-ltb, le-ltb, ltb-true, not-true}
use Rattle.bits.specs.Bits.{odd, bit}
use Rattle.bits.proofs.Every.{agree}
use Rattle.exchange.specs.Exchange.{Exchange}
use Rattle.exchange.specs.Answer.{Answer}
use Rattle.keycodes_ascii.specs.declared.Keycode.{Keycode}
use Rattle.keycodes_ascii.specs.Keycode.{number_of, keycode_of, numbered, keycodes}
use Rattle.scancode_set1.specs.Set1.{release_of}
use Rattle.theorem_history.specs.Past.{Past, nothing, ◌▸◌, onto}
use Rattle.keyboard_scancodes.specs.Strokes.{stroke, low_part, is_press}
use Rattle.theorem_history.specs.Said.{prefix_said, strokes, times, last_was_press, said_of, said, flags_said}
use Rattle.keyboard_scancodes.specs.declared.Profile.{Profile}
use Rattle.keyboard_scancodes.specs.Profile.{followed}
use Rattle.keyboard_scancodes.specs.FlagTable.{Kind, lock, held, left, right, FlagRow, flag_row, flag_table, is_of, has}
use Rattle.keyboard_scancodes.specs.Events.{last_keycode, keycode_at}
use Rattle.theorem_history.specs.Counted.{Call, counted_of}
use Rattle.keyboard_sides.specs.declared.Side.{Side}
use Rattle.keyboard_record.specs.declared.Table.{Table}
use Rattle.keyboard_record.specs.Record.{keyboard_at, fresh}
use Rattle.theorem_history.specs.Run.{after, run}
use Rattle.theorem_history.specs.Bytes.{AllBytes, no_bytes, one_more, ByteCalls, times_byte, last_of, absent, Last, those, demanded}
use Rattle.theorem_history.proofs.Bytes.{counted_bytes}
use Rattle.theorem_history.proofs.Flags.{flag_bit}
use Rattle.keyboard_scancodes.proofs.Tests.{which}
use Rattle.theorem_history.proofs.History.{history}

-- ---- order

module _ {A : Type 0} (table : Table) (lamps : Side → ℕ → Exchange (Answer A)) where
  run_onto : (calls : List Call) (past : Past Call) → run table lamps (after table lamps past) calls ≡ after table lamps (onto past calls)
  unfolding run after onto
  run_onto [] past = refl
  run_onto (call ∷ calls) past = run_onto calls (past ▸ call)

  -- the calls of a list, made in order from a fresh record on, leave the record of the rule
  pub in_order : (calls : List Call) → run table lamps (fresh table) calls ≡ after table lamps (onto nothing calls)
  unfolding after
  in_order calls = run_onto calls nothing

module _ {A : Type 0} where
  onto_last : (past : Past A) (l : List A) (x : A) → onto past (l ++ (x ∷ [])) ≡ onto past l ▸ x
  unfolding onto
  onto_last past [] x = refl
  onto_last past (y ∷ l) x = onto_last (past ▸ y) l x

  -- every such list is a list put in order
  pub listed : (past : Past A) → (l : List A) × (onto nothing l ≡ past)
  unfolding onto
  listed nothing = ([], refl)
  listed (past ▸ x) =
      let r = listed past in
      (r.0 ++ (x ∷ []), onto_last nothing r.0 x ∙ ap (λ (p : Past A). p ▸ x) r.1)

-- ---- "odd"

pub odd_is : (n : ℕ) → odd n ≡ true → (m : ℕ) × (n ≡ 2 * m + 1)
unfolding odd
odd_is n h =
    let e : n % 2 ≡ 1 = eqb-true (n % 2) 1 h in
    (n / 2, omega arith)

pub is_odd : (m : ℕ) → odd (2 * m + 1) ≡ true
unfolding odd
is_odd m = eq-eqb ((2 * m + 1) % 2) 1 (omega arith)

-- ---- "last"

module _ (p r : ℕ) where
  was_here : (past : Past ℕ) (b : ℕ) → eqb b p ≡ true → Last p r (past ▸ b)
  unfolding onto absent
  was_here past b e = record { earlier = past; later = []; split = ap (λ (x : ℕ). past ▸ x) (eqb-true b p e); no_p = refl; no_r = refl }

  absent_last : (q : ℕ) (l : List ℕ) (b : ℕ) → absent q l ≡ true → eqb b q ≡ false → absent q (l ++ (b ∷ [])) ≡ true
  unfolding absent
  absent_last q [] b h e = rw e
  absent_last q (x ∷ l) b h e =
      let k = (and-eq-true_iff (not (eqb x q)) (absent q l)).0 h in
      rw k.0 (absent_last q l b k.1 e)

  was_before : (past : Past ℕ) (b : ℕ) → eqb b p ≡ false → eqb b r ≡ false → Last p r past → Last p r (past ▸ b)
  was_before past b e f l =
      record {
        earlier = l.earlier;
        later = l.later ++ (b ∷ []);
        split = ap (λ (x : Past ℕ). x ▸ b) l.split ∙ sym (onto_last (l.earlier ▸ p) l.later b);
        no_p = absent_last p l.later b l.no_p e;
        no_r = absent_last r l.later b l.no_r f;
      }

  last_skip : (past : Past ℕ) (b : ℕ) → eqb b p ≡ false → eqb b r ≡ false → last_of p r (past ▸ b) ≡ last_of p r past
  unfolding last_of
  last_skip past b e f = rw (e, f)

  last_not : (past : Past ℕ) (b : ℕ) → eqb b p ≡ false → eqb b r ≡ true → last_of p r (past ▸ b) ≡ false
  unfolding last_of
  last_not past b e f = rw (e, f)

  pub last_is : (bytes : Past ℕ) → last_of p r bytes ≡ true → Last p r bytes
  unfolding last_of
  last_is nothing h = absurd (false≢true h)
  last_is (past ▸ b) h =
      ⊎_elim (was_here past b)
      (λ e. ⊎_elim
      (λ f. absurd (false≢true (sym (last_not past b e f) ∙ h)))
      (λ f. was_before past b e f (last_is past (sym (last_skip past b e f) ∙ h)))
      (which (eqb b r)))
      (which (eqb b p))

  last_stays : (later : List ℕ) (past : Past ℕ) → absent p later ≡ true → absent r later ≡ true → last_of p r past ≡ true → last_of p r (onto past later) ≡ true
  unfolding absent onto
  last_stays [] past np nr h = h
  last_stays (b ∷ later) past np nr h =
      let kp = (and-eq-true_iff (not (eqb b p)) (absent p later)).0 np in
      let kr = (and-eq-true_iff (not (eqb b r)) (absent r later)).0 nr in
      last_stays later (past ▸ b) kp.1 kr.1
      (last_skip past b (not-true (eqb b p) kp.0) (not-true (eqb b r) kr.0) ∙ h)

  last_here : (past : Past ℕ) → last_of p r (past ▸ p) ≡ true
  unfolding last_of
  last_here past = rw (eq-eqb p p refl)

  pub is_last : (bytes : Past ℕ) → Last p r bytes → last_of p r bytes ≡ true
  is_last bytes l = rw l.split (last_stays l.later (l.earlier ▸ p) l.no_p l.no_r (last_here l.earlier))

-- ---- the flags, byte by byte

module _ (c : ℕ) (hc : c < 128) (b : ℕ) where
  press_same : (b ≡ c) → (eqb (low_part b) c && is_press b) ≡ true
  press_same e = rw (eq-eqb (b % 128) c (omega arith), lt-ltb b 128 (omega arith))

  press_other : (b ≡ c → ⊥) → (x y : Bool) → eqb (low_part b) c ≡ x → is_press b ≡ y → (x && y) ≡ false
  press_other n false y ex ey = refl
  press_other n true false ex ey = refl
  press_other n true true ex ey = absurd (n (omega (arith, eqb-true (b % 128) c ex, ltb-true b 128 ey)))

  -- a stroke of the code that is a press is the byte of that code
  press_byte : (eqb (low_part b) c && is_press b) ≡ eqb b c
  press_byte =
      ⊎_elim (λ e. press_same (eqb-true b c e) ∙ sym e)
      (λ e. press_other (eqb-false b c e) (eqb (low_part b) c) (is_press b) refl refl ∙ sym e)
      (which (eqb b c))

  -- a stroke of the code is one of the pair of bytes, and a press where it is the first of them
  module _ (hb : b < 256) (old : Bool) where
    pair_press : b ≡ c → cond (eqb (low_part b) c) (is_press b) old ≡ cond (eqb b c) true (cond (eqb b (release_of c)) false old)
    pair_press e = rw (eq-eqb (b % 128) c (omega arith), lt-ltb b 128 (omega arith), eq-eqb b c e)

    pair_release : (b ≡ c → ⊥) → b ≡ release_of c → cond (eqb (low_part b) c) (is_press b) old ≡ cond (eqb b c) true (cond (eqb b (release_of c)) false old)
    pair_release n e = rw (eq-eqb (b % 128) c (omega arith), le-ltb b 128 (omega arith), ne_eqb b c n, eq-eqb b (release_of c) e)

    pair_none : (b ≡ c → ⊥) → (b ≡ release_of c → ⊥) → cond (eqb (low_part b) c) (is_press b) old ≡ cond (eqb b c) true (cond (eqb b (release_of c)) false old)
    pair_none n m = rw (ne_eqb (b % 128) c (λ e. ⊎_elim n m (split e)), ne_eqb b c n, ne_eqb b (release_of c) m)
      where
        small : (x : ℕ) → x < 2 → b ≡ x * 128 + c → (b ≡ c) ⊎ (b ≡ release_of c)
        small zero h e = inl (omega arith)
        small (suc zero) h e = inr (omega arith)
        small (suc (suc x)) h e = absurd (omega arith)

        split : b % 128 ≡ c → (b ≡ c) ⊎ (b ≡ release_of c)
        split e = small (b / 128) (omega arith) (omega arith)

    pair_bytes : cond (eqb (low_part b) c) (is_press b) old ≡ cond (eqb b c) true (cond (eqb b (release_of c)) false old)
    pair_bytes =
        ⊎_elim (λ e. pair_press (eqb-true b c e))
        (λ e. ⊎_elim (λ f. pair_release (eqb-false b c e) (eqb-true b (release_of c) f))
        (λ f. pair_none (eqb-false b c e) (eqb-false b (release_of c) f)) (which (eqb b (release_of c))))
        (which (eqb b c))

module _ (flag c : ℕ) (hc : c < 128) where
  times_bytes : (bytes : Past ℕ) → times (flag_row flag lock c) (strokes bytes) ≡ times_byte c bytes
  unfolding times times_byte strokes is_of
  times_bytes nothing = refl
  times_bytes (past ▸ b) =
      ap₂ (λ (x : Bool) (n : ℕ). cond x (suc n) n) (press_byte c hc b) (times_bytes past)

  -- a key that has the strokes of which f holds is judged by the bytes of which f holds
  module _ (k : Kind) (f : Bool → Bool) (hears : (b : ℕ) (x : Bool) → has k (stroke b x) ≡ f x) where
    abbrev r : FlagRow
    r = flag_row flag k c

    more_bytes : (past : Past ℕ) (b : ℕ) → b < 256 → last_was_press r (strokes past) ≡ last_of c (release_of c) (those f past) → (x : Bool)
        → cond (eqb (low_part b) c && x) (is_press b) (last_was_press r (strokes past)) ≡ last_of c (release_of c) (cond x (those f past ▸ b) (those f past))
    unfolding last_of
    more_bytes past b h ih false = rw (and-false (eqb (low_part b) c)) ih
    more_bytes past b h ih true =
        rw (and-true (eqb (low_part b) c)) (pair_bytes c hc b h (last_was_press r (strokes past)))
        ∙ ap (λ (x : Bool). cond (eqb b c) true (cond (eqb b (release_of c)) false x)) ih

    last_bytes : {bytes : Past ℕ} → AllBytes bytes → last_was_press r (strokes bytes) ≡ last_of c (release_of c) (those f bytes)
    unfolding last_was_press last_of strokes is_of those
    last_bytes no_bytes = refl
    last_bytes (one_more {past = past} {b = b} all h) =
        rw (hears b (prefix_said past)) (more_bytes past b h (last_bytes all) (f (prefix_said past)))

-- every byte is one of those of which nothing is asked
those_all : (bytes : Past ℕ) → those (λ x. true) bytes ≡ bytes
unfolding those
those_all nothing = refl
those_all (past ▸ b) = ap (λ (p : Past ℕ). p ▸ b) (those_all past)

-- what the strokes say of a row's key is the rule's sentence on its bytes
kind_bytes : (k : Kind) (flag c : ℕ) → c < 128 → {bytes : Past ℕ} → AllBytes bytes → said (strokes bytes) (flag_row flag k c) ≡ demanded k c bytes
unfolding said_of demanded
kind_bytes lock flag c h {bytes} all = ap odd (times_bytes flag c h bytes)
kind_bytes held flag c h {bytes} all =
    last_bytes flag c h held (λ x. true) (λ b x. refl) all ∙ ap (last_of c (release_of c)) (those_all bytes)
kind_bytes left flag c h all = last_bytes flag c h left not (λ b x. refl) all
kind_bytes right flag c h all = last_bytes flag c h right (λ x. x) (λ b x. refl) all

low_codes : List FlagRow → Bool
low_codes [] = true
low_codes (r ∷ rows) = ltb r.code 128 && low_codes rows

low_in : {r : FlagRow} {rows : List FlagRow} → low_codes rows ≡ true → Memᴰ r rows → r.code < 128
unfolding low_codes
low_in t (Memᴰ.head {x = x} {xs = xs} e) = rw e (ltb-true x.code 128 ((and-eq-true_iff (ltb x.code 128) (low_codes xs)).0 t).0)
low_in t (Memᴰ.tail {x = x} {xs = xs} m) = low_in ((and-eq-true_iff (ltb x.code 128) (low_codes xs)).0 t).1 m

table_low : (profile : Profile) → low_codes (followed profile) ≡ true
unfolding low_codes followed flag_table
table_low Profile.Any = refl
table_low Profile.Tournament = refl

-- each flag that the bytes say, of those that the profile follows, by the rule's sentence
pub flag_demanded : (profile : Profile) {bytes : Past ℕ} {r : FlagRow} → AllBytes bytes → Memᴰ r (followed profile)
    → bit r.flag (flags_said profile bytes) ≡ demanded r.kind r.code bytes
flag_demanded profile {bytes} {r} all m = flag_bit profile bytes m ∙ kind_bytes r.kind r.flag r.code (low_in (table_low profile) m) all

module _ {A : Type 0} (table : Table) (lamps : Side → ℕ → Exchange (Answer A)) where
  -- each flag of a side after a list of calls, by the rule's sentence on its counted bytes
  pub flag_after : {calls : Past Call} {r : FlagRow} → ByteCalls calls → Memᴰ r (followed table.profile) → (side : Side)
      → bit r.flag (keyboard_at side (after table lamps calls).state).modifiers.bits ≡ demanded r.kind r.code (counted_of table lamps side calls)
  flag_after {calls} {r} all m side = ap (bit r.flag) ((history table lamps calls).flags side) ∙ flag_demanded table.profile (counted_bytes table lamps all side).0 m

-- ---- the keys

-- the table's codes are those of the keys that its flags are named after
pub table_keys : map (λ (r : FlagRow). r.code) flag_table
    ≡ map number_of (Keycode.LeftShift ∷ Keycode.RightShift ∷ Keycode.Control ∷ Keycode.Control ∷ Keycode.Alt ∷ Keycode.SuperKeyLeft ∷ Keycode.SuperKeyRight
    ∷ Keycode.CapsLock ∷ Keycode.NumLock ∷ Keycode.ScrollLock ∷ Keycode.Alt ∷ [])
unfolding flag_table
table_keys = refl

-- an event's keycode has the scancode's low part for its number
pub keycode_number : (code : ℕ) → code ≤ last_keycode → number_of (keycode_at code) ≡ code
unfolding keycode_at keycode_of numbered keycodes
keycode_number code h = agree (λ c. number_of (keycode_at c)) (λ c. c) (suc last_keycode) tt code (omega arith)
