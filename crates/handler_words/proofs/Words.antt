-- A record's numbers, one by one: what storing does to the record that they stand for, and the numbers of a record, which stand for it.
use mathlib.Core.Path.{◌≡◌, refl, sym, ap, subst, ◌∙◌}
use mathlib.Core.Bool.{Bool, true, false, not, cond, ◌&&◌, ◌||◌, true≢false}
use mathlib.Core.List.{List, [], ◌∷◌, map}
use mathlib.Core.Option.{some}
use Prim.Native.Nat.{ℕ, suc, ◌+◌, ◌<◌}
use native.Mathlib.Omega.{arith}
use lib.Dec.{eqb, ltb}
use lib.ListN.{length, get_or, drop, set}
use lib.Seq.{drop-cons}
use Rattle.std.proofs.lemmas.List.{map-set}
use Rattle.bits.specs.Bits.{weigh}
use Rattle.keycodes_ascii.specs.declared.KeyEvent.{KeyEvent}
use Rattle.keyboard_scancodes.specs.declared.KeyboardState.{KeyboardState}
use Rattle.keyboard_scancodes.specs.declared.Profile.{Profile}
use Rattle.keyboard_scancodes.specs.Remembered.{keyboard_of, fresh_keyboard}
use Rattle.keyboard_sides.specs.declared.Side.{Side}
use Rattle.keyboard_sides.specs.declared.Sides.{Sides}
use Rattle.keyboard_record.specs.declared.HandlerState.{HandlerState}
use Rattle.keyboard_record.specs.declared.KeyboardHandler.{KeyboardHandler}
use Rattle.keyboard_record.specs.declared.Keyboards.{Keyboards}
use Rattle.keyboard_record.specs.Record.{at_table, with_keyboard}
use Rattle.handler_words.specs.Layout.{keyboard_from, words_length}
use Rattle.handler_words.specs.Words.{event_at, word_of, keyboards_of, keyboards_number, profile_of, profile_number, keyboard_of_words, keyboard_in, names_all, state_of, record_of, low_bytes, high_bytes, words_of, KeyboardFits, Fits}
use Rattle.handler_words.specs.Calls.{with_keyboard_at, with_event}
use Rattle.handler_words.specs.Parts.{Narrow}
use Rattle.handler_words.proofs.Bytes.{bytes_found, all_bytes}
use Rattle.handler_words.proofs.Events.{event_at_lem}

-- ---- the numbers of a keyboard and of a table stand for them

weighed : (b : Bool) → not (eqb (weigh b) 0) ≡ b
weighed true = refl
weighed false = refl

keyboards_back : (k : Keyboards) → keyboards_of (keyboards_number k) ≡ k
keyboards_back Keyboards.One = refl
keyboards_back Keyboards.Two = refl

profile_back : (p : Profile) → profile_of (profile_number p) ≡ p
profile_back Profile.Any = refl
profile_back Profile.Tournament = refl

same_keyboard : {p q : Bool} {f c : ℕ} {x y : List ℕ} → p ≡ q → x ≡ y → keyboard_of p f (record { bytes = x; count = c }) ≡ keyboard_of q f (record { bytes = y; count = c })
same_keyboard e f = cc

module _ (k : KeyboardState) where
  pub keyboard_back : Narrow k → length k.waiting.bytes ≡ 16
      → keyboard_of_words (weigh k.prefix) k.modifiers.bits k.waiting.count (low_bytes k) (high_bytes k) ≡ k
  keyboard_back n h =
      same_keyboard (weighed k.prefix) (rw (n.low_is, n.high_is) (all_bytes k.waiting.bytes h))

  pub fits_narrow : KeyboardFits k → Narrow k
  fits_narrow f =
      record { flags_in = f.flags_in; count_in = f.count_in; low_is = bytes_found k.waiting.bytes 0 8 f.each_byte_in; high_is = bytes_found k.waiting.bytes 8 8 f.each_byte_in }

-- ---- the first sixteen numbers of a list

module _ (ws : List ℕ) (h : length ws ≡ words_length) where
  opens : (j : ℕ) → j < 16 → drop j ws ≡ get_or ws j 0 ∷ drop (suc j) ws
  opens j l = drop-cons ws j 0 (omega (arith, h))

-- what holds of every list that begins with sixteen numbers holds of a record's
pub by_numbers : (P : List ℕ → Type 0)
    → ((a b c d e f g i j k l m n o p q : ℕ) (rest : List ℕ) → P (a ∷ b ∷ c ∷ d ∷ e ∷ f ∷ g ∷ i ∷ j ∷ k ∷ l ∷ m ∷ n ∷ o ∷ p ∷ q ∷ rest))
    → (ws : List ℕ) → length ws ≡ words_length → P ws
by_numbers P all ws h =
    let o = opens ws h in
    let at : ℕ → ℕ = λ j. get_or ws j 0 in
    let e : ws ≡ at 0 ∷ at 1 ∷ at 2 ∷ at 3 ∷ at 4 ∷ at 5 ∷ at 6 ∷ at 7 ∷ at 8 ∷ at 9 ∷ at 10 ∷ at 11 ∷ at 12 ∷ at 13 ∷ at 14 ∷ at 15 ∷ drop 16 ws =
    o 0 (omega arith) ∙ ap (λ (r : List ℕ). at 0 ∷ r) (o 1 (omega arith) ∙ ap (λ (r : List ℕ). at 1 ∷ r) (o 2 (omega arith) ∙ ap (λ (r : List ℕ). at 2 ∷ r) (o 3 (omega arith)
    ∙ ap (λ (r : List ℕ). at 3 ∷ r) (o 4 (omega arith) ∙ ap (λ (r : List ℕ). at 4 ∷ r) (o 5 (omega arith) ∙ ap (λ (r : List ℕ). at 5 ∷ r) (o 6 (omega arith)
    ∙ ap (λ (r : List ℕ). at 6 ∷ r) (o 7 (omega arith) ∙ ap (λ (r : List ℕ). at 7 ∷ r) (o 8 (omega arith) ∙ ap (λ (r : List ℕ). at 8 ∷ r) (o 9 (omega arith)
    ∙ ap (λ (r : List ℕ). at 9 ∷ r) (o 10 (omega arith) ∙ ap (λ (r : List ℕ). at 10 ∷ r) (o 11 (omega arith) ∙ ap (λ (r : List ℕ). at 11 ∷ r) (o 12 (omega arith)
    ∙ ap (λ (r : List ℕ). at 12 ∷ r) (o 13 (omega arith) ∙ ap (λ (r : List ℕ). at 13 ∷ r) (o 14 (omega arith) ∙ ap (λ (r : List ℕ). at 14 ∷ r) (o 15 (omega arith))))))))))))))))
    in
    subst P (sym e) (all (at 0) (at 1) (at 2) (at 3) (at 4) (at 5) (at 6) (at 7) (at 8) (at 9) (at 10) (at 11) (at 12) (at 13) (at 14) (at 15) (drop 16 ws))

-- ---- a keyboard stored

-- the state has it, and the places are as they were
abbrev Stored : Side → KeyboardState → List ℕ → Type 0
Stored side k ws =
    names_all ws ≡ true → at_table (state_of ws).table.keyboards side ≡ true
    → record_of (with_keyboard_at (keyboard_from side) k ws) ≡ record { state = with_keyboard side k (state_of ws); places = (record_of ws).places }

two_only : (two : Bool) → at_table (cond two Keyboards.Two Keyboards.One) Side.Second ≡ true → two ≡ true
two_only true t = refl
two_only false t = t

-- a prefix that is stored is off or on
weighed_in : (b : Bool) → ltb (weigh b) 2 ≡ true
weighed_in true = refl
weighed_in false = refl

other_first : (x y profile rest : Bool) → y ≡ true → (x && profile) && rest ≡ true → (y && profile) && rest ≡ true
other_first true y profile rest h e = rw h e
other_first false y profile rest h e = absurd (true≢false (sym e))

other_second : (x y front one two : Bool) → y ≡ true → front && (one || (two && x)) ≡ true → front && (one || (two && y)) ≡ true
other_second true y front one two h e = rw h e
other_second false y true true two h e = refl
other_second false y true false true h e = h
other_second false y true false false h e = e
other_second false y false one two h e = e

module _ (k : KeyboardState) where
  names_stored : (side : Side) (a b c d e f g i j m l o p q r s : ℕ) (rest : List ℕ) → names_all (a ∷ b ∷ c ∷ d ∷ e ∷ f ∷ g ∷ i ∷ j ∷ m ∷ l ∷ o ∷ p ∷ q ∷ r ∷ s ∷ rest) ≡ true
      → names_all (with_keyboard_at (keyboard_from side) k (a ∷ b ∷ c ∷ d ∷ e ∷ f ∷ g ∷ i ∷ j ∷ m ∷ l ∷ o ∷ p ∷ q ∷ r ∷ s ∷ rest)) ≡ true
  unfolding names_all
  names_stored Side.First a b c d e f g i j m l o p q r s rest = other_first (ltb a 2) (ltb (weigh k.prefix) 2) (ltb o 2) (eqb l 1 || (eqb l 2 && ltb f 2)) (weighed_in k.prefix)
  names_stored Side.Second a b c d e f g i j m l o p q r s rest = other_second (ltb f 2) (ltb (weigh k.prefix) 2) (ltb a 2 && ltb o 2) (eqb l 1) (eqb l 2) (weighed_in k.prefix)

module _ (k : KeyboardState) (n : Narrow k) (w : length k.waiting.bytes ≡ 16) where
  stored : (side : Side) (a b c d e f g i j m l o p q r s : ℕ) (rest : List ℕ) → Stored side k (a ∷ b ∷ c ∷ d ∷ e ∷ f ∷ g ∷ i ∷ j ∷ m ∷ l ∷ o ∷ p ∷ q ∷ r ∷ s ∷ rest)
  unfolding state_of keyboard_in
  stored Side.First a b c d e f g i j m l o p q r s rest v t = rw (keyboard_back k n w, names_stored k Side.First a b c d e f g i j m l o p q r s rest v, v)
  stored Side.Second a b c d e f g i j m l o p q r s rest v t =
      rw (two_only (eqb l 2) t, keyboard_back k n w, names_stored k Side.Second a b c d e f g i j m l o p q r s rest v, v)

  pub keyboard_stored : (side : Side) (ws : List ℕ) → length ws ≡ words_length → Stored side k ws
  keyboard_stored side = by_numbers (Stored side k) (stored side)

-- ---- a new event stored

-- a state with another count and other sides
abbrev pub with_queue : ℕ → Sides → HandlerState → HandlerState
with_queue count sides s = record { first = s.first; second = s.second; table = s.table; start = s.start; count = count; sides = sides }

module _ (place : ℕ) (left : HandlerState) (e : KeyEvent) (is : event_at (word_of e) ≡ e) where
  abbrev Queued : List ℕ → Type 0
  Queued ws = record_of (with_event place left (some e) ws) ≡ record { state = with_queue left.count left.sides (state_of ws); places = set (record_of ws).places place e }

  queued : (a b c d f g i j k l m n o p q r : ℕ) (rest : List ℕ) → Queued (a ∷ b ∷ c ∷ d ∷ f ∷ g ∷ i ∷ j ∷ k ∷ l ∷ m ∷ n ∷ o ∷ p ∷ q ∷ r ∷ rest)
  unfolding state_of keyboard_in names_all
  queued a b c d f g i j k l m n o p q r rest =
      let z : 16 + place ≡ suc (suc (suc (suc (suc (suc (suc (suc (suc (suc (suc (suc (suc (suc (suc (suc place))))))))))))))) = omega arith in
      rw (z, map-set event_at rest place (word_of e), is)

  pub event_stored : (ws : List ℕ) → length ws ≡ words_length → Queued ws
  event_stored = by_numbers Queued queued

-- ---- the numbers of a record stand for it

map_back : {A B : Type 0} (f : A → B) (g : B → A) (l : List A) (d : A) → ((i : ℕ) → i < length l → g (f (get_or l i d)) ≡ get_or l i d) → map g (map f l) ≡ l
map_back f g [] d h = refl
map_back f g (x ∷ l) d h = rw (h 0 (omega arith), map_back f g l d (λ i n. h (suc i) (omega arith)))

same_record : {a b c d : KeyboardState} {k m : Keyboards} {p q : Profile} {s t n : ℕ} {sides : Sides} {x y : List KeyEvent} → a ≡ b → c ≡ d → k ≡ m → p ≡ q → s ≡ t → x ≡ y
    → ◌≡◌ {A = KeyboardHandler} (record { state = record { first = a; second = c; table = record { keyboards = k; profile = p }; start = s; count = n; sides = sides }; places = x })
    (record { state = record { first = b; second = d; table = record { keyboards = m; profile = q }; start = t; count = n; sides = sides }; places = y })
same_record a c k p s x = cc

-- a record's numbers name all that they should
names_numbers : (first second : Bool) (k : Keyboards) (p : Profile)
    → (ltb (weigh first) 2 && ltb (profile_number p) 2) && (eqb (keyboards_number k) 1 || (eqb (keyboards_number k) 2 && ltb (weigh second) 2)) ≡ true
names_numbers first second Keyboards.One Profile.Any = rw (weighed_in first) refl
names_numbers first second Keyboards.One Profile.Tournament = rw (weighed_in first) refl
names_numbers first second Keyboards.Two Profile.Any = rw (weighed_in first, weighed_in second) refl
names_numbers first second Keyboards.Two Profile.Tournament = rw (weighed_in first, weighed_in second) refl

pub record_names : (h : KeyboardHandler) → names_all (words_of h) ≡ true
unfolding names_all
record_names h = names_numbers h.state.first.prefix h.state.second.prefix h.state.table.keyboards h.state.table.profile

second_back : (k : Keyboards) (x y : KeyboardState) → x ≡ y → (k ≡ Keyboards.One → y ≡ fresh_keyboard) → cond (eqb (keyboards_number k) 2) x fresh_keyboard ≡ y
second_back Keyboards.One x y e f = sym (f refl)
second_back Keyboards.Two x y e f = e

-- "its inverse": the numbers of a record, each of which fits its width, stand for this record
pub record_words : (h : KeyboardHandler) → Fits h → record_of (words_of h) ≡ h
unfolding state_of keyboard_in
record_words h f =
    same_record (keyboard_back h.state.first (fits_narrow _ f.first) f.first.length_is)
    (second_back h.state.table.keyboards _ h.state.second (keyboard_back h.state.second (fits_narrow _ f.second) f.second.length_is) f.at_table) (keyboards_back h.state.table.keyboards)
    (profile_back h.state.table.profile) (ap (λ b. cond b h.state.start 128) (record_names h)) (map_back word_of event_at h.places (event_at 0) (λ i l. event_at_lem _ (f.places i (event_at 0) l)))
