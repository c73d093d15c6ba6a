-- The words of the rule mean over set 2 what they should: the flags, code by code.
use mathlib.Core.Path.{◌≡◌, refl, sym, ap, ◌∙◌, subst}
use mathlib.Core.Bool.{Bool, true, false, not, cond, ◌&&◌, and-true, and-false, beq}
use mathlib.Core.List.{List, map, Memᴰ}
use mathlib.Core.Logic.{⊎_elim}
use mathlib.Core.Option.{some}
use Prim.Native.Nat.{ℕ, suc, ◌+◌, ◌%◌, ◌<◌}
use native.Mathlib.Omega.{arith}
use lib.Dec.{T, eqb, ltb, ltb→lt}
use lib.ListN.{take}
use mir.Facts.{and_yes}
use borrow.Author.Tests.{ltb-true, ltb-false, lt-ltb, le-ltb, ne_eqb, eqb-true}
use Rattle.bits.specs.Bits.{odd, bit}
use Rattle.bits.proofs.Every.{every, agree_bool, each}
use Rattle.exchange.specs.Exchange.{Exchange}
use Rattle.exchange.specs.Answer.{Answer}
use Rattle.scancode_set2.specs.Table.{printed, entry_of}
use Rattle.scancode_set2.specs.Codes.{is_prefix, Code}
use Rattle.scancode_set2.specs.Convert.{with_top_bit, convert_stream}
use Rattle.scancode_set2.proofs.Table.{entry_above, entry_press}
use Rattle.scancode_set2.proofs.Becomes.{top_bit}
use Rattle.scancode_set2.proofs.Laws.{convert_became}
use Rattle.keyboard_sides.specs.declared.Side.{Side}
use Rattle.keyboard_record.specs.declared.Table.{Table}
use Rattle.keyboard_record.specs.Record.{keyboard_at}
use Rattle.keyboard_scancodes.specs.Strokes.{stroke, low_part, is_press}
use Rattle.keyboard_scancodes.specs.declared.Profile.{Profile}
use Rattle.keyboard_scancodes.specs.Profile.{without_locks, followed}
use Rattle.keyboard_scancodes.specs.FlagTable.{Kind, lock, held, left, right, FlagRow, flag_row, flag_table, is_of, has}
use Rattle.keyboard_scancodes.proofs.Tests.{one_holds}
use Rattle.theorem_history.specs.Past.{Past, nothing, ◌▸◌, onto}
use Rattle.theorem_history.specs.Said.{prefix_said, strokes, times, last_was_press, said_of, said, flags_said}
use Rattle.theorem_history.specs.Counted.{Call, counted_of}
use Rattle.theorem_history.specs.Run.{after}
use Rattle.theorem_history.proofs.Flags.{flag_bit}
use Rattle.theorem_history.proofs.History.{history}
use Rattle.theorem_history.proofs.Referees.{LocksOff, word_locks_off}
use Rattle.theorem_history_set2.specs.SaidSet2.{prefix_set2, key_of, strokes_set2, flags_set2}
use Rattle.theorem_history_set2.specs.HistorySet2.{codes_of}
use Rattle.theorem_history_set2.specs.Demanded.{flag_codes, times_alone, last_alone, those, demanded_set2}
use Rattle.theorem_history_set2.proofs.Says.{Says, a_prefix, a_press, a_release, says}
use Rattle.theorem_history_set2.proofs.Alike.{Reads, no_reads, one_read, reads_all, prefix_reads}

-- ---- the keys of the flags

-- the row with the key's code in set 1
abbrev in_set1 : FlagRow → FlagRow
in_set1 r = flag_row r.flag r.kind (key_of r.code)

-- the codes are those of the keys that the table of flags has
pub flag_codes_lem : map in_set1 flag_codes ≡ flag_table
unfolding entry_of printed flag_table
flag_codes_lem = refl

-- a code that no other code shares its key with, and that is no prefix
record Flagged (p : ℕ) : Type 0 where
  pub alike : (c : ℕ) → eqb (key_of c) (key_of p) ≡ eqb c p
  pub no_prefix : (b : ℕ) → is_prefix b ≡ true → (eqb (low_part b) (key_of p) ≡ false) × (eqb b p ≡ false)

abbrev is_flagged : ℕ → Bool
is_flagged p =
    every (λ (c : ℕ). beq (eqb (key_of c) (key_of p)) (eqb c p)) 0x85
    && (ltb 0 (key_of p) && (ltb (key_of p) 0x60 && ltb p 0x85))

module _ (p : ℕ) (t : T (is_flagged p)) where
  abbrev shared : ℕ → Bool
  shared c = beq (eqb (key_of c) (key_of p)) (eqb c p)

  abbrev low : Bool
  low = ltb 0 (key_of p) && (ltb (key_of p) 0x60 && ltb p 0x85)

  bounds : (0 < key_of p) × (key_of p < 0x60) × (p < 0x85)
  bounds =
      let l = and_yes (ltb 0 (key_of p)) (ltb (key_of p) 0x60 && ltb p 0x85) (and_yes (every shared 0x85) low t).1 in
      let m = and_yes (ltb (key_of p) 0x60) (ltb p 0x85) l.1 in
      (ltb→lt 0 (key_of p) l.0, ltb→lt (key_of p) 0x60 m.0, ltb→lt p 0x85 m.1)

  flagged : Flagged p
  flagged = record { alike = λ c. by c (ltb c 0x85) refl; no_prefix = none }
    where
      by : (c : ℕ) (u : Bool) → ltb c 0x85 ≡ u → eqb (key_of c) (key_of p) ≡ eqb c p
      by c true h = agree_bool (λ (c : ℕ). eqb (key_of c) (key_of p)) (λ (c : ℕ). eqb c p) 0x85 (and_yes (every shared 0x85) low t).0 c (ltb-true c 0x85 h)
      by c false h =
          let l = ltb-false c 0x85 h in
          let b = bounds in
          rw (entry_above c (omega arith)) (ne_eqb 0 (key_of p) (λ e. omega arith) ∙ sym (ne_eqb c p (λ e. omega arith)))

      is_e0 : (b : ℕ) → b ≡ 0xE0 → (eqb (low_part b) (key_of p) ≡ false) × (eqb b p ≡ false)
      is_e0 b e = let l = bounds in rw e (ne_eqb 0x60 (key_of p) (λ z. omega arith), ne_eqb 0xE0 p (λ z. omega arith))

      is_e1 : (b : ℕ) → b ≡ 0xE1 → (eqb (low_part b) (key_of p) ≡ false) × (eqb b p ≡ false)
      is_e1 b e = let l = bounds in rw e (ne_eqb 0x61 (key_of p) (λ z. omega arith), ne_eqb 0xE1 p (λ z. omega arith))

      none : (b : ℕ) → is_prefix b ≡ true → (eqb (low_part b) (key_of p) ≡ false) × (eqb b p ≡ false)
      none b h = ⊎_elim (λ e. is_e0 b (eqb-true b 0xE0 e)) (λ e. is_e1 b (eqb-true b 0xE1 e)) (one_holds (eqb b 0xE0) (eqb b 0xE1) h)

each_in : (f : FlagRow → Bool) {r : FlagRow} {rows : List FlagRow} → T (each f rows) → Memᴰ r rows → T (f r)
each_in f t (Memᴰ.head {x = x} {xs = xs} e) = rw e (and_yes (f x) (each f xs) t).0
each_in f t (Memᴰ.tail {x = x} {xs = xs} m) = each_in f (and_yes (f x) (each f xs) t).1 m

-- ---- one code

module _ (p : ℕ) (k : Flagged p) where
  -- a byte's key is p's where the code is p
  key_press : (c : ℕ) {e : ℕ} → entry_of c ≡ some e → (eqb (low_part e) (key_of p) ≡ eqb c p) × (is_press e ≡ true)
  key_press c {e} h =
      let l = (entry_press c h).1 in
      let m : e % 0x80 ≡ key_of c = rw h (omega arith) in
      (ap (λ (n : ℕ). eqb n (key_of p)) m ∙ k.alike c, lt-ltb e 0x80 l)

  key_release : (c : ℕ) {e : ℕ} → entry_of c ≡ some e → (eqb (low_part (with_top_bit e)) (key_of p) ≡ eqb c p) × (is_press (with_top_bit e) ≡ false)
  key_release c {e} h =
      let l = (entry_press c h).1 in
      let m : (e + 0x80) % 0x80 ≡ key_of c = rw h (omega arith) in
      rw (top_bit e l) (ap (λ (n : ℕ). eqb n (key_of p)) m ∙ k.alike c, le-ltb (e + 0x80) 0x80 (omega arith))

  -- of a lock's presses, one more
  times_more : (codes : Past Code) {c : Code} {b : ℕ} → Says c b → times_alone p (codes ▸ c) ≡ cond (eqb (low_part b) (key_of p) && is_press b) (suc (times_alone p codes)) (times_alone p codes)
  unfolding times_alone
  times_more codes (a_prefix {b = b} h) = let n = k.no_prefix b h in rw (n.0, n.1)
  times_more codes (a_press {c = c} h) = let n = key_press c h in rw (n.0, n.1, and-true (eqb c p))
  times_more codes (a_release {c = c} h) = let n = key_release c h in rw (n.0, n.1, and-false (eqb c p))

  -- of a key's strokes, one more
  last_more : (codes : Past Code) {c : Code} {b : ℕ} → Says c b → last_alone p (codes ▸ c) ≡ cond (eqb (low_part b) (key_of p)) (is_press b) (last_alone p codes)
  unfolding last_alone
  last_more codes (a_prefix {b = b} h) = let n = k.no_prefix b h in rw (n.0, n.1)
  last_more codes (a_press {c = c} h) = let n = key_press c h in rw (n.0, n.1)
  last_more codes (a_release {c = c} h) = let n = key_release c h in rw (n.0, n.1)

  -- ---- all codes

  module _ (flag : ℕ) where
    times_codes : {codes : Past Code} {bytes : Past ℕ} → Reads codes bytes → times (flag_row flag lock (key_of p)) (strokes bytes) ≡ times_alone p codes
    unfolding times times_alone strokes is_of
    times_codes no_reads = refl
    times_codes (one_read {codes = codes} {c = c} {b = b} r q) =
        ap (λ (n : ℕ). cond (eqb (low_part b) (key_of p) && is_press b) (suc n) n) (times_codes r) ∙ sym (times_more codes (says c q))

    -- a key that has the strokes of which f holds is judged by the codes of which f holds
    module _ (kind : Kind) (f : Bool → Bool) (hears : (b : ℕ) (x : Bool) → has kind (stroke b x) ≡ f x) where
      abbrev row : FlagRow
      row = flag_row flag kind (key_of p)

      more_codes : (codes : Past Code) (old : Bool) {c : Code} {b : ℕ} → Says c b → old ≡ last_alone p (those f codes) → (x : Bool)
          → cond (eqb (low_part b) (key_of p) && x) (is_press b) old ≡ last_alone p (cond x (those f codes ▸ c) (those f codes))
      more_codes codes old {c} {b} s e false = rw (and-false (eqb (low_part b) (key_of p))) e
      more_codes codes old {c} {b} s e true =
          rw (and-true (eqb (low_part b) (key_of p))) (ap (cond (eqb (low_part b) (key_of p)) (is_press b)) e ∙ sym (last_more (those f codes) s))

      last_codes : {codes : Past Code} {bytes : Past ℕ} → Reads codes bytes → last_was_press row (strokes bytes) ≡ last_alone p (those f codes)
      unfolding last_was_press last_alone strokes is_of those
      last_codes no_reads = refl
      last_codes (one_read {codes = codes} {bytes = bytes} {c = c} {b = b} r q) =
          rw (hears b (prefix_said bytes), prefix_reads r) (more_codes codes (last_was_press row (strokes bytes)) (says c q) (last_codes r) (f (prefix_set2 codes)))

-- every code is one of those of which nothing is asked
those_all : (codes : Past Code) → those (λ x. true) codes ≡ codes
unfolding those
those_all nothing = refl
those_all (past ▸ c) = ap (λ (p : Past Code). p ▸ c) (those_all past)

-- what the strokes of the bytes say of a row's key is the rule's sentence on the codes
kind_codes : (k : Kind) (flag p : ℕ) → Flagged p → {codes : Past Code} {bytes : Past ℕ} → Reads codes bytes
    → said (strokes bytes) (flag_row flag k (key_of p)) ≡ demanded_set2 k p codes
unfolding said_of demanded_set2
kind_codes lock flag p h r = ap odd (times_codes p h flag r)
kind_codes held flag p h {codes} r = last_codes p h flag held (λ x. true) (λ b x. refl) r ∙ ap (last_alone p) (those_all codes)
kind_codes left flag p h r = last_codes p h flag left not (λ b x. refl) r
kind_codes right flag p h r = last_codes p h flag right (λ x. x) (λ b x. refl) r

in_table : {r : FlagRow} {rows : List FlagRow} → Memᴰ r rows → Memᴰ (in_set1 r) (map in_set1 rows)
in_table (Memᴰ.head e) = Memᴰ.head (ap in_set1 e)
in_table (Memᴰ.tail m) = Memᴰ.tail (in_table m)

-- the rows of set 2 that a profile follows
abbrev followed_codes : Profile → List FlagRow
followed_codes Profile.Any = flag_codes
followed_codes Profile.Tournament = without_locks flag_codes

followed_codes_lem : (profile : Profile) → map in_set1 (followed_codes profile) ≡ followed profile
unfolding followed entry_of printed flag_table
followed_codes_lem Profile.Any = refl
followed_codes_lem Profile.Tournament = refl

followed_flagged : (profile : Profile) → T (each (λ (r : FlagRow). is_flagged r.code) (followed_codes profile))
unfolding entry_of printed
followed_flagged Profile.Any = tt
followed_flagged Profile.Tournament = tt

flag_codes_said : (profile : Profile) {r : FlagRow} → Memᴰ r (followed_codes profile) → {codes : Past Code} {bytes : Past ℕ} → Reads codes bytes
    → bit r.flag (flags_said profile bytes) ≡ demanded_set2 r.kind r.code codes
flag_codes_said profile {r} m {codes} {bytes} h =
    flag_bit profile bytes {r = in_set1 r} (subst (Memᴰ (in_set1 r)) (followed_codes_lem profile) (in_table m))
    ∙ kind_codes r.kind r.flag r.code (flagged r.code (each_in (λ (r : FlagRow). is_flagged r.code) (followed_flagged profile) m)) h

-- each flag of a side after a list of calls in which its counted scancodes are a converted stream, by the rule's sentence on the codes that were used
module _ {A : Type 0} (table : Table) (lamps : Side → ℕ → Exchange (Answer A)) where
  pub flag_set2 : (side : Side) (calls : Past Call) (stream : List ℕ) (room : ℕ) {r : FlagRow} → Memᴰ r (followed_codes table.profile)
      → counted_of table lamps side calls ≡ onto nothing (convert_stream stream room).bytes
      → bit r.flag (keyboard_at side (after table lamps calls).state).modifiers.bits ≡ demanded_set2 r.kind r.code (codes_of (take (convert_stream stream room).used stream))
  flag_set2 side calls stream room {r} m e =
      ap (bit r.flag) ((history table lamps calls).flags side ∙ ap (flags_said table.profile) e) ∙ flag_codes_said table.profile m (reads_all (convert_became stream room))

-- "under the profile the lock rule reads "off"", whatever the codes
pub locks_off_set2 : (codes : Past Code) → LocksOff (flags_set2 Profile.Tournament codes)
unfolding flags_set2
locks_off_set2 codes = word_locks_off (said (strokes_set2 codes))
