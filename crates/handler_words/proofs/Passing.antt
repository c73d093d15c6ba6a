-- What 21 asks of the numbers: where they don't pass, they stand for no well-formed record; where they pass, each is found in its field.
use mathlib.Core.Path.{◌≡◌, refl, sym, ap, ◌∙◌}
use mathlib.Core.Bool.{Bool, true, false, cond, ◌&&◌, ◌||◌, and-false, and-eq-true_iff, true≢false}
use mathlib.Core.Logic.{⊎_elim}
use mathlib.Core.List.{List}
use Prim.Native.Nat.{ℕ, ◌+◌, ◌<◌, ◌≤◌}
use native.Mathlib.Omega.{arith}
use lib.Dec.{eqb, leb, ltb}
use lib.ListN.{get_or}
use borrow.Author.Tests.{ltb-true, lt-ltb, le-ltb, le-leb, lt-leb, ne_eqb, eqb-true}
use Rattle.ps2_kept.specs.Kept.{kept_limit}
use Rattle.keyboard_scancodes.specs.declared.KeyboardState.{KeyboardState}
use Rattle.keyboard_scancodes.specs.FlagTable.{flag_table, flag_limit}
use Rattle.keyboard_scancodes.specs.Remembered.{fresh_keyboard}
use Rattle.keyboard_scancodes.proofs.Tests.{which}
use Rattle.keyboard_sides.specs.declared.Side.{Side}
use Rattle.keyboard_record.specs.declared.Keyboards.{Keyboards}
use Rattle.keyboard_record.specs.Queue.{are_two}
use Rattle.keyboard_record.specs.Record.{keyboard_formed, well_formed, call_formed, is_ready}
use Rattle.keyboard_record.proofs.WellFormed.{WellFormed, well_is, is_formed, formed_is, call_is}
use Rattle.keyboard_record.proofs.Ready.{ready_says}
use Rattle.handler_words.specs.Layout.{first_at, second_at, keyboards_at, profile_at, start_at}
use Rattle.handler_words.specs.Words.{byte_limit, flags_limit, keyboards_of, keyboard_in, second_in, names_all, state_of}
use Rattle.handler_words.specs.Parts.{keyboard_passes, sides_pass, followed_by}

-- ---- asked one after the other

-- an answer that is no where a number is above its limit
asked_last : (b : Bool) (n most : ℕ) → (b ≡ true → n ≤ most) → (b ≡ false → most < n) → b ≡ leb n most
asked_last true n most y x = sym (le-leb n most (y refl))
asked_last false n most y x = sym (lt-leb n most (x refl))

module _ (ws : List ℕ) (at : ℕ) where
  pub all_asked : (b : Bool) → get_or ws at 0 < 2 → get_or ws (at + 1) 0 < flag_limit → (b ≡ true → get_or ws (at + 2) 0 ≤ kept_limit) → (b ≡ false → kept_limit < get_or ws (at + 2) 0)
      → b ≡ keyboard_passes at ws
  unfolding keyboard_in keyboard_formed
  all_asked b p f y x = rw (lt-ltb _ _ p, lt-ltb _ _ f) (asked_last b _ kept_limit y x)

  pub prefix_fails : 2 ≤ get_or ws at 0 → false ≡ keyboard_passes at ws
  prefix_fails p = rw (le-ltb _ _ p) refl

  pub flags_fail : flag_limit ≤ get_or ws (at + 1) 0 → false ≡ keyboard_passes at ws
  unfolding keyboard_in keyboard_formed
  flags_fail f = rw (le-ltb _ _ f) (sym (and-false (ltb (get_or ws at 0) 2)))

-- the flags' limit as a number
pub flag_limit_is : flag_limit ≡ 2048
unfolding flag_limit flag_table
flag_limit_is = refl

module _ (ws : List ℕ) where
  pub first_fails : keyboard_passes first_at ws ≡ false → false ≡ sides_pass ws
  unfolding sides_pass
  first_fails f = rw f refl

  pub profile_fails : 2 ≤ get_or ws profile_at 0 → false ≡ sides_pass ws
  unfolding sides_pass
  profile_fails p = rw (le-ltb _ _ p) (sym (rw (and-false (keyboard_passes first_at ws)) refl))

  module _ (f : keyboard_passes first_at ws ≡ true) (p : get_or ws profile_at 0 < 2) where
    pub one_passes : get_or ws keyboards_at 0 ≡ 1 → true ≡ sides_pass ws
    unfolding sides_pass
    one_passes k = rw (f, lt-ltb _ _ p, k) refl

    pub two_asked : get_or ws keyboards_at 0 ≡ 2 → keyboard_passes second_at ws ≡ sides_pass ws
    unfolding sides_pass
    two_asked k = rw (f, lt-ltb _ _ p, k) refl

    pub no_number : (get_or ws keyboards_at 0 ≡ 1 → ⊥) → (get_or ws keyboards_at 0 ≡ 2 → ⊥) → false ≡ sides_pass ws
    unfolding sides_pass
    no_number o t = rw (f, lt-ltb _ _ p, ne_eqb _ _ o, ne_eqb _ _ t) refl

-- ---- the numbers of a well-formed record name all

start_names : (b : Bool) (n : ℕ) → cond b n 128 < 128 → b ≡ true
start_names true n h = refl
start_names false n h = absurd (omega (arith, h))

pub well_names : (ws : List ℕ) → WellFormed (state_of ws) → names_all ws ≡ true
unfolding state_of
well_names ws w = start_names (names_all ws) (get_or ws start_at 0) w.start_in

-- ---- and pass

with_second : (one two said formed : Bool) → one || (two && said) ≡ true → (two ≡ true → formed ≡ true) → one || (two && (said && formed)) ≡ true
with_second true two said formed e h = refl
with_second false true said formed e h = rw (e, h refl)
with_second false false said formed e h = e

first_formed : (ws : List ℕ) (two : Bool) → eqb (get_or ws keyboards_at 0) 2 ≡ two → WellFormed (state_of ws) → keyboard_formed (keyboard_in ws first_at) ≡ true
unfolding state_of
first_formed ws true e w = is_formed (keyboard_in ws first_at) (w.at Side.First (rw e))
first_formed ws false e w = is_formed (keyboard_in ws first_at) (w.at Side.First (rw e))

second_formed : (ws : List ℕ) → WellFormed (state_of ws) → eqb (get_or ws keyboards_at 0) 2 ≡ true → keyboard_formed (keyboard_in ws second_at) ≡ true
unfolding state_of
second_formed ws w e = is_formed (keyboard_in ws second_at) (rw e at (w.at Side.Second (rw e)))

pub well_passes : (ws : List ℕ) → WellFormed (state_of ws) → sides_pass ws ≡ true
unfolding sides_pass names_all
well_passes ws w =
    let k = get_or ws keyboards_at 0 in
    let first = ltb (get_or ws first_at 0) 2 in
    let profile = ltb (get_or ws profile_at 0) 2 in
    let second = ltb (get_or ws second_at 0) 2 in
    let p = (and-eq-true_iff (first && profile) (eqb k 1 || (eqb k 2 && second))).0 (well_names ws w) in
    let q = (and-eq-true_iff first profile).0 p.0 in
    rw (q.0, first_formed ws (eqb k 2) refl w, q.1) (with_second (eqb k 1) (eqb k 2) second (keyboard_formed (keyboard_in ws second_at)) p.1 (second_formed ws w))

pub not_passing : (ws : List ℕ) → sides_pass ws ≡ false → well_formed (state_of ws) ≡ false
not_passing ws e =
    ⊎_elim (λ w. absurd (true≢false (sym (well_passes ws (well_is (state_of ws) w)) ∙ e))) (λ n. n) (which (well_formed (state_of ws)))

pub uncalled : (ws : List ℕ) (side : Side) → sides_pass ws ≡ false → call_formed side (state_of ws) ≡ false
unfolding call_formed
uncalled ws side e =
    ⊎_elim (λ w. absurd (true≢false (sym (well_passes ws (call_is side (state_of ws) w).1) ∙ e))) (λ n. n) (which (call_formed side (state_of ws)))

pub unready : (ws : List ℕ) (side : Side) → sides_pass ws ≡ false → is_ready side (state_of ws) ≡ false
unfolding is_ready
unready ws side e = rw (uncalled ws side e)

pub ready_passes : (ws : List ℕ) (side : Side) → is_ready side (state_of ws) ≡ true → sides_pass ws ≡ true
ready_passes ws side e = well_passes ws (call_is side (state_of ws) (ready_says side (state_of ws) e).0).1

-- ---- what passes fits its field

pub record Passed (ws : List ℕ) (at : ℕ) : Type 0 where
  pub said : get_or ws at 0 < 2
  pub flags_in : get_or ws (at + 1) 0 < flags_limit
  pub count_in : get_or ws (at + 2) 0 < byte_limit

pub passed : (ws : List ℕ) (at : ℕ) → keyboard_passes at ws ≡ true → Passed ws at
unfolding keyboard_in flag_limit flag_table
passed ws at e =
    let p = (and-eq-true_iff (ltb (get_or ws at 0) 2) (keyboard_formed (keyboard_in ws at))).0 e in
    let f = formed_is (keyboard_in ws at) p.1 in
    record { said = ltb-true _ 2 p.0; flags_in = omega (arith, f.flags_in); count_in = omega (arith, f.waiting_in) }

with_two : (one two second : Bool) → one || (two && second) ≡ true → two ≡ true → (one ≡ true → ⊥) → second ≡ true
with_two true two second e t n = absurd (n refl)
with_two false true second e t n = e
with_two false false second e t n = absurd (true≢false (sym t))

module _ (ws : List ℕ) (e : sides_pass ws ≡ true) where
  parts : ((keyboard_passes first_at ws ≡ true) × (ltb (get_or ws profile_at 0) 2 ≡ true))
      × (eqb (get_or ws keyboards_at 0) 1 || (eqb (get_or ws keyboards_at 0) 2 && keyboard_passes second_at ws) ≡ true)
  unfolding sides_pass
  parts =
      let k = get_or ws keyboards_at 0 in
      let p = (and-eq-true_iff (keyboard_passes first_at ws && ltb (get_or ws profile_at 0) 2) (eqb k 1 || (eqb k 2 && keyboard_passes second_at ws))).0 e in
      ((and-eq-true_iff (keyboard_passes first_at ws) (ltb (get_or ws profile_at 0) 2)).0 p.0, p.1)

  pub first_passes : keyboard_passes first_at ws ≡ true
  first_passes = parts.0.0

  pub second_passes : eqb (get_or ws keyboards_at 0) 2 ≡ true → keyboard_passes second_at ws ≡ true
  second_passes t =
      let k = get_or ws keyboards_at 0 in
      with_two (eqb k 1) (eqb k 2) (keyboard_passes second_at ws) parts.1 t (λ o. absurd (omega (arith, eqb-true k 1 o, eqb-true k 2 t)))

  named_second : (one two said formed : Bool) → one || (two && (said && formed)) ≡ true → one || (two && said) ≡ true
  named_second true two said formed q = refl
  named_second false true said formed q = ((and-eq-true_iff said formed).0 q).0
  named_second false false said formed q = q

  pub named : names_all ws ≡ true
  unfolding names_all
  named =
      let k = get_or ws keyboards_at 0 in
      let f = ((and-eq-true_iff (ltb (get_or ws first_at 0) 2) (keyboard_formed (keyboard_in ws first_at))).0 parts.0.0).0 in
      rw (f, parts.0.1, named_second (eqb k 1) (eqb k 2) (ltb (get_or ws second_at 0) 2) (keyboard_formed (keyboard_in ws second_at)) parts.1)

-- what is remembered of the second side's keyboard, by how many keyboards there are
second_by_one : (ws : List ℕ) (two : Bool) → cond two Keyboards.Two Keyboards.One ≡ Keyboards.One → fresh_keyboard ≡ cond two (keyboard_in ws second_at) fresh_keyboard
second_by_one ws true q = absurd (true≢false (ap are_two q))
second_by_one ws false q = refl

second_by_two : (ws : List ℕ) (two : Bool) → cond two Keyboards.Two Keyboards.One ≡ Keyboards.Two → keyboard_in ws second_at ≡ cond two (keyboard_in ws second_at) fresh_keyboard
second_by_two ws true q = refl
second_by_two ws false q = absurd (true≢false (sym (ap are_two q)))

module _ (ws : List ℕ) {k : Keyboards} (said : k ≡ keyboards_of (get_or ws keyboards_at 0)) {told : KeyboardState} where
  pub fresh_second : {flags : ℕ} → told ≡ followed_by flags → k ≡ Keyboards.One → flags ≡ 0 → told ≡ second_in ws
  fresh_second t one f = t ∙ ap followed_by f ∙ second_by_one ws (eqb (get_or ws keyboards_at 0) 2) (sym said ∙ one)

  pub lent_second : {at : ℕ} → told ≡ keyboard_in ws at → k ≡ Keyboards.Two → at ≡ second_at → told ≡ second_in ws
  lent_second t two f = t ∙ ap (keyboard_in ws) f ∙ second_by_two ws (eqb (get_or ws keyboards_at 0) 2) (sym said ∙ two)

-- a table is read as two keyboards where its number is 2
pub said_two : (n : ℕ) → keyboards_of n ≡ Keyboards.Two → eqb n 2 ≡ true
said_two n = by_two (eqb n 2)
  where
    by_two : (two : Bool) → cond two Keyboards.Two Keyboards.One ≡ Keyboards.Two → two ≡ true
    by_two true q = refl
    by_two false q = ap are_two q
