-- The bytes that wait: how those of one call join those behind its byte, and what the lists of calls say of them.
use mathlib.Core.Path.{◌≡◌, refl, ap, sym, ◌∙◌}
use mathlib.Core.Bool.{Bool, true, false, not, cond, and-eq-true_iff, false≢true}
use mathlib.Core.List.{List, [], ◌∷◌, ◌++◌}
use mathlib.Core.Option.{Option, none, some, none-ne-some}
use Prim.Native.Nat.{ℕ, ◌+◌, ◌-◌, ◌≤◌}
use native.Mathlib.Omega.{arith}
use lib.ListN.{length, take, drop, length-append, length-take, length-drop}
use lib.Seq.{take-append-add}
use Rattle.exchange.specs.Exchange.{p60, p64, Exchange, done, read, write, play}
use Rattle.exchange.specs.Keeping.{keeping}
use Rattle.ps2_kept.specs.Thrown.{thrown}
use Rattle.keyboard_scancodes.specs.Profile.{presses_followed}
use Rattle.keyboard_scancodes.specs.Lamps.{lamps_lit}
use Rattle.keyboard.specs.Rules.{Rules}
use Rattle.keyboard.specs.Scancode.{Took, took, takes, ran_out, thrown_at, lamps_ran_out, caught, scancode}
use Rattle.theorem_history.specs.Past.{Past, ◌▸◌}
use Rattle.theorem_history.specs.Said.{flags_said}
use Rattle.theorem_history.specs.Counted.{behind, room, scancode_after}
use Rattle.theorem_history.specs.Waited.{from_waiting}

-- ---- "up to 16 with the old ones"

module _ (w x : List ℕ) (h : length w ≤ 16) where
  -- the earliest 16 of both are all that waited, then those that find room
  pub take_joins : take 16 (w ++ x) ≡ w ++ take (room w) x
  take_joins =
      let e : 16 ≡ length w + (16 - length w) = omega arith in
      ap (λ (n : ℕ). take n (w ++ x)) e ∙ take-append-add w x (room w)

  -- and the others are those of the new ones that find none
  pub length_dropped : length (w ++ x) - 16 ≡ length (drop (room w) x)
  length_dropped = omega (arith, length-append w x, length-drop (room w) x)

  pub few_joined : length (w ++ take (room w) x) ≤ 16
  few_joined = omega (arith, length-append w (take (room w) x), length-take (room w) x)

pub few_behind : (sc : Option ℕ) (ws : List ℕ) → length ws ≤ 16 → length (behind sc ws) ≤ 16
few_behind none ws h = h
few_behind (some b) ws h = omega (arith, length-drop 1 ws)

-- ---- the byte that is taken

pub behind_took : (ws s : List ℕ) {t : Took} → takes ws s ≡ some t → t.waiting ≡ drop 1 ws
behind_took [] [] q = let z : ◌≡◌ {A = ℕ} 0 1 = cc in absurd (omega arith)
behind_took [] (b ∷ s) q = cc
behind_took (b ∷ ws) s q = cc

-- no byte is counted where none is there to take
pub none_takes : {A : Type 0} (rules : Rules A) (bytes : Past ℕ) (ws s l : List ℕ) {b : ℕ} → takes ws s ≡ none
    → scancode_after rules bytes ws s l ≡ some b → ⊥
unfolding scancode_after scancode
none_takes rules bytes ws s l g n = none-ne-some _ (rw g at n)

-- ---- a call whose byte is not counted throws nothing away

-- an operation that runs out yields no bytes that it threw away
thrown_out : {A : Type 0} (t : Exchange A) (m s l : List ℕ) → ran_out (play t s l).end ≡ true → thrown_at (play (keeping thrown m t) s l).end ≡ []
unfolding keeping play
thrown_out (done a) m s l r = absurd (false≢true r)
thrown_out (read p f) m [] l r = refl
thrown_out (read p60 f) m (b ∷ s) l r = thrown_out (f b) (thrown m b) s l r
thrown_out (read p64 f) m (b ∷ s) l r = thrown_out (f b) m s l r
thrown_out (write p v t) m s [] r = refl
thrown_out (write p v t) m s (x ∷ []) r = refl
thrown_out (write p v t) m s (x ∷ y ∷ l) r = thrown_out t m s l r

module _ {A : Type 0} (rules : Rules A) (bytes : Past ℕ) (ws s l : List ℕ) (t : Took) (g : takes ws s ≡ some t) where
  abbrev flags : ℕ → ℕ
  flags b = flags_said rules.profile (bytes ▸ b)

  not_counted : (c : Bool) → cond (not c) (some t.byte) none ≡ none → c ≡ true
  not_counted true e = refl
  not_counted false e = absurd (none-ne-some _ (sym e))

  ran_out_lem : scancode_after rules bytes ws s l ≡ none → lamps_ran_out rules flags t l ≡ true
  unfolding scancode_after scancode
  ran_out_lem n = not_counted (lamps_ran_out rules flags t l) (rw g at n)

  pub uncounted_caught : scancode_after rules bytes ws s l ≡ none → caught rules flags t l ≡ []
  unfolding caught
  uncounted_caught n =
      let r = (and-eq-true_iff (presses_followed rules.profile t.byte) (ran_out (play (rules.lamps (lamps_lit (flags t.byte))) t.script l).end)).0 (ran_out_lem n) in
      rw r.0 (thrown_out (rules.lamps (lamps_lit (flags t.byte))) [] t.script l r.1)

-- ---- the scancode that a call takes from the waiting bytes is the oldest of them

module _ {A : Type 0} (rules : Rules A) (bytes : Past ℕ) (ws s l : List ℕ) where
  by_cond : (c : Bool) (x : ℕ) (w : List ℕ) → from_waiting (cond c (some x) none) (x ∷ w) ++ behind (cond c (some x) none) (x ∷ w) ≡ x ∷ w
  by_cond true x w = refl
  by_cond false x w = refl

  pub oldest_taken : from_waiting (scancode_after rules bytes ws s l) ws ++ behind (scancode_after rules bytes ws s l) ws ≡ ws
  oldest_taken = by_row ws refl
    where
      none_behind : (sc : Option ℕ) → from_waiting sc [] ++ behind sc [] ≡ []
      none_behind none = refl
      none_behind (some b) = refl

      by_row : (w : List ℕ) → ws ≡ w → from_waiting (scancode_after rules bytes ws s l) ws ++ behind (scancode_after rules bytes ws s l) ws ≡ ws
      by_row [] e = rw e (none_behind (scancode_after rules bytes [] s l))
      by_row (x ∷ w) e = rw e (unfold scancode_after scancode in by_cond (not (lamps_ran_out rules (λ b. flags_said rules.profile (bytes ▸ b)) (took x w s) l)) x w)
