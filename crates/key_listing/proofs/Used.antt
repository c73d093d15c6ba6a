-- The script bytes that a call uses: its own where none waits, and those that the lamp exchange of a lock reads. The exchange throws away no more than it reads, so of the bytes that are left one fewer is left for each call.
use mathlib.Core.Path.{◌≡◌, refl, ap, sym, subst, ◌∙◌}
use mathlib.Core.Bool.{Bool, true, false, cond, true≢false}
use mathlib.Core.List.{List, [], ◌∷◌, ◌++◌}
use mathlib.Core.Logic.{⊎_elim}
use mathlib.Core.Option.{Option, some}
use Prim.Native.Nat.{ℕ, suc, ◌+◌, ◌≤◌}
use native.Mathlib.Nat.{add-zero, zero-add}
use native.Mathlib.Omega.{arith}
use lib.ListN.{length, drop, length-append}
use Rattle.exchange.specs.Exchange.{p60, p64, Exchange, done, read, write, bind, End, yields, lacks, Played, play}
use Rattle.exchange.specs.Answer.{Answer}
use Rattle.exchange.specs.Sequence.{follow}
use Rattle.exchange.specs.Keeping.{Kept, kept, keeping}
use Rattle.exchange.proofs.Keeping.{keeping-bind, keeping_forgets}
use Rattle.exchange.proofs.Kept.{used_le}
use Rattle.exchange.proofs.Sequence.{play-bind}
use Rattle.ps2_answers.specs.Refusals.{Success}
use Rattle.ps2_kept.specs.Thrown.{unlisted, thrown}
use Rattle.keyboard_scancodes.specs.Strokes.{is_silent}
use Rattle.keyboard_scancodes.specs.Profile.{presses_followed}
use Rattle.keyboard_scancodes.specs.FlagsAfter.{flags_then}
use Rattle.keyboard_scancodes.specs.Lamps.{lamps_lit}
use Rattle.keyboard_scancodes.specs.Waiting.{waiting_bytes}
use Rattle.keyboard_scancodes.proofs.Silent.{silent_lock}
use Rattle.keyboard_scancodes.proofs.Tests.{which}
use Rattle.keyboard_scancodes.specs.declared.KeyboardState.{KeyboardState}
use Rattle.keyboard.specs.Rules.{Rules}
use Rattle.keyboard.specs.Scancode.{Took, takes, thrown_at, caught}
use Rattle.keyboard.specs.Byte.{shown, take_byte, lamp_exchange, on_byte, key_call}
use Rattle.keyboard.proofs.Courses.{call_taken}

-- ---- an operation throws away no more bytes than it reads

thrown_length : (c : Bool) (m : List ℕ) (b : ℕ) → length (cond c (m ++ (b ∷ [])) m) ≤ suc (length m)
thrown_length true m b = omega (arith, length-append m (b ∷ []))
thrown_length false m b = omega arith

thrown-le : {A : Type 0} (t : Exchange A) (m s l : List ℕ) → length (thrown_at (play (keeping thrown m t) s l).end) ≤ length m + (play (keeping thrown m t) s l).used
unfolding keeping play
thrown-le (done a) m s l = omega arith
thrown-le (read p f) m [] l = omega arith
thrown-le (read p60 f) m (b ∷ s) l = omega (arith, thrown-le (f b) (thrown m b) s l, thrown_length (unlisted b) m b)
thrown-le (read p64 f) m (b ∷ s) l = omega (arith, thrown-le (f b) m s l)
thrown-le (write p v t) m s [] = omega arith
thrown-le (write p v t) m s (x ∷ []) = omega arith
thrown-le (write p v t) m s (x ∷ y ∷ l) = thrown-le t m s l

-- what is made of its value uses no more
follow_used : {B C : Type 0} (f : B → C) (u w : ℕ) (l s : List ℕ) (e : End B) → (follow e u w l s (λ x. done (f x))).used ≡ u
unfolding follow play
follow_used f u w l s (yields x) = add-zero u
follow_used f u w l s (lacks x) = refl

used_done : {B C : Type 0} (f : B → C) (t : Exchange B) (s l : List ℕ) → (play (bind t (λ x. done (f x))) s l).used ≡ (play t s l).used
used_done {B} {C} f t s l =
    let o = play t s l in
    ap (λ (r : Played C). r.used) (play-bind (λ x. done (f x)) t s l) ∙ follow_used f o.used o.pairs o.log s o.end

pub same_took : {t u : Took} → ◌≡◌ {A = Option Took} (some t) (some u) → t ≡ u
same_took q = cc

module _ {A : Type 0} (rules : Rules A) (h : KeyboardState) where
  -- the script bytes that a call uses behind its byte
  abbrev pub used_behind : Took → List ℕ → ℕ
  used_behind t l = (play (on_byte rules h t.waiting t.byte) t.script l).used

  pub behind_le : (t : Took) (l : List ℕ) → used_behind t l ≤ length t.script
  behind_le t l = used_le (on_byte rules h t.waiting t.byte) t.script l

  -- ---- what is left of the script

  tree : {x : List ℕ} → waiting_bytes h.waiting ≡ x → key_call rules h ≡ take_byte x (on_byte rules h)
  tree q = call_taken rules h ∙ ap (λ (y : List ℕ). take_byte y (on_byte rules h)) q

  abbrev LeftBy : List ℕ → List ℕ → Took → Type 0
  LeftBy s l t = drop (play (key_call rules h) s l).used s ≡ drop (used_behind t l) t.script

  by_waiting : (x s l : List ℕ) (t : Took) → waiting_bytes h.waiting ≡ x → takes x s ≡ some t → LeftBy s l t
  unfolding play
  by_waiting [] [] l t q g = let z : ◌≡◌ {A = ℕ} 0 1 = cc in absurd (omega arith)
  by_waiting [] (b ∷ s) l t q g = subst (LeftBy (b ∷ s) l) (same_took g) (rw (tree q))
  by_waiting (b ∷ x) s l t q g = subst (LeftBy s l) (same_took g) (rw (tree q))

  pub left_behind : (s l : List ℕ) (t : Took) → takes (waiting_bytes h.waiting) s ≡ some t → LeftBy s l t
  left_behind s l t g = by_waiting (waiting_bytes h.waiting) s l t refl g

  -- ---- the bytes that its lamp exchange reads and throws away

  module _ (t : Took) (l : List ℕ) where
    abbrev flags : ℕ
    flags = flags_then rules.profile h t.byte

    abbrev lamps_alone : Exchange (Answer A)
    lamps_alone = rules.lamps (lamps_lit flags)

    silent_used : is_silent t.byte ≡ true → used_behind t l ≡ 0
    unfolding on_byte play
    silent_used q = rw (used_behind, on_byte, q)

    key_used : is_silent t.byte ≡ false → used_behind t l ≡ (play (keeping thrown [] (lamp_exchange rules t.byte flags)) t.script l).used
    unfolding on_byte
    key_used q = rw (used_behind, on_byte, q) (used_done _ (keeping thrown [] (lamp_exchange rules t.byte flags)) t.script l)

    other_used : presses_followed rules.profile t.byte ≡ false → (play (keeping thrown [] (lamp_exchange rules t.byte flags)) t.script l).used ≡ 0
    unfolding lamp_exchange keeping play
    other_used k = rw (k, lamp_exchange)

    -- a byte that has no lamp exchange is the only one that is used
    pub plain_used : presses_followed rules.profile t.byte ≡ false → used_behind t l ≡ 0
    plain_used k = ⊎_elim silent_used (λ q. key_used q ∙ other_used k) (which (is_silent t.byte))

    module _ (k : presses_followed rules.profile t.byte ≡ true) where
      lock_no_silent : is_silent t.byte ≡ false
      lock_no_silent = ⊎_elim (λ q. absurd (true≢false (sym k ∙ silent_lock t.byte q rules.profile))) (λ q. q) (which (is_silent t.byte))

      lock_tree : lamp_exchange rules t.byte flags ≡ bind lamps_alone (λ a. done (shown a))
      unfolding lamp_exchange
      lock_tree = rw k

      lock_bind : keeping thrown [] (lamp_exchange rules t.byte flags) ≡ bind (keeping thrown [] lamps_alone) (λ x. done (kept (shown x.value) x.bytes))
      unfolding keeping
      lock_bind = rw lock_tree (keeping-bind thrown (λ a. done (shown a)) [] lamps_alone)

      lock_used : used_behind t l ≡ (play (keeping thrown [] lamps_alone) t.script l).used
      lock_used =
          key_used lock_no_silent ∙ ap (λ (x : Exchange (Kept (List ℕ) (Answer Success))). (play x t.script l).used) lock_bind
          ∙ used_done (λ x. kept (shown x.value) x.bytes) (keeping thrown [] lamps_alone) t.script l

      -- the exchange reads as much with its note as without
      lock_read : used_behind t l ≡ (play lamps_alone t.script l).used
      lock_read =
          lock_used ∙ sym (used_done (λ x. x.value) (keeping thrown [] lamps_alone) t.script l)
          ∙ ap (λ (x : Exchange (Answer A)). (play x t.script l).used) (keeping_forgets thrown [] lamps_alone)

      lock_caught : length (caught rules (flags_then rules.profile h) t l) ≤ used_behind t l
      unfolding caught
      lock_caught = rw (k, lock_used) (rw zero-add at (thrown-le lamps_alone [] t.script l))

    pub used_lem : used_behind t l ≡ cond (presses_followed rules.profile t.byte) (play lamps_alone t.script l).used 0
    used_lem = ⊎_elim (λ k. rw k (lock_read k)) (λ k. rw k (plain_used k)) (which (presses_followed rules.profile t.byte))

    none_caught : presses_followed rules.profile t.byte ≡ false → length (caught rules (flags_then rules.profile h) t l) ≤ used_behind t l
    unfolding caught
    none_caught k = rw k (omega arith)

    pub caught-le : length (caught rules (flags_then rules.profile h) t l) ≤ used_behind t l
    caught-le = ⊎_elim lock_caught none_caught (which (presses_followed rules.profile t.byte))
