-- Every scancode that a list of calls counts, and every one that waits after it, is a byte of its scripts.
use mathlib.Core.Bool.{Bool, true, false, not, cond, ◌&&◌}
use mathlib.Core.List.{List, [], ◌∷◌, ◌++◌}
use mathlib.Core.Option.{Option, none, some}
use Prim.Native.Nat.{ℕ, zero, suc, ◌<◌}
use lib.ListN.{take, get_or}
use Rattle.exchange.specs.Exchange.{p60, p64, Exchange, done, read, write, play}
use Rattle.exchange.specs.Answer.{Answer}
use Rattle.exchange.specs.Attains.{Bytes}
use Rattle.exchange.specs.Keeping.{keeping}
use Rattle.ps2_kept.specs.Thrown.{unlisted, thrown}
use Rattle.keyboard_scancodes.specs.Profile.{presses_followed}
use Rattle.keyboard_scancodes.specs.Lamps.{lamps_lit}
use Rattle.keyboard_sides.specs.declared.Side.{Side}
use Rattle.keyboard_sides.specs.Sides.{same_side}
use Rattle.keyboard_record.specs.declared.Table.{Table}
use Rattle.keyboard_record.specs.Record.{at_table}
use Rattle.keyboard.specs.Rules.{Rules, rules_at}
use Rattle.keyboard.specs.Scancode.{Took, took, takes, thrown_at, lamps_ran_out, caught, scancode}
use Rattle.theorem_history.specs.Past.{Past, ◌▸◌}
use Rattle.theorem_history.specs.Said.{flags_said}
use Rattle.theorem_history.specs.Counted.{Call, Lent, lent, own_call, own, count, behind, room, scancode_after, thrown_by, thrown_after, behind_after, joined_after, waiting_after, counted, waits, counted_of, waits_of}
use Rattle.theorem_history.specs.Bytes.{AllBytes, no_bytes, one_more, ByteCalls, no_calls, one_handling, one_taking}

-- ---- lists of bytes

bytes_append : (x y : List ℕ) → Bytes x → Bytes y → Bytes (x ++ y)
bytes_append [] y hx hy = hy
bytes_append (b ∷ x) y hx hy = (hx.0, bytes_append x y hx.1 hy)

bytes_take : (n : ℕ) (x : List ℕ) → Bytes x → Bytes (take n x)
bytes_take zero x h = tt
bytes_take (suc n) [] h = tt
bytes_take (suc n) (b ∷ x) h = (h.0, bytes_take n x h.1)

bytes_behind : (sc : Option ℕ) (x : List ℕ) → Bytes x → Bytes (behind sc x)
bytes_behind none x h = h
bytes_behind (some c) [] h = tt
bytes_behind (some c) (b ∷ x) h = h.1

bytes_script : (s : List ℕ) → ((n : ℕ) → get_or s n 0 < 256) → Bytes s
bytes_script [] h = tt
bytes_script (b ∷ s) h = (h 0, bytes_script s (λ n. h (suc n)))

-- ---- an operation throws away bytes of its script

bytes_thrown : (c : Bool) (m : List ℕ) (b : ℕ) → Bytes m → b < 256 → Bytes (cond c (m ++ (b ∷ [])) m)
bytes_thrown true m b hm hb = bytes_append m (b ∷ []) hm (hb, tt)
bytes_thrown false m b hm hb = hm

thrown_bytes : {A : Type 0} (t : Exchange A) (m s l : List ℕ) → Bytes m → Bytes s → Bytes (thrown_at (play (keeping thrown m t) s l).end)
unfolding keeping play
thrown_bytes (done a) m s l hm hs = hm
thrown_bytes (read p f) m [] l hm hs = tt
thrown_bytes (read p60 f) m (b ∷ s) l hm hs = thrown_bytes (f b) (thrown m b) s l (bytes_thrown (unlisted b) m b hm hs.0) hs.1
thrown_bytes (read p64 f) m (b ∷ s) l hm hs = thrown_bytes (f b) m s l hm hs.1
thrown_bytes (write p v t) m s [] hm hs = tt
thrown_bytes (write p v t) m s (x ∷ []) hm hs = tt
thrown_bytes (write p v t) m s (x ∷ y ∷ l) hm hs = thrown_bytes t m s l hm hs

module _ {A : Type 0} (rules : Rules A) where
  caught_bytes : (flags : ℕ → ℕ) (t : Took) (l : List ℕ) → Bytes t.script → Bytes (caught rules flags t l)
  unfolding caught
  caught_bytes flags t l h = by (presses_followed rules.profile t.byte)
    where
      by : (c : Bool) → Bytes (cond c (thrown_at (play (keeping thrown [] (rules.lamps (lamps_lit (flags t.byte)))) t.script l).end) [])
      by true = thrown_bytes (rules.lamps (lamps_lit (flags t.byte))) [] t.script l tt h
      by false = tt

  -- ---- a call counts a byte that waits, or one of its script

  module _ (bytes : Past ℕ) (l : List ℕ) where
    count_bytes : (c : Bool) (b : ℕ) → AllBytes bytes → b < 256 → AllBytes (count bytes (cond c (some b) none))
    count_bytes true b all h = one_more all h
    count_bytes false b all h = all

    scanned_bytes : (ws s : List ℕ) → AllBytes bytes → Bytes ws → Bytes s → AllBytes (count bytes (scancode_after rules bytes ws s l))
    unfolding scancode_after scancode
    scanned_bytes [] [] all hw hs = all
    scanned_bytes [] (b ∷ s) all hw hs = count_bytes (not (lamps_ran_out rules (λ b. flags_said rules.profile (bytes ▸ b)) (took b [] s) l)) b all hs.0
    scanned_bytes (b ∷ ws) s all hw hs = count_bytes (not (lamps_ran_out rules (λ b. flags_said rules.profile (bytes ▸ b)) (took b ws s) l)) b all hw.0

    by_took : (ws s : List ℕ) → Bytes s → Bytes (thrown_by rules (λ b. flags_said rules.profile (bytes ▸ b)) (takes ws s) l)
    by_took [] [] h = tt
    by_took [] (b ∷ s) h = caught_bytes (λ b. flags_said rules.profile (bytes ▸ b)) (took b [] s) l h.1
    by_took (b ∷ ws) s h = caught_bytes (λ b. flags_said rules.profile (bytes ▸ b)) (took b ws s) l h

    waited_bytes : (ws s : List ℕ) → Bytes ws → Bytes s → Bytes (waiting_after rules bytes ws s l)
    unfolding behind_after joined_after thrown_after
    waited_bytes ws s hw hs =
        let sc = scancode_after rules bytes ws s l in
        bytes_append (behind sc ws) (joined_after rules bytes ws s l) (bytes_behind sc ws hw)
        (bytes_take (room (behind sc ws)) (thrown_after rules bytes ws s l) (by_took ws s hs))

  -- ---- so do all calls of a keyboard

  abbrev BytesOf : Past Lent → Type 0
  BytesOf calls = AllBytes (counted rules calls) × Bytes (waits rules calls)

  one_bytes : (past : Past Lent) (x : Lent) → BytesOf past → Bytes x.script → BytesOf (past ▸ x)
  unfolding counted waits
  one_bytes past x r h = (
    scanned_bytes (counted rules past) x.log (waits rules past) x.script r.0 r.1 h,
    waited_bytes (counted rules past) x.log (waits rules past) x.script r.1 h,
  )

  own_bytes : (b : Bool) (past : Past Lent) (x : Lent) → BytesOf past → Bytes x.script → BytesOf (own_call b past x)
  own_bytes true past x r h = one_bytes past x r h
  own_bytes false past x r h = r

-- ---- and all calls of a list

module _ {A : Type 0} (table : Table) (lamps : Side → ℕ → Exchange (Answer A)) where
  pub counted_bytes : {calls : Past Call} → ByteCalls calls → (side : Side) → AllBytes (counted_of table lamps side calls) × Bytes (waits_of table lamps side calls)
  unfolding own counted waits
  counted_bytes no_calls side = (no_bytes, tt)
  counted_bytes (one_handling {past = past} {side = s} {script = script} {log = log} all h) side =
      own_bytes (rules_at table lamps side) (same_side side s && at_table table.keyboards s) (own table.keyboards side past) (lent script log) (counted_bytes all side) (bytes_script script h)
  counted_bytes (one_taking all) side = counted_bytes all side
