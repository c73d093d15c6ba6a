-- What a listing is, byte by byte, in the words of the history rule: no record is spoken of.
use Rattle.std.specs.Prelude.{Bool, true, false, cond, ◌&&◌, List, [], ◌++◌, ◌≡◌, ℕ, ◌+◌, ◌≤◌, length, drop}
use Rattle.std.proofs.Math.Option.{some}
use Rattle.exchange.specs.Exchange.{Played, play}
use Rattle.exchange.specs.Answer.{Answer}
use Rattle.ps2_answers.specs.Refusals.{Success}
use Rattle.keyboard_scancodes.specs.Lamps.{lamps_lit}
use Rattle.keyboard_scancodes.specs.Events.{event_of, gives_event}
use Rattle.keyboard_scancodes.specs.declared.Profile.{Profile}
use Rattle.keyboard_scancodes.specs.Profile.{presses_followed}
use Rattle.keyboard_scancodes.specs.Strokes.{is_silent}
use Rattle.keyboard_sides.specs.declared.Side.{Side}
use Rattle.keyboard.specs.Rules.{rules_at}
use Rattle.keyboard.specs.KeyboardLamps.{keyboard_lamps}
use Rattle.keyboard.specs.Scancode.{Took, takes, ran_out}
use Rattle.theorem_history.specs.Past.{Past, ◌▸◌}
use Rattle.theorem_history.specs.Said.{flags_said}
use Rattle.theorem_history.specs.Counted.{waiting_after}
use Rattle.key_listing.specs.Lines.{event_line, refusal_line}
use Rattle.key_listing.specs.Listing.{table, free_log}

-- The bytes that wait after a call with this script, by the rule.
abbrev pub waits_then : Past ℕ → List ℕ → List ℕ → List ℕ
waits_then bytes waiting script =
    waiting_after (rules_at table keyboard_lamps Side.First) bytes waiting script free_log

-- The lamp exchange of a byte that was taken, if it is the press of a lock: with the flags that the
-- bytes up to it say, on the script behind it.
abbrev pub lamps_played : Past ℕ → Took → Played (Answer Success)
lamps_played bytes t = play (keyboard_lamps Side.First
    (lamps_lit (flags_said Profile.Any (bytes ▸ t.byte)))) t.script free_log

-- Whether it ran out of script, and how many script bytes
-- it read; a byte that is no press of a lock has none.
abbrev pub cut_short : Past ℕ → Took → Bool
cut_short bytes t = presses_followed Profile.Any t.byte && ran_out (lamps_played bytes t).end

abbrev pub lamps_read : Past ℕ → Took → ℕ
lamps_read bytes t = cond (presses_followed Profile.Any t.byte) (lamps_played bytes t).used 0

-- What is left of a script behind a byte that was taken and counted: all of it, but for the bytes
-- that its lamp exchange read, which did not run out. Those that wait behind the byte are no more
-- than waited before and were read.
pub record After (bytes : Past ℕ) (t : Took) (waits left : List ℕ) : Type 0 where
  pub not_cut : cut_short bytes t ≡ false
  pub in_script : lamps_read bytes t ≤ length t.script
  pub is_left : left ≡ drop (lamps_read bytes t) t.script
  pub few_new : length waits ≤ length t.waiting + lamps_read bytes t

-- The text of a script, where these bytes were counted before it and these wait. A byte that gives
-- an event has the event's line, with the flags that the bytes up to it say; 00, E0, E1 and FA have
-- no line; any other byte has the line of 19. Where the script ends inside the lamp exchange of a
-- lock, and only there, the line of 2 is the last.
pub data Listed : Past ℕ → List ℕ → List ℕ → List ℕ → Type 0 where
  used_up : {bytes : Past ℕ} → Listed bytes [] [] []
  an_event : {bytes : Past ℕ} {waiting script left text : List ℕ} {t : Took}
      → takes waiting script ≡ some t → gives_event t.byte ≡ true
      → After bytes t (waits_then bytes waiting script) left
      → Listed (bytes ▸ t.byte) (waits_then bytes waiting script) left text
      → Listed bytes waiting script
      (event_line (event_of t.byte (flags_said Profile.Any (bytes ▸ t.byte))) ++ text)
  no_event : {bytes : Past ℕ} {waiting script left text : List ℕ} {t : Took}
      → takes waiting script ≡ some t → is_silent t.byte ≡ true
      → After bytes t (waits_then bytes waiting script) left
      → Listed (bytes ▸ t.byte) (waits_then bytes waiting script) left text
      → Listed bytes waiting script text
  a_19 : {bytes : Past ℕ} {waiting script left text : List ℕ} {t : Took}
      → takes waiting script ≡ some t → is_silent t.byte ≡ false → gives_event t.byte ≡ false
      → After bytes t (waits_then bytes waiting script) left
      → Listed (bytes ▸ t.byte) (waits_then bytes waiting script) left text
      → Listed bytes waiting script (refusal_line 19 ++ text)
  a_2 : {bytes : Past ℕ} {waiting script : List ℕ} {t : Took} → takes waiting script ≡ some t
      → cut_short bytes t ≡ true
      → Listed bytes waiting script (refusal_line 2)
