-- 12: what must have been read before it.
use Prim.Native.Nat.{ℕ}
use native.Mathlib.Omega.{arith}
use mathlib.Core.List.{List}
use mathlib.Core.Logic.{◌⊎◌, inl, inr}
use mathlib.Core.Path.{◌≡◌}
use lib.Dec.{eqb}
use Rattle.bits.specs.Bits.{bit}
use Rattle.exchange.specs.Exchange.{done, yields, play}
use Rattle.exchange.specs.Answer.{Answer, refuses, and_then}
use Rattle.exchange.specs.Repeat.{Turn, found, again}
use Rattle.exchange.specs.Search.{Search, script_after, log_after, After}
use Rattle.exchange.proofs.Search.{bind_after, then_refuses, search_play, search_finds}
use Rattle.exchange.proofs.Then.{on_cond, Finds}
use Rattle.ps2_bytes.specs.declared.command.HostToKeyboardCommand.TheVariants as Command
use Rattle.ps2_bytes.specs.declared.response.KeyboardType.{KeyboardType}
use Rattle.ps2_bytes.specs.declared.writable.HostToKeyboardCommandOrData.TheVariants as Byte
use Rattle.ps2_layouts.specs.Status.{output_buffer_full}
use Rattle.ps2_polling.specs.Polling.{poll_limit, poll}
use Rattle.ps2_command.specs.Search.{PollBrings}
use Rattle.ps2_command.proofs.Refuses.{command_refusals}
use Rattle.ps2_command.proofs.Reset.{the_success}
use Rattle.ps2_command.proofs.Search.{brings_any_poll, polled_finds, listed_refuses_any}
use Rattle.ps2_keyboard.specs.Keyboard.{keyboard_command}
use Rattle.ps2_keyboard.proofs.Refuses.{refuses_command_to_keyboard}
use Rattle.ps2_detect.specs.Detection.{FirstByte, none, came00, came_ab, first_turn, outer_search, second_bytes, inner_search, type_after, type_search, keyboard_detect}
use Rattle.ps2_detect.specs.Unrecognised.{Unrecognised, no_first_byte, no_second_byte, Undetected}

-- ---- the outer search, and the inner one

-- a first byte of meaning
CameOne : FirstByte → Type 0
CameOne none = ⊥
CameOne came00 = Unit
CameOne came_ab = Unit

first_finds : (s : List ℕ) (x : Turn FirstByte) (rest : List ℕ) → PollBrings (bit output_buffer_full) first_turn s x rest → Finds CameOne x
unfolding CameOne
first_finds =
    polled_finds (bit output_buffer_full) first_turn CameOne
    (λ b. on_cond (λ x. Finds CameOne x) (eqb b 0x00) tt (on_cond (λ x. Finds CameOne x) (eqb b 0xAB) tt tt))

module _ (s l : List ℕ) where
  -- by what the outer search came to
  by_first : (first : FirstByte) → After outer_search (λ first. type_after first) s l first (refuses 12)
      → Search (PollBrings (bit output_buffer_full) first_turn) poll_limit (found first) s (script_after outer_search s l)
      ⊎ ((first ≡ none) × Search (PollBrings (bit output_buffer_full) first_turn) poll_limit again s (script_after outer_search s l))
      → Unrecognised s
  unfolding outer_search CameOne play inner_search
  by_first none k (inl x) = absurd (search_finds CameOne first_finds x)
  by_first none k (inr x) = no_first_byte x.1
  by_first came00 k x = absurd (let z : ◌≡◌ {A = ℕ} 0 1 = cc k.after in omega arith)
  by_first came_ab k (inl x) = no_second_byte x (listed_refuses_any second_bytes 12 poll_limit (script_after outer_search s l) (log_after outer_search s l) k.after)
  by_first came_ab k (inr x) = absurd (let z : ◌≡◌ {A = ℕ} 0 1 = cc x.0 in omega arith)

  pub type_search_refuses : (play type_search s l).end ≡ yields (refuses 12) → Unrecognised s
  unfolding type_search outer_search
  type_search_refuses h =
      let z = bind_after (λ first. type_after first) outer_search s l (refuses 12) h in
      by_first z.0 z.1 (search_play (PollBrings (bit output_buffer_full) first_turn) (poll first_turn) none (brings_any_poll first_turn) poll_limit s l z.0 z.1.before)

-- ---- the whole detection: F5 and F2 were accepted before the searches, and F4 after them

-- the answer is the search's own where F4 refuses otherwise
enabled : (type : Answer KeyboardType) (s l : List ℕ) → (play (and_then (keyboard_command Command.EnableScanning) (λ _. done type)) s l).end ≡ yields (refuses 12)
    → type ≡ refuses 12
unfolding play
enabled type s l h =
    let z = then_refuses (keyboard_command Command.EnableScanning) (λ _. done type) s l command_refusals (refuses_command_to_keyboard (Byte.KeyboardCommand Command.EnableScanning)) 12 (λ x. x) h in
    cc z.1.after

pub detect_refuses : (s l : List ℕ) → (play keyboard_detect s l).end ≡ yields (refuses 12) → Undetected s l
unfolding keyboard_detect
detect_refuses s l h =
    let f5 = keyboard_command Command.DisableScanning in
    let f2 = keyboard_command Command.IdentifyKeyboard in
    let a = then_refuses f5 _ s l command_refusals (refuses_command_to_keyboard (Byte.KeyboardCommand Command.DisableScanning)) 12 (λ x. x) h in
    let s₁ = script_after f5 s l in
    let l₁ = log_after f5 s l in
    let b = then_refuses f2 _ s₁ l₁ command_refusals (refuses_command_to_keyboard (Byte.KeyboardCommand Command.IdentifyKeyboard)) 12 (λ x. x) a.1.after in
    let s₂ = script_after f2 s₁ l₁ in
    let l₂ = log_after f2 s₁ l₁ in
    let c = bind_after (λ type. and_then (keyboard_command Command.EnableScanning) (λ _. done type)) type_search s₂ l₂ (refuses 12) b.1.after in
    let q = enabled c.0 (script_after type_search s₂ l₂) (log_after type_search s₂ l₂) c.1.after in
    record {
      stopped = rw (the_success a.0) at a.1.before;
      asked = rw (the_success b.0) at b.1.before;
      unrecognised = type_search_refuses s₂ l₂ (rw q at c.1.before);
    }
