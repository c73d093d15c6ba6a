-- What a byte leaves of our record is what it leaves of the Rust's flags, prefix and queue.
use mathlib.Core.Path.{◌≡◌, refl, sym, ap, ap₂, subst, ◌∙◌}
use mathlib.Core.Bool.{Bool, true, false, cond}
use mathlib.Core.List.{List, [], ◌∷◌, ◌++◌}
use mathlib.Core.Option.{Option, none, some}
use Prim.Native.Nat.{ℕ, ◌<◌}
use lib.Dec.{ltb}
use lib.ListN.{length}
use borrow.Author.Tests.{ltb-true}
use Rattle.std.specs.Prelude.{map}
use Rattle.std.proofs.lemmas.List.{length-map, map-append}
use Rattle.exchange.specs.Answer.{Answer, gives, refuses}
use Rattle.ps2_answers.specs.Refusals.{Success, success}
use Rattle.keycodes_ascii.specs.declared.KeyEvent.{KeyEvent}
use Rattle.keycodes_ascii.specs.declared.Keycode.{Keycode}
use Rattle.keyboard_scancodes.specs.declared.KeyboardState.{KeyboardState}
use Rattle.keyboard_scancodes.specs.declared.Profile.{Profile}
use Rattle.keyboard_scancodes.specs.Events.{event_of}
use Rattle.keyboard_scancodes.specs.Profile.{allows}
use Rattle.keyboard_sides.specs.declared.Side.{Side}
use Rattle.keyboard_sides.proofs.Row.{sides_length}
use Rattle.keyboard_record.specs.declared.HandlerState.{HandlerState}
use Rattle.keyboard_record.specs.declared.KeyboardHandler.{KeyboardHandler}
use Rattle.keyboard_record.specs.declared.Keyboards.{Keyboards}
use Rattle.keyboard_record.specs.declared.Table.{Table}
use Rattle.keyboard_record.specs.Queue.{round, meets, admits, place, one_more, if_given, places_with, waiting_sides}
use Rattle.keyboard_record.specs.Record.{with_keyboard}
use Rattle.keyboard_record.proofs.Ring.{length-round, round_pushed}
use Rattle.keyboard.specs.Handler.{Outcome, outcome, queued}
use Rattle.theseus_keyboard.specs.Handler.{room_in, pushed}
use Rattle.theseus_keyboard.specs.Both.{base_flags, base_event, base_events, Alike}

abbrev one_table : Table
one_table = record { keyboards = Keyboards.One; profile = Profile.Any }

-- at a table with one keyboard, under any profile but the tournament's, an event meets the room of the queue alone
place_room : (key : Keycode) (s : HandlerState) (n : ℕ) → s.table ≡ one_table → s.count ≡ n
    → place Side.First key s ≡ cond (ltb n 128) (gives success) (refuses 20)
unfolding allows meets admits
place_room key s n t e =
    ap (λ (table : Table). admits table Side.First (waiting_sides s) key) t
    ∙ ap (λ (n : ℕ). cond (ltb n 128) (gives success) (refuses 20)) (sides_length s.sides s.count ∙ e)

abbrev handler_of : HandlerState → List KeyEvent → KeyboardHandler
handler_of s places = record { state = s; places = places }

abbrev left_by : KeyboardHandler → Outcome → KeyboardHandler
left_by h w = record { state = w.state; places = places_with h w.event }

-- this answer, and flags, prefix and queue as the Rust's are left
abbrev pub Left : KeyboardHandler → Bool → ℕ → Answer Success → List KeyEvent → Outcome → Type 0
Left h x m a q w = (w.answer ≡ a) × Alike (left_by h w) x m q

-- what a key leaves
module _ (h : KeyboardHandler) (k : KeyboardState) (lit : Answer Success) (dropped : ℕ) (q : List KeyEvent) (x : Bool) (m : ℕ)
    (one : h.state.table ≡ one_table) (long : length h.places ≡ 128) (start : h.state.start < 128)
    (row : q ≡ base_events h) (px : x ≡ k.prefix) (pm : m ≡ base_flags k.modifiers.bits) where
  abbrev s1 : HandlerState
  s1 = with_keyboard Side.First k h.state

  as_many : length q ≡ h.state.count
  as_many =
      ap (λ (l : List KeyEvent). length l) row ∙ length-map (round h.places h.state.start h.state.count) base_event
      ∙ length-round h.places h.state.start h.state.count

  unmoved : Alike (left_by h (queued Side.First (with_keyboard Side.First k h.state) (gives none) lit dropped)) x m q
  unmoved = record { prefix_is = px; flags_are = pm; queue_is = row }

  module _ (e e' : KeyEvent) (same : base_event e ≡ e') where
    abbrev outcome_by : Answer Success → Outcome
    outcome_by a = outcome a lit (if_given a (one_more Side.First s1) s1) (if_given a (some e) none) dropped

    joins_by : (c : Bool) → ltb h.state.count 128 ≡ c → Left h x m (cond c (gives success) (refuses 20)) (cond c (q ++ (e' ∷ [])) q) (outcome_by (cond c (gives success) (refuses 20)))
    joins_by true n =
        let r = round_pushed h.places h.state.start h.state.count e long start (ltb-true h.state.count 128 n) in (
          refl,
          record {
            prefix_is = px;
            flags_are = pm;
            queue_is =
                ap₂ {C = List KeyEvent} (λ (l : List KeyEvent) (y : KeyEvent). l ++ (y ∷ [])) row (sym same)
                ∙ sym (ap (map base_event) r ∙ map-append base_event (round h.places h.state.start h.state.count) (e ∷ []));
          },
        )
    joins_by false n = (refl, record { prefix_is = px; flags_are = pm; queue_is = row })

    joins : Left h x m (room_in q) (pushed q e') (queued Side.First (with_keyboard Side.First k h.state) (gives (some e)) lit dropped)
    joins =
        let n : ltb (length q) 128 ≡ ltb h.state.count 128 = ap (λ (n : ℕ). ltb n 128) as_many in
        rw (n, place_room e.keycode s1 h.state.count one refl) (joins_by (ltb h.state.count 128) refl)

  -- by the byte: one that gives no event, one that no key has, and a key's
  pub decided : (c kn : Bool) (b f : ℕ) (given : Answer (Option KeyEvent)) → given ≡ cond c (gives none) (cond kn (gives (some (event_of b f))) (refuses 19))
      → (c ≡ false → m ≡ base_flags f)
      → Left h x m (cond c (gives success) (cond kn (room_in q) (refuses 19))) (cond c q (cond kn (pushed q (event_of b m)) q)) (queued Side.First (with_keyboard Side.First k h.state) given lit dropped)
  unfolding event_of
  decided true kn b f given e n = subst (λ (g : Answer (Option KeyEvent)). Left h x m (gives success) q (queued Side.First (with_keyboard Side.First k h.state) g lit dropped)) (sym e) (refl, unmoved)
  decided false false b f given e n =
      subst (λ (g : Answer (Option KeyEvent)). Left h x m (refuses 19) q (queued Side.First (with_keyboard Side.First k h.state) g lit dropped)) (sym e) (refl, record { prefix_is = px; flags_are = pm; queue_is = row })
  decided false true b f given e n =
      subst (λ (g : Answer (Option KeyEvent)). Left h x m (room_in q) (pushed q (event_of b m)) (queued Side.First (with_keyboard Side.First k h.state) g lit dropped)) (sym e)
      (joins (event_of b f) (event_of b m) (ap (event_of b) (sym (n refl))))
