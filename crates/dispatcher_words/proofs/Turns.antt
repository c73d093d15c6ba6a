-- A turn on a dispatcher's numbers is that turn of the state that they stand for.
use mathlib.Core.Path.{◌≡◌, refl, sym, ap, ◌∙◌}
use mathlib.Core.List.{List, ◌++◌}
use mathlib.Core.Option.{some}
use Prim.Native.Nat.{ℕ, ◌+◌, ◌-◌, ◌≤◌}
use native.Mathlib.Omega.{arith}
use lib.ListN.{length, get_or, drop, length-drop}
use Rattle.exchange.specs.Exchange.{End, Reads}
use Rattle.exchange.specs.Answer.{Answer}
use Rattle.exchange.specs.Parts.{part}
use Rattle.exchange.proofs.Parts.{part_drop}
use Rattle.ps2_bytes.specs.declared.response.MouseId.{MouseId}
use Rattle.ps2_packet.specs.declared.SignedPacket.{SignedPacket}
use Rattle.ps2_packet_reading.specs.Reading.{read_signed_packet}
use Rattle.port_words.specs.declared.PacketWords.{PacketWords}
use Rattle.port_words.specs.ToldPacket.{told_packet}
use Rattle.keyboard_sides.specs.declared.Side.{Side}
use Rattle.keyboard.specs.Handler.{handled, log_left}
use Rattle.keyboard.specs.KeyboardLamps.{keyboard_lamps}
use Rattle.handler_words.specs.declared.HandledWords.{HandledWords}
use Rattle.handler_words.specs.Layout.{words_length}
use Rattle.handler_words.specs.Words.{record_of}
use Rattle.handler_words.specs.Calls.{SideHandled, AtSide}
use Rattle.dispatcher.specs.declared.Each.{Each}
use Rattle.dispatcher.specs.declared.Source.{Source}
use Rattle.dispatcher.specs.Sources.{place_of, with_place, unused}
use Rattle.dispatcher.specs.Step.{keyed, packet, call_answered, Stepped, stepped, turn_over, served_one, serve_mouse, serve_keyboard}
use Rattle.dispatcher.proofs.Serving.{called_used_le, mouse_used_le, mouse_served}
use Rattle.dispatcher_words.specs.Layout.{mouse_at, dispatcher_length}
use Rattle.dispatcher_words.specs.Words.{identity_of, source_number, handler_in, place_in, dispatcher_of}
use Rattle.dispatcher_words.specs.declared.StepWords.{StepWords}
use Rattle.dispatcher_words.specs.Steps.{no_call, with_turn, with_call}
use Rattle.dispatcher_words.specs.Parts.{SideServed, MouseServed}
use Rattle.dispatcher_words.proofs.Words.{handler_length, handler_stands, turn_stands, turn_alone}

-- ---- places

place_with : (source : Source) (n : ℕ) (p : Each ℕ) → place_of source (with_place source n p) ≡ n
place_with (Source.Keyboard Side.First) n p = refl
place_with (Source.Keyboard Side.Second) n p = refl
place_with Source.Mouse n p = refl

place_stands : (source : Source) (ws : List ℕ) → place_of source (dispatcher_of ws).places ≡ place_in source ws
unfolding dispatcher_of
place_stands (Source.Keyboard Side.First) ws = refl
place_stands (Source.Keyboard Side.Second) ws = refl
place_stands Source.Mouse ws = refl

-- the unused bytes of a source, in the form in which they are lent
abbrev bytes_in : Source → List ℕ → List ℕ → List ℕ
bytes_in source ws script = unused (place_in source ws) script

-- ---- a side's turn

module _ (side : Side) (ws script log : List ℕ) (n : length ws ≡ dispatcher_length) (place from : ℕ) (at : place ≡ place_in (Source.Keyboard side) ws)
    (is : unused from script ≡ unused place script) {call : HandledWords} {us log' : List ℕ}
    (w : AtSide (some side) (handler_in ws) (part from script) log call us log') where
  given_bytes : part from script ≡ bytes_in (Source.Keyboard side) ws script
  given_bytes = part_drop from script ∙ is ∙ ap (λ (m : ℕ). unused m script) at

  handled_side : SideHandled side (handler_in ws) (bytes_in (Source.Keyboard side) ws script) log call us log'
  handled_side = rw given_bytes at (w.0 (handler_length ws n))

  -- the place that it moves on to is a number of 64 bits
  pub keyboard_used : call.used ≤ length script - place
  keyboard_used =
      omega (arith, ap (λ (x : HandledWords). x.used) handled_side.answered, called_used_le keyboard_lamps side (record_of (handler_in ws)) (bytes_in (Source.Keyboard side) ws script) log, length-drop (place_in (Source.Keyboard side) ws) script, at)

  -- the turn of the state that the numbers stand for, by these bytes
  abbrev side_turn : Stepped
  side_turn =
      let source = Source.Keyboard side in
      let c = handled keyboard_lamps side (record_of (handler_in ws)) (bytes_in source ws script) log in
      stepped (keyed side (call_answered c)) (turn_over source (with_place source (place_in source ws + c.used) (dispatcher_of ws).places) c.handler (dispatcher_of ws))
      (log_left keyboard_lamps side (record_of (handler_in ws)).state (bytes_in source ws script) log)

  side_turn_lem : serve_keyboard keyboard_lamps side (dispatcher_of ws) script log ≡ side_turn
  unfolding serve_keyboard
  side_turn_lem = rw (place_stands (Source.Keyboard side) ws, handler_stands ws)

  pub keyboard_turn : length us ≡ length (handler_in ws) → {number : ℕ} → number ≡ source_number (Source.Keyboard side) → {none : StepWords} → none ≡ no_call 0
      → {ws' : List ℕ} {moved : ℕ} → ws' ≡ with_turn (Source.Keyboard side) moved (us ++ drop words_length ws) → moved ≡ place + call.used
      → SideServed side ws script log (record { refusal = call.refusal; source = number; call = call; packet = none.packet }) ws' log'
  keyboard_turn h k p {ws' = ws'} v m =
      let source = Source.Keyboard side in
      let a = handled_side.answered in
      let u : ws' ≡ with_turn source (place + call.used) (us ++ drop words_length ws) = v ∙ ap (λ (x : ℕ). with_turn source x (us ++ drop words_length ws)) m in
      rw side_turn_lem
      (record {
        answered = rw (k, p, a);
        leaves = ap dispatcher_of u ∙ turn_stands us (h ∙ handler_length ws n) ws n source (place + call.used) ∙ rw (at, a, handled_side.leaves);
        writes = u ∙ (rw (at, a, handled_side.writes)) ∙ ap (λ (m : ℕ). with_turn source m (with_call side (bytes_in source ws script) log ws)) (sym (place_with source _ (dispatcher_of ws).places));
        logged = handled_side.logged;
      })

-- ---- the mouse's turn

module _ (ws script : List ℕ) (n : length ws ≡ dispatcher_length) (place from : ℕ) (at : place ≡ place_in Source.Mouse ws) (is : unused from script ≡ unused place script)
    {id : MouseId} (i : id ≡ identity_of (get_or ws mouse_at 0)) {e : End (Answer SignedPacket)} {u w : ℕ} (r : Reads (read_signed_packet id) (part from script) e u w)
    {told : PacketWords} (p : told ≡ told_packet e u w) where
  place_is : place ≡ (dispatcher_of ws).places.mouse
  place_is = at ∙ sym (place_stands Source.Mouse ws)

  unread : unused from script ≡ unused (dispatcher_of ws).places.mouse script
  unread = is ∙ ap (λ (m : ℕ). unused m script) place_is

  reading : Reads (read_signed_packet (dispatcher_of ws).mouse.id) (part from script) e u w
  unfolding dispatcher_of
  reading = rw i at r

  pub mouse_used : told.used ≤ length script - place
  mouse_used = omega (arith, ap (λ (x : PacketWords). x.used) p, mouse_used_le (dispatcher_of ws) script from unread reading, place_is)

  mouse_is : (log : List ℕ) → serve_mouse (dispatcher_of ws) script log
      ≡ stepped (packet (record { end = e; used = u; pairs = w })) (served_one Source.Mouse u (dispatcher_of ws).handler (dispatcher_of ws)) log
  mouse_is log = sym (mouse_served (dispatcher_of ws) script from unread reading log refl)

  pub mouse_turn : (log : List ℕ) {number : ℕ} → number ≡ source_number Source.Mouse → {none : StepWords} → none ≡ no_call 0 → {ws' : List ℕ} {moved : ℕ} → ws' ≡ with_turn Source.Mouse moved ws → moved ≡ place + told.used
      → MouseServed ws script log (record { refusal = told.refusal; source = number; call = none.call; packet = told }) ws' log
  mouse_turn log k c {ws' = ws'} v m =
      let t : ws' ≡ with_turn Source.Mouse (place + told.used) ws = v ∙ ap (λ (x : ℕ). with_turn Source.Mouse x ws) m in
      rw (mouse_is log)
      (record {
        answered = rw (k, c, p);
        leaves = ap dispatcher_of t ∙ turn_alone ws n Source.Mouse (place + told.used) ∙ rw (p, place_is);
        writes = t ∙ rw (p, place_is);
        logged = refl;
      })
