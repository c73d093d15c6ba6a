-- An interrupt's byte: one that changes nothing but the prefix, and a key's.
use mathlib.Core.Path.{◌≡◌, refl, sym, ap, ◌∙◌}
use mathlib.Core.Bool.{Bool, true, false}
use mathlib.Core.List.{List}
use mathlib.Core.Logic.{◌≢◌}
use Prim.Native.Nat.{ℕ}
use borrow.Author.Tests.{ne_eqb}
use Rattle.exchange.specs.Answer.{Answer, gives, refuses}
use Rattle.ps2_ports.specs.Ports.{read_port, read_data}
use Rattle.keycodes_ascii.specs.declared.KeyEvent.{KeyEvent}
use Rattle.keyboard_scancodes.specs.Strokes.{stroke, is_prefix, is_silent}
use Rattle.keyboard_scancodes.specs.FlagsAfter.{flags_after}
use Rattle.theseus_ps2.specs.Hardware.{Device, ran, run}
use Rattle.theseus_keyboard.specs.Handler.{rusts_table, next_byte, past_byte, lit, key_queue, Interrupted}

abbrev byte_of : Answer ℕ → ℕ
byte_of (gives b) = b
byte_of (refuses n) = 0

module _ {S : Type 0} (d : Device S) (s s1 : S) (b : ℕ) (r : ran (gives b) s1 ≡ run d read_data s) where
  byte_is : b ≡ next_byte d s
  unfolding run read_port
  byte_is = ap (λ o. byte_of o.value) r

  past_is : s1 ≡ past_byte d s
  unfolding run read_port
  past_is = ap (λ o. o.now) r

  module _ (x : Bool) (m : ℕ) (q : List KeyEvent) where
    pub silent_byte : (p : Bool) → p ≡ is_prefix b → is_silent b ≡ true → Interrupted d s x m q s1 p m q
    silent_byte p e h =
        let h' : is_silent (next_byte d s) ≡ true = ap is_silent (sym byte_is) ∙ h in
        rw h' (e ∙ ap is_prefix byte_is, refl, past_is, refl)

    pub key_byte : (m' : ℕ) (s2 : S) (q' : List KeyEvent) → b ≢ 0xE0 → b ≢ 0xE1 → b ≢ 0 → b ≢ 0xFA
        → m' ≡ flags_after rusts_table (stroke b x) m → s2 ≡ lit d b m' s1 → q' ≡ key_queue b m' q → Interrupted d s x m q s2 false m' q'
    key_byte m' s2 q' n0 n1 n2 n3 f l k =
        let e0 = ne_eqb b 0xE0 n0 in
        let e1 = ne_eqb b 0xE1 n1 in
        let h : is_silent (next_byte d s) ≡ false = ap is_silent (sym byte_is) ∙ rw (e0, e1, ne_eqb b 0 n2, ne_eqb b 0xFA n3) refl in
        let p : is_prefix b ≡ false = rw (e0, e1) refl in
        rw h (sym p ∙ ap is_prefix byte_is, f ∙ ap (λ y. flags_after rusts_table (stroke y x) m) byte_is, l ∙ ap (λ y. lit d y m' s1) byte_is ∙ ap (lit d (next_byte d s) m') past_is, k ∙ ap (λ y. key_queue y m' q) byte_is)
