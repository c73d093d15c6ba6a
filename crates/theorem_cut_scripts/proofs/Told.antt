-- The laws for operations that answer by numbers: a script and a log, and a script alone; each also where an argument is a number.
use Prim.Native.Nat.{ℕ}
use mathlib.Core.List.{List}
use mathlib.Core.Option.{Option, none, some}
use mathlib.Core.Path.{◌≡◌, refl}
use lib.ListN.{take}
use Rattle.exchange.specs.Exchange.{Exchange, End, play}
use Rattle.port_words.specs.Told.{told}
use Rattle.port_words.specs.ToldKept.{told_kept}
use Rattle.port_words.specs.ToldPacket.{told_packet}
use Rattle.port_words.specs.Tells.{Tells, TellsReading, TellsAt, TellsReadingAt}
use Rattle.controller_words.specs.declared.ControllerWords.{ControllerWords}
use Rattle.controller_words.specs.Controller.{told_init}
use Rattle.theorem_cut_scripts.specs.CutShort.{next_port, CutShort}
use Rattle.theorem_cut_scripts.specs.Forms.{lack}
use Rattle.theorem_cut_scripts.specs.Told.{Parts, handed_in, handed_read, UsedTold, CountsTold, port_parts, kept_parts, packet_parts, init_parts}
use Rattle.theorem_cut_scripts.proofs.CutShort.{handed_by, cut_short}

-- ---- the kinds of answers

pub told_counts : {A : Type 0} (value : A → ℕ) → CountsTold port_parts (told value)
told_counts value = record { used = record { used_is = λ e u w. refl; others_are = λ e u w. refl }; pairs_are = λ e u w. refl }

pub kept_counts : {A : Type 0} → CountsTold kept_parts (told_kept {A = A})
kept_counts = record { used = record { used_is = λ e u w. refl; others_are = λ e u w. refl }; pairs_are = λ e u w. refl }

pub packet_counts : UsedTold packet_parts told_packet
packet_counts = record { used_is = λ e u w. refl; others_are = λ e u w. refl }

pub init_counts : (passed : ControllerWords) → CountsTold init_parts (told_init passed)
init_counts passed = record { used = record { used_is = λ e u w. refl; others_are = λ e u w. refl }; pairs_are = λ e u w. refl }

-- ---- a script and a log

module _ {A R : Type 0} {parts : Parts R} {tell : End A → ℕ → ℕ → R} (k : CountsTold parts tell) (n : ℕ) (script log : List ℕ) where
  module _ (t : Exchange A) where
    handed_told : (s : List ℕ) {a : R} {m : List ℕ} → Tells tell t s log a m → handed_in parts a m ≡ handed_by (λ (e : End A). tell e 0 0) (play t s log)
    handed_told s c = rw (c.answered, c.logged, k.used.used_is, k.used.others_are, k.pairs_are)

    pub tells_cut : {r r' : R} {l l' : List ℕ} → Tells tell t script log r l → Tells tell t (take n script) log r' l'
        → CutShort n (tell (lack (next_port n t script log)) 0 0) log (handed_in parts r l) (handed_in parts r' l')
    tells_cut c c' = cut_short (λ (e : End A). tell e 0 0) t n script log (handed_told script c) (handed_told (take n script) c')

  module _ {X : Type 0} {refusal : R} (operation : X → Exchange A) {argument : Option X} {r r' : R} {l l' : List ℕ} where
    pub tells_at_cut : (v : X) → argument ≡ some v → TellsAt refusal tell operation argument script log r l → TellsAt refusal tell operation argument (take n script) log r' l'
        → CutShort n (tell (lack (next_port n (operation v) script log)) 0 0) log (handed_in parts r l) (handed_in parts r' l')
    tells_at_cut v q c c' = tells_cut (operation v) (c.at v q) (c'.at v q)

    -- an argument that stands for nothing is refused before a byte is read
    pub tells_at_same : argument ≡ none → TellsAt refusal tell operation argument script log r l → TellsAt refusal tell operation argument (take n script) log r' l'
        → handed_in parts r' l' ≡ handed_in parts r l
    tells_at_same q c c' =
        let p = c.nothing q in
        let p' = c'.nothing q in
        rw (p.0, p.1, p'.0, p'.1)

-- ---- a script alone

module _ {A R : Type 0} {parts : Parts R} {tell : End A → ℕ → ℕ → R} (k : UsedTold parts tell) (n : ℕ) (script log : List ℕ) where
  module _ (t : Exchange A) where
    handed_read_lem : (s : List ℕ) {a : R} → TellsReading tell t s a → handed_read parts a log ≡ handed_by (λ (e : End A). tell e 0 0) (play t s log)
    handed_read_lem s c =
        let d = c.with_any log in
        rw (d.answered, ← d.logged, k.used_is, k.others_are, c.no_pairs log)

    pub tells_reading_cut : {r r' : R} → TellsReading tell t script r → TellsReading tell t (take n script) r'
        → CutShort n (tell (lack (next_port n t script log)) 0 0) log (handed_read parts r log) (handed_read parts r' log)
    tells_reading_cut c c' = cut_short (λ (e : End A). tell e 0 0) t n script log (handed_read_lem script c) (handed_read_lem (take n script) c')

  module _ {X : Type 0} {refusal : R} (operation : X → Exchange A) {argument : Option X} {r r' : R} where
    pub tells_reading_at_cut : (v : X) → argument ≡ some v → TellsReadingAt refusal tell operation argument script r → TellsReadingAt refusal tell operation argument (take n script) r'
        → CutShort n (tell (lack (next_port n (operation v) script log)) 0 0) log (handed_read parts r log) (handed_read parts r' log)
    tells_reading_at_cut v q c c' = tells_reading_cut (operation v) (c.at v q) (c'.at v q)

    pub tells_reading_at_same : argument ≡ none → TellsReadingAt refusal tell operation argument script r → TellsReadingAt refusal tell operation argument (take n script) r'
        → handed_read parts r' log ≡ handed_read parts r log
    tells_reading_at_same q c c' =
        let p = c.nothing q in
        let p' = c'.nothing q in
        rw (p, p')
