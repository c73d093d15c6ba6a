-- How far a conversion has come: what is left of the stream, converted into what is left of the output, makes the whole.
use mathlib.Core.Path.{◌≡◌, refl, sym, ap, ap₂, subst, ◌∙◌}
use mathlib.Core.List.{List, [], ◌∷◌, ◌++◌, append-nil, append_assoc}
use Prim.Native.Nat.{ℕ, suc, ◌+◌, ◌-◌, ◌<◌, ◌≤◌}
use native.Mathlib.Nat.{add-zero, zero-add, add_assoc}
use native.Mathlib.Numerals.{add-one}
use native.Mathlib.Omega.{arith}
use lib.ListN.{length, get_or, take, drop, set, length-set, take-append-drop, drop_of_length-le}
use lib.Seq.{length-take-le, take-suc-set, drop-set-lt, drop-drop}
use Rattle.exchange.specs.Answer.{Answer, gives, refuses}
use Rattle.ps2_answers.specs.Refusals.{Success, success}
use Rattle.scancode_set2.specs.Codes.{break_byte, Code, alone, after_f0, ends_after_f0, codes, width}
use Rattle.scancode_set2.specs.Convert.{becomes, or_no_byte, Converted, ends, writes, convert_codes, convert_stream, outcome, leaves, converted}
use Rattle.scancode_set2.specs.Stops.{behind}
use Rattle.scancode_set2.proofs.Codes.{alone_at, after_at}
use Rattle.scancode_set2.proofs.Becomes.{Way, alone_way, after_way, zero_refused, byte_given}

-- ---- one conversion behind another

pub behind_none : (c : Converted) → behind 0 [] c ≡ c
behind_none c = rw (zero-add c.used)

pub behind-writes : (used : ℕ) (bytes : List ℕ) (c : Code) (b : ℕ) (r : Converted) → behind used bytes (writes c b r) ≡ behind (used + width c) (bytes ++ (b ∷ [])) r
behind-writes used bytes c b r = rw (add_assoc used (width c) r.used, append_assoc bytes (b ∷ []) r.bytes)

-- ---- one code

pub code_written : (c : Code) {b : ℕ} (others : List Code) (room : ℕ) → becomes c ≡ gives b → convert_codes (c ∷ others) (suc room) ≡ writes c b (convert_codes others room)
unfolding convert_codes
code_written c others room e = rw e

pub code_full : (c : Code) {b : ℕ} (others : List Code) → becomes c ≡ gives b → convert_codes (c ∷ others) 0 ≡ ends (refuses 23)
unfolding convert_codes
code_full c others e = rw e

pub code_refused : (c : Code) {n : ℕ} (others : List Code) (room : ℕ) → becomes c ≡ refuses n → convert_codes (c ∷ others) room ≡ ends (refuses n)
unfolding convert_codes
code_refused c others room e = rw e

-- ---- how far

pub record Reached (stream before : List ℕ) (used written : ℕ) (out : List ℕ) : Type 0 where
  pub used_le : used ≤ length stream
  pub written_le : written ≤ length out
  pub all : convert_stream stream (length before) ≡ behind used (take written out) (convert_stream (drop used stream) (length before - written))
  pub rest : drop written out ≡ drop written before

pub so_far : {stream before out : List ℕ} {used n written : ℕ} → used ≡ n → Reached stream before used written out → Reached stream before n written out
so_far {stream} {before} {out} {written = written} e = subst (λ (m : ℕ). Reached stream before m written out) e

module _ {stream before out : List ℕ} {used written : ℕ} (h : Reached stream before used written out) where
  -- where nothing more is converted, the outcome is what the code has
  pub reached_end : {a : Answer Success} → convert_stream (drop used stream) (length before - written) ≡ ends a → outcome a used written out ≡ converted stream before
  unfolding leaves
  reached_end {a} e =
      let w = h.all ∙ ap (behind used (take written out)) e in
      let o : out ≡ take written out ++ drop written before = sym (take-append-drop written out) ∙ ap (λ (l : List ℕ). take written out ++ l) h.rest in
      sym (ap (λ (c : Converted). leaves c before) w
      ∙ rw (add-zero used, append-nil (take written out), length-take-le written out h.written_le) (ap (outcome a used written) (sym o)))

  -- one code more, which has w bytes
  pub reached_more : (c : Code) {w b : ℕ} → width c ≡ w → codes (drop used stream) ≡ c ∷ codes (drop (used + w) stream) → becomes c ≡ gives b
      → length out ≡ length before → written < length out → used + w ≤ length stream → Reached stream before (used + w) (written + 1) (set out written b)
  reached_more c {w} {b} v e q same l u =
      let left = length before - (written + 1) in
      let room : length before - written ≡ suc left = omega arith in
      let others = drop (used + w) stream in
      let front : take written out ++ (b ∷ []) ≡ take (written + 1) (set out written b) = sym (rw (add-one written) (take-suc-set out written b l)) in
      record {
        used_le = u;
        written_le = simp length-set (omega arith);
        all =
            h.all
            ∙ ap (behind used (take written out)) (ap₂ convert_codes e room ∙ code_written c (codes others) left q)
            ∙ behind-writes used (take written out) c b (convert_stream others left)
            ∙ ap₂ (λ (n : ℕ) (l : List ℕ). behind (used + n) l (convert_stream others left)) v front;
        rest = drop-set-lt (written + 1) out written b (omega arith) ∙ sym (drop-drop 1 written out) ∙ ap (drop 1) h.rest ∙ drop-drop 1 written before;
      }

-- ---- at a place of the stream

pub stop_done : (stream : List ℕ) (used room : ℕ) → length stream ≤ used → convert_stream (drop used stream) room ≡ ends (gives success)
unfolding convert_codes codes
stop_done stream used room h = rw (drop_of_length-le stream h)

pub stop_24 : (stream : List ℕ) (used room : ℕ) → codes (drop used stream) ≡ ends_after_f0 ∷ [] → convert_stream (drop used stream) room ≡ ends (refuses 24)
unfolding becomes
stop_24 stream used room e = ap (λ (cs : List Code). convert_codes cs room) e ∙ code_refused ends_after_f0 [] room refl

-- a code of so many bytes stands there, and becomes this byte, or 00 where it has no entry
pub record Stands (stream : List ℕ) (used byte bytes : ℕ) : Type 0 where
  pub code : Code
  pub is : codes (drop used stream) ≡ code ∷ codes (drop (used + bytes) stream)
  pub wide : width code ≡ bytes
  pub some_bytes : 0 < bytes
  pub within : used + bytes ≤ length stream
  pub way : Way code
  pub says : byte ≡ or_no_byte (becomes code)

module _ (stream : List ℕ) (used byte : ℕ) (h : used < length stream) where
  pub stands_alone : (get_or stream used 0 ≡ break_byte → ⊥) → byte ≡ or_no_byte (becomes (alone (get_or stream used 0))) → Stands stream used byte 1
  stands_alone n q =
      record { code = alone (get_or stream used 0); is = alone_at stream used h n; wide = refl; some_bytes = omega arith; within = omega arith; way = alone_way (get_or stream used 0); says = q }

  pub stands_after : get_or stream used 0 ≡ break_byte → (length stream - used ≡ 1 → ⊥) → byte ≡ or_no_byte (becomes (after_f0 (get_or stream (used + 1) 0))) → Stands stream used byte 2
  stands_after e n q =
      record { code = after_f0 (get_or stream (used + 1) 0); is = after_at stream used h e n; wide = refl; some_bytes = omega arith; within = omega arith; way = after_way (get_or stream (used + 1) 0); says = q }

pub so_wide : {stream : List ℕ} {used byte bytes n : ℕ} → bytes ≡ n → Stands stream used byte bytes → Stands stream used byte n
so_wide {stream} {used} {byte} e = subst (Stands stream used byte) e

module _ {stream : List ℕ} {used byte bytes : ℕ} (h : Stands stream used byte bytes) where
  abbrev others : List Code
  others = codes (drop (used + bytes) stream)

  pub stop_22 : (room : ℕ) → byte ≡ 0 → convert_stream (drop used stream) room ≡ ends (refuses 22)
  stop_22 room z =
      ap (λ (cs : List Code). convert_codes cs room) h.is ∙ code_refused h.code others room (zero_refused h.code h.way (sym h.says ∙ z))

  module _ (n : byte ≡ 0 → ⊥) where
    becomes_byte : becomes h.code ≡ gives byte
    becomes_byte = byte_given h.code h.way (λ z. n (h.says ∙ z)) ∙ ap gives (sym h.says)

    pub stop_23 : (room : ℕ) → room ≡ 0 → convert_stream (drop used stream) room ≡ ends (refuses 23)
    stop_23 room z = ap₂ convert_codes h.is z ∙ code_full h.code others becomes_byte

    pub goes_on : {before out : List ℕ} {written : ℕ} → Reached stream before used written out → length out ≡ length before → written < length out
        → Reached stream before (used + bytes) (written + 1) (set out written byte)
    goes_on r same w = reached_more r h.code h.wide h.is becomes_byte same w h.within
