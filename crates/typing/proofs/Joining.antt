-- A text in two parts is typed as the one part, then the other: nothing is held over from key to key.
use mathlib.Core.Path.{◌≡◌, refl, sym, ap, ◌∙◌}
use mathlib.Core.List.{List, [], ◌∷◌, ◌++◌, append_assoc}
use mathlib.Core.Option.{some}
use Prim.Native.Nat.{ℕ}
use Rattle.typing.specs.Keys.{Key, keys_of}
use Rattle.typing.specs.Typing.{strokes_of, scancodes}
use Rattle.typing.proofs.Texts.{Keyed, no_text, one_key, keyed, keyed_keys}

keyed_join : {a b : List ℕ} {ks js : List Key} → Keyed a ks → Keyed b js → Keyed (a ++ b) (ks ++ js)
keyed_join no_text h = h
keyed_join (one_key e g) h = one_key e (keyed_join g h)

pub keys_join : (a b : List ℕ) {ks js : List Key} → keys_of a ≡ some ks → keys_of b ≡ some js → keys_of (a ++ b) ≡ some (ks ++ js)
keys_join a b e f = keyed_keys (keyed_join (keyed a e) (keyed b f))

pub scancodes_join : (ks js : List Key) → scancodes (ks ++ js) ≡ scancodes ks ++ scancodes js
unfolding scancodes
scancodes_join [] js = refl
scancodes_join (k ∷ ks) js = ap (λ (l : List ℕ). strokes_of k ++ l) (scancodes_join ks js) ∙ sym (append_assoc (strokes_of k) (scancodes ks) (scancodes js))

-- ---- and the keys of a text in two parts are those of the one part, then those of the other

pub record Split (a b : List ℕ) (ks : List Key) : Type 0 where
  pub first : List Key
  pub others : List Key
  pub first_keys : Keyed a first
  pub others_keys : Keyed b others
  pub all : ks ≡ first ++ others

keyed_split : (a b : List ℕ) {ks : List Key} → Keyed (a ++ b) ks → Split a b ks
keyed_split [] b {ks} h = record { first = []; others = ks; first_keys = no_text; others_keys = h; all = refl }
keyed_split (c ∷ a) b (one_key {k = k} e h) =
    let s = keyed_split a b h in
    record { first = k ∷ s.first; others = s.others; first_keys = one_key e s.first_keys; others_keys = s.others_keys; all = ap (λ (l : List Key). k ∷ l) s.all }

pub keys_split : (a b : List ℕ) {ks : List Key} → keys_of (a ++ b) ≡ some ks → Split a b ks
keys_split a b e = keyed_split a b (keyed (a ++ b) e)
