-- The keys of a text, character by character.
use mathlib.Core.Path.{◌≡◌, refl, ap, subst}
use mathlib.Core.List.{List, [], ◌∷◌}
use mathlib.Core.Option.{Option, none, some, some-injective, none-ne-some}
use Prim.Native.Nat.{ℕ, suc}
use lib.ListN.{length}
use Rattle.typing.specs.Keys.{Key, key_of, before, keys_of}

-- these are the keys of the text's characters
pub data Keyed : List ℕ → List Key → Type 0 where
  no_text : Keyed [] []
  one_key : {c : ℕ} {k : Key} {text : List ℕ} {ks : List Key} → key_of c ≡ some k → Keyed text ks → Keyed (c ∷ text) (k ∷ ks)

pub keys_none : keys_of [] ≡ some []
unfolding keys_of
keys_none = refl

pub keys_first : (c : ℕ) (text : List ℕ) → keys_of (c ∷ text) ≡ before (key_of c) (keys_of text)
unfolding keys_of
keys_first c text = refl

-- the first key and the others
record First (o : Option Key) (p : Option (List Key)) (ks : List Key) : Type 0 where
  pub one : Key
  pub others : List Key
  pub is_one : o ≡ some one
  pub are_others : p ≡ some others
  pub all : one ∷ others ≡ ks

first_of : (o : Option Key) (p : Option (List Key)) {ks : List Key} → before o p ≡ some ks → First o p ks
first_of (some k) (some js) e = record { one = k; others = js; is_one = refl; are_others = refl; all = some-injective _ _ e }
first_of (some k) none e = absurd (none-ne-some _ e)
first_of none p e = absurd (none-ne-some _ e)

pub keyed : (text : List ℕ) {ks : List Key} → keys_of text ≡ some ks → Keyed text ks
unfolding keys_of
keyed [] e = subst (Keyed []) (some-injective _ _ e) no_text
keyed (c ∷ text) e =
    let f = first_of (key_of c) (keys_of text) e in
    subst (Keyed (c ∷ text)) f.all (one_key f.is_one (keyed text f.are_others))

pub keyed_keys : {text : List ℕ} {ks : List Key} → Keyed text ks → keys_of text ≡ some ks
unfolding keys_of
keyed_keys no_text = refl
keyed_keys (one_key e h) = rw (e, keyed_keys h)

-- a key for each character
pub keyed_length : {text : List ℕ} {ks : List Key} → Keyed text ks → length ks ≡ length text
keyed_length no_text = refl
keyed_length (one_key e h) = ap suc (keyed_length h)
