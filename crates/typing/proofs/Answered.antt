-- Typing answers as is asked: 25 exactly where a character has no key, otherwise 26 exactly where there is less room than its keys take.
use mathlib.Core.Path.{◌≡◌, refl, ap, subst⁻¹}
use mathlib.Core.Bool.{Bool, true, false, false≢true}
use mathlib.Core.List.{List, [], ◌∷◌}
use mathlib.Core.Option.{Option, none, some, some-ne-none}
use Prim.Native.Nat.{ℕ, ◌<◌, ◌≤◌}
use native.Mathlib.Omega.{arith}
use native.Mathlib.Decide.{dec_lt}
use Rattle.exchange.specs.Answer.{Answer, gives, refuses}
use Rattle.typing.specs.Keys.{Key, key_of, before, keys_of}
use Rattle.typing.specs.Typing.{scancodes, typed}
use Rattle.typing.specs.Lengths.{widths}
use Rattle.typing.specs.Answered.{Keyless, first, later, Answered, a_25, a_26, done}
use Rattle.typing.proofs.Lengths.{scancodes_widths, typed_no_key, typed_fits, typed_short}

keyless_first : {c : ℕ} {text : List ℕ} (o : Option Key) (p : Option (List Key)) → key_of c ≡ o → before o p ≡ none → (p ≡ none → Keyless text) → Keyless (c ∷ text)
keyless_first none p e q h = first e
keyless_first (some k) none e q h = later (h refl)
keyless_first (some k) (some ks) e q h = absurd (some-ne-none _ q)

keyless : (text : List ℕ) → keys_of text ≡ none → Keyless text
unfolding keys_of
keyless [] e = absurd (some-ne-none _ e)
keyless (c ∷ text) e = keyless_first (key_of c) (keys_of text) refl e (keyless text)

pub answered : (room : ℕ) (text : List ℕ) → Answered room text (typed room text)
answered room text = by (keys_of text) refl
  where
    fits : (keys : List Key) → keys_of text ≡ some keys → Dec (room < widths keys) → Answered room text (typed room text)
    fits keys e (yes l) = subst⁻¹ (Answered room text) (typed_short text e room (rw (scancodes_widths keys) l)) (a_26 keys e l)
    fits keys e (no n) =
        let l : widths keys ≤ room = omega arith in
        subst⁻¹ (Answered room text) (typed_fits text e room (rw (scancodes_widths keys) l)) (done keys e l)

    by : (o : Option (List Key)) → keys_of text ≡ o → Answered room text (typed room text)
    by none e = subst⁻¹ (Answered room text) (typed_no_key text room e) (a_25 (keyless text e))
    by (some keys) e = fits keys e (dec_lt room (widths keys))

-- ---- and each answer is given for nothing else

before-none : (o : Option Key) → before o none ≡ none
before-none none = refl
before-none (some k) = refl

keyless_none : {text : List ℕ} → Keyless text → keys_of text ≡ none
unfolding keys_of
keyless_none (first e) = rw e
keyless_none (later {c = c} h) = rw (keyless_none h) (before-none (key_of c))

pub answered_typed : {room : ℕ} {text : List ℕ} {a : Answer (List ℕ)} → Answered room text a → typed room text ≡ a
answered_typed {room} {text} (a_25 h) = typed_no_key text room (keyless_none h)
answered_typed {room} {text} (a_26 keys e l) = typed_short text e room (rw (scancodes_widths keys) l)
answered_typed {room} {text} (done keys e l) = typed_fits text e room (rw (scancodes_widths keys) l)

-- ---- the keys of a text that is accepted

abbrev codes_of : Answer (List ℕ) → List ℕ
codes_of (gives codes) = codes
codes_of (refuses n) = []

refuses_gives : {n : ℕ} {codes : List ℕ} → Path (Answer (List ℕ)) (refuses n) (gives codes) → ⊥
refuses_gives e = false≢true (ap is_given e)
  where
    is_given : Answer (List ℕ) → Bool
    is_given (gives codes) = true
    is_given (refuses n) = false

pub typed_gives : (room : ℕ) (text codes : List ℕ) → typed room text ≡ gives codes → (keys : List Key) × (keys_of text ≡ some keys) × (scancodes keys ≡ codes)
typed_gives room text codes e = by (answered room text) e
  where
    by : {a : Answer (List ℕ)} → Answered room text a → a ≡ gives codes → (keys : List Key) × (keys_of text ≡ some keys) × (scancodes keys ≡ codes)
    by (a_25 h) e = absurd (refuses_gives e)
    by (a_26 keys k l) e = absurd (refuses_gives e)
    by (done keys k l) e = (keys, k, ap codes_of e)
