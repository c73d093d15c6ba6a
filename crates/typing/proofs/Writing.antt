-- A text's scancodes, written a piece of the text at a time.
use mathlib.Core.Path.{◌≡◌, refl, sym, ap, ap₂, subst, ◌∙◌}
use mathlib.Core.List.{List, [], ◌++◌, append-nil, append_assoc}
use mathlib.Core.Option.{some, some-injective}
use Prim.Native.Nat.{ℕ, ◌*◌, ◌≤◌}
use native.Mathlib.Omega.{arith}
use lib.ListN.{length, take, drop}
use lib.Seq.{take-append_seam}
use Rattle.std.specs.Prelude.{Ok}
use Rattle.std.specs.Prelude as found
use Rattle.std.specs.Io.KnownBytes.{Appends}
use Rattle.std.proofs.KnownBytes.{Appends-nil, Appends-trans}
use Rattle.std.proofs.lemmas.List.{nil_from_length}
use Rattle.exchange.specs.Answer.{gives}
use Rattle.typing.specs.Keys.{Key, keys_of}
use Rattle.typing.specs.Typing.{scancodes, Accepted, typed, Outcome, leaves, told}
use Rattle.typing.specs.Written.{Written}
use Rattle.typing.proofs.Texts.{keyed_keys, keys_none}
use Rattle.typing.proofs.Joining.{Split, keys_split, scancodes_join}
use Rattle.typing.proofs.Lengths.{typed_fits, typed_le}

-- ---- what is left of the text, and the bytes before and now

pub record Writing (text rest : List ℕ) (old new : found.Option (List ℕ)) : Type 0 where
  pub keys : List Key
  pub are : keys_of text ≡ some keys
  pub put : List Key
  pub left : List Key
  pub are_left : keys_of rest ≡ some left
  pub whole : keys ≡ put ++ left
  pub written : Appends old new (scancodes put)

pub writing_begins : (text rest : List ℕ) (old : found.Option (List ℕ)) {ks : List Key} → keys_of text ≡ some ks → rest ≡ text → Writing text rest old old
unfolding scancodes
writing_begins text rest old {ks} e whole = record { keys = ks; are = e; put = []; left = ks; are_left = ap keys_of whole ∙ e; whole = refl; written = Appends-nil old }

module _ {text rest : List ℕ} {old mid : found.Option (List ℕ)} (h : Writing text rest old mid) (piece others : List ℕ) (parts : rest ≡ piece ++ others) where
  split : Split piece others h.left
  split = keys_split piece others (ap keys_of (sym parts) ∙ h.are_left)

  piece_keys : keys_of piece ≡ some split.first
  piece_keys = keyed_keys split.first_keys

  pub writing_accepted : (room : ℕ) → 4 * length piece ≤ room → Accepted room piece
  writing_accepted room l = record { keys = split.first; has_keys = piece_keys; fits = omega (arith, typed_le piece piece_keys) }

  module _ (out : List ℕ) (room : 4 * length piece ≤ length out) {n : ℕ} {left : List ℕ} (e : told (Ok n) left ≡ leaves out (typed (length out) piece)) where
    is_put : told (Ok n) left ≡ leaves out (gives (scancodes split.first))
    is_put = e ∙ ap (leaves out) (typed_fits piece piece_keys (length out) (omega (arith, typed_le piece piece_keys)))

    is_front : take n left ≡ scancodes split.first
    is_front = ap₂ take (ap (λ (o : Outcome). o.count) is_put) (ap (λ (o : Outcome). o.output) is_put) ∙ take-append_seam (scancodes split.first) (drop (length (scancodes split.first)) out)

    pub writing_goes_on : {new : found.Option (List ℕ)} → Appends mid new (take n left) → Writing text others old new
    writing_goes_on {new} w =
        record {
          keys = h.keys;
          are = h.are;
          put = h.put ++ split.first;
          left = split.others;
          are_left = keyed_keys split.others_keys;
          whole = h.whole ∙ ap (λ (l : List Key). h.put ++ l) split.all ∙ sym (append_assoc h.put split.first split.others);
          written =
              subst
              (Appends old new)
              (sym (scancodes_join h.put split.first))
              (Appends-trans old mid new (scancodes h.put) (scancodes split.first) h.written (subst (Appends mid new) is_front w));
        }

-- at the end of the text everything is written
module _ {W : Type 0} (contents : W → found.Option (List ℕ)) {old new : W} {text rest : List ℕ} (h : Writing text rest (contents old) (contents new)) where
  pub writing_ends : length rest ≡ 0 → Written contents old new (keys_of text) (Ok (Ok tt))
  writing_ends e =
      let none : h.left ≡ [] = some-injective _ _ (sym h.are_left ∙ ap keys_of (nil_from_length rest e) ∙ keys_none) in
      let all : h.put ≡ h.keys = sym (h.whole ∙ ap (λ (l : List Key). h.put ++ l) none ∙ append-nil h.put) in
      rw h.are (refl, subst (λ (ks : List Key). Appends (contents old) (contents new) (scancodes ks)) all h.written)
