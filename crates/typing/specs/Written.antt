-- What typing a text into a writer comes to.
use Rattle.std.specs.Prelude.{List, ◌≡◌, ℕ, Result, Ok, Err, IfOk}
use Rattle.std.specs.Prelude as found
use Rattle.std.proofs.Math.Option.{Option, none, some}
use Rattle.std.specs.Io.KnownBytes.{Appends}
use Rattle.std.specs.declared.io.Error.{Error}
use Rattle.typing.specs.declared.TypingRefusal.{TypingRefusal}
use Rattle.typing.specs.declared.TypingRefusal.TheVariants.{NoKey}
use Rattle.typing.specs.Keys.{Key}
use Rattle.typing.specs.Typing.{scancodes}

module _ {W : Type 0} (contents : W → found.Option (List ℕ)) (old new : W) where
  -- "25 if a character has no key": then the writer stays as it was. Otherwise, unless a write
  -- fails, the writer gets the scancodes of the whole text.
  abbrev pub Written : Option (List Key) → Result (Result (Unit {0}) TypingRefusal) Error → Type 0
  Written none result = (result ≡ Ok (Err NoKey)) × (new ≡ old)
  Written (some keys) result = IfOk result (λ done. (done ≡ Ok tt) × Appends (contents old) (contents new) (scancodes keys))
