-- The bytes that wait to be taken by later calls: a lamp exchange threw them away.
use Rattle.std.specs.Prelude.{List, [], ◌∷◌, ℕ, zero, suc, get_or}
use Rattle.ps2_kept.specs.declared.KeptBytes.{KeptBytes}
use Rattle.ps2_kept.specs.Kept.{kept_of}
use Rattle.keyboard_scancodes.specs.declared.WaitingBytes.{WaitingBytes}

-- The bytes of n places, one after another from a place on.
unfoldable pub bytes_from : List ℕ → ℕ → ℕ → List ℕ
bytes_from places place zero = []
bytes_from places place (suc n) = get_or places place 0 ∷ bytes_from places (suc place) n

-- The bytes that wait, the oldest first.
abbrev pub waiting_bytes : WaitingBytes → List ℕ
waiting_bytes w = bytes_from w.bytes 0 w.count

-- The kept bytes, waiting; the others don't wait.
abbrev pub waiting_in : KeptBytes → WaitingBytes
waiting_in k = record { bytes = k.bytes; count = k.count }

-- Of bytes that come to wait, "the earliest of them", "up to 16".
abbrev pub waiting_of : List ℕ → WaitingBytes
waiting_of l = waiting_in (kept_of l)
