-- An output of which a part is written: what was written, then what was there.
use mathlib.Core.Path.{◌≡◌, ◌∙◌}
use mathlib.Core.List.{List, [], ◌∷◌, ◌++◌, append_assoc}
use Prim.Native.Nat.{ℕ, suc, ◌≤◌, ◌<◌}
use native.Mathlib.Omega.{arith}
use native.Mathlib.Numerals.{add-one}
use lib.ListN.{length, get_or, set, take, drop, length-append, length-drop}
use lib.Seq.{drop-cons, set-append_seam, paste, take-append_seam, drop-append-add, drop-drop, length-take-le}
use Rattle.ps2_salvage.specs.Salvage.{over}

pub over-length : (now before : List ℕ) → length now ≤ length before → length (over now before) ≡ length before
over-length now before h = length-append now (drop (length now) before) ∙ rw length-drop (omega arith)

-- one element more
pub over-set : (now before : List ℕ) (v : ℕ) → length now < length before → set (over now before) (length now) v ≡ over (now ++ (v ∷ [])) before
over-set now before v h =
    rw (drop-cons before (length now) 0 h)
    (set-append_seam now (get_or before (length now) 0) (drop (suc (length now)) before) v
    ∙ rw (append_assoc now (v ∷ []), length-append now (v ∷ []), add-one (length now)))

-- some elements more, copied from elsewhere
pub over-paste : (now before from : List ℕ) (n : ℕ) → n ≤ length from → paste (over now before) (length now) from n ≡ over (now ++ take n from) before
over-paste now before from n h =
    rw (take-append_seam now (drop (length now) before), drop-append-add now (drop (length now) before) n, drop-drop n (length now) before)
    (rw (length-append now (take n from), length-take-le n from h))
