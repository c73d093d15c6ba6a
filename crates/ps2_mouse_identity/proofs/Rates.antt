-- Rates, one after another, from the place in the list that has been reached.
use Prim.Native.Nat.{ℕ, ◌+◌, ◌≤◌, ◌<◌}
use native.Mathlib.Numerals.{add-one}
use mathlib.Core.List.{List}
use mathlib.Core.Path.{◌≡◌}
use lib.ListN.{length, get_or, drop, drop_of_length-le}
use lib.Seq.{drop-cons}
use Rattle.exchange.specs.Exchange.{done}
use Rattle.exchange.specs.Answer.{gives, and_then}
use Rattle.ps2_bytes.specs.declared.data.MouseSampleRate.{MouseSampleRate}
use Rattle.ps2_answers.specs.Refusals.{success}
use Rattle.ps2_mouse.specs.Mouse.{set_sampling_rate}
use Rattle.ps2_mouse_identity.specs.Identity.{set_rates}

-- the next rate
pub rates_next : (rates : List MouseSampleRate) (i : ℕ) (d : MouseSampleRate) → i < length rates
    → set_rates (drop i rates) ≡ and_then (set_sampling_rate (get_or rates i d)) (λ _. set_rates (drop (i + 1) rates))
unfolding set_rates
rates_next rates i d h = rw (add-one, drop-cons rates i d)

-- none left
pub rates_over : (rates : List MouseSampleRate) (i : ℕ) → length rates ≤ i → set_rates (drop i rates) ≡ done (gives success)
unfolding set_rates
rates_over rates i h = rw (drop_of_length-le rates h)
