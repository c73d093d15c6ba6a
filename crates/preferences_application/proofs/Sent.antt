-- The bytes that the settings of a record send are its fields, each in its place.
use mathlib.Core.Bool.{Bool, true, false, ◌||◌, not}
use mathlib.Core.Path.{◌≡◌, sym, subst}
use Prim.Native.Nat.{ℕ}
use native.Mathlib.Omega.{arith}
use lib.Dec.{T, eqb, eqb→eq}
use Rattle.bits.specs.Table.{decode}
use Rattle.bits.proofs.Every.{every_at}
use Rattle.ps2_bytes.specs.Data.{scancode_set_byte, sample_rate_byte, resolution_byte}
use Rattle.preferences.specs.declared.Preferences.{Preferences}
use Rattle.preferences.specs.declared.Preferences.TheVariants.{Version1, Version2}
use Rattle.preferences.specs.Values.{is_scancode_set, is_sampling_rate, is_resolution}
use Rattle.preferences.specs.Record.{within_values, fields_of}
use Rattle.preferences_application.specs.Settings.{set_of, rate_of, resolution_of, settings_of}
use Rattle.preferences_application.specs.Sent.{bytes_sent}
use Rattle.preferences_application.proofs.Bytes.{set_most, rate_most, resolution_most, four_within, first_four}

implied : (a b : Bool) → T (not a || b) → a ≡ true → T b
implied true b t q = t
implied false b t q = absurd (subst T (sym q) tt)

set_sent : (n : ℕ) → is_scancode_set n ≡ true → scancode_set_byte (set_of n) ≡ n
unfolding decode
set_sent n q =
    eqb→eq (scancode_set_byte (set_of n)) n
    (implied (is_scancode_set n) _ (every_at (λ n. not (is_scancode_set n) || eqb (scancode_set_byte (set_of n)) n) 4 tt n (omega (arith, set_most n q))) q)

rate_sent : (n : ℕ) → is_sampling_rate n ≡ true → sample_rate_byte (rate_of n) ≡ n
unfolding decode
rate_sent n q =
    eqb→eq (sample_rate_byte (rate_of n)) n
    (implied (is_sampling_rate n) _ (every_at (λ n. not (is_sampling_rate n) || eqb (sample_rate_byte (rate_of n)) n) 201 tt n (omega (arith, rate_most n q))) q)

resolution_sent : (n : ℕ) → is_resolution n ≡ true → resolution_byte (resolution_of n) ≡ n
unfolding decode
resolution_sent n q =
    eqb→eq (resolution_byte (resolution_of n)) n
    (implied (is_resolution n) _ (every_at (λ n. not (is_resolution n) || eqb (resolution_byte (resolution_of n)) n) 4 tt n (omega (arith, resolution_most n q))) q)

pub fields_sent : (p : Preferences) → within_values p ≡ true → bytes_sent (settings_of p) ≡ fields_of p
fields_sent (Version1 four) q =
    let w = four_within four q in
    rw (set_sent four.set w.set_in, rate_sent four.rate w.rate_in, resolution_sent four.resolution w.resolution_in)
fields_sent (Version2 four again) q =
    let w = four_within four (first_four four again q) in
    rw (set_sent four.set w.set_in, rate_sent four.rate w.rate_in, resolution_sent four.resolution w.resolution_in)
