-- Worked examples, computed.
use mathlib.Core.Path.{◌≡◌, refl}
use mathlib.Core.List.{[], ◌∷◌}
use lib.IntN.{pos, negsuc}
use Rattle.bits.specs.Bits.{bit, odd}
use Rattle.ps2_bytes.specs.declared.response.MouseId.TheVariants as Identity
use Rattle.report.specs.declared.sessions.Totals.{Totals}
use Rattle.report.specs.Keys.{values_from, for_each_key}
use Rattle.report.specs.Events.{presses}
use Rattle.ps2_packet.specs.Packets.{by_threes, by_fours}
use Rattle.report.specs.Packets.{sum_of}
use Rattle.report.specs.Totals.{Session}
use Rattle.std.specs.Prelude.{Ok, Err, Some, None}
use Rattle.report.specs.Adding.{out_of_range, at_most, in_range, added}
use Rattle.report.specs.Mean.{mean_of}
use Rattle.report.specs.Narrow.{narrow_limits}

-- nine packets so far, and x at its upper limit
at_limit : Totals
at_limit = record { presses = for_each_key (λ key. 0); packets = 9; x = pos 2147483647; y = pos 5 }

-- three packets of 1 to the right
rightwards : Session
rightwards = record { id = Identity.Zero; events = []; mouse = 0x08 ∷ 1 ∷ 0 ∷ 0x08 ∷ 1 ∷ 0 ∷ 0x08 ∷ 1 ∷ 0 ∷ [] }

-- the same, and one of 3 to the left
and_back : Session
and_back = record { id = Identity.Zero; events = []; mouse = 0x08 ∷ 1 ∷ 0 ∷ 0x08 ∷ 1 ∷ 0 ∷ 0x08 ∷ 1 ∷ 0 ∷ 0x18 ∷ 0xFD ∷ 0 ∷ [] }

refused : (added narrow_limits at_limit rightwards).answer ≡ Err out_of_range
unfolding at_limit rightwards values_from presses by_threes sum_of bit odd at_most in_range
refused = refl

-- a sum that leaves its range and is back at the session's end
there_and_back : added narrow_limits at_limit and_back ≡ record { answer = Ok tt; totals = record { presses = for_each_key (λ key. 0); packets = 13; x = pos 2147483647; y = pos 5 } }
unfolding at_limit and_back values_from presses by_threes sum_of bit odd at_most in_range
there_and_back = refl

-- a session that has nothing
nothing : (added narrow_limits at_limit (record { id = Identity.Four; events = 0x9E ∷ []; mouse = 0x08 ∷ 0xFF ∷ 0 ∷ [] })).totals.x ≡ pos 2147483647
unfolding at_limit values_from presses by_fours sum_of bit odd at_most in_range
nothing = refl

-- -7 over 3 packets is -3, and 2 remain
mean_below : mean_of (negsuc 6) 3 ≡ Some (record { quotient = negsuc 2; remainder = 2 })
mean_below = refl

no_mean : mean_of (pos 0) 0 ≡ None
no_mean = refl
