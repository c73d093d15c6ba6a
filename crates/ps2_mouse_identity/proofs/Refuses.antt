-- What `set_mouse_id` refuses with before F4: 13, 15 and 16. Its own identities refuse nothing.
use Prim.Native.Nat.{ℕ}
use mathlib.Core.List.{List, [], ◌∷◌}
use Rattle.exchange.specs.Answer.{Answer, gives, refuses}
use Rattle.exchange.specs.Only.{only_done}
use Rattle.exchange.specs.Refuses.{Refuses}
use Rattle.exchange.proofs.Only.{only_bind}
use Rattle.exchange.proofs.Then.{only_any, refuses_then, refuses_more}
use Rattle.ps2_bytes.specs.declared.data.MouseSampleRate.{MouseSampleRate}
use Rattle.ps2_bytes.specs.declared.response.MouseId.{MouseId}
use Rattle.ps2_bytes.specs.declared.response.MouseId.TheVariants.{Zero, Three, Four}
use Rattle.ps2_mouse.specs.Mouse.{mouse_id}
use Rattle.ps2_mouse.proofs.Refuses.{refuses_set_sampling_rate, refuses_disable_packet_streaming}
use Rattle.ps2_mouse_identity.specs.Identity.{set_rates, wheel_rates, button_rates, second_identity, after_first, new_identity}

refuses_set_rates : (rates : List MouseSampleRate) → Refuses (15 ∷ []) (set_rates rates)
unfolding set_rates
refuses_set_rates [] = only_done tt
refuses_set_rates (rate ∷ rates) = refuses_then (15 ∷ []) (refuses_set_sampling_rate rate) (λ _. refuses_set_rates rates)

-- the refusals before F4
abbrev pub identity_refusals : List ℕ
identity_refusals = 13 ∷ 15 ∷ 16 ∷ []

refuses_second_identity : (old : MouseId) → Refuses identity_refusals (second_identity old)
unfolding second_identity
refuses_second_identity old = only_bind (only_any mouse_id) (λ a _. only_done tt)

refuses_after_first : (old : MouseId) (first : Answer MouseId) → Refuses identity_refusals (after_first old first)
refuses_after_first old (refuses n) = only_done tt
refuses_after_first old (gives Zero) = only_done tt
refuses_after_first old (gives Three) =
    refuses_then identity_refusals (refuses_more (15 ∷ []) identity_refusals tt (refuses_set_rates button_rates)) (λ _. refuses_second_identity old)
refuses_after_first old (gives Four) = only_done tt

pub refuses_new_identity : (old : MouseId) → Refuses (13 ∷ 15 ∷ 16 ∷ []) (new_identity old)
unfolding new_identity
refuses_new_identity old =
    refuses_then identity_refusals (refuses_more (16 ∷ []) identity_refusals tt refuses_disable_packet_streaming)
    (λ _. refuses_then identity_refusals (refuses_more (15 ∷ []) identity_refusals tt (refuses_set_rates wheel_rates))
    (λ _. only_bind (only_any mouse_id) (λ first _. refuses_after_first old first)))
