-- The most reads and writes of `set_mouse_id`, and a script that takes them.
use Prim.Native.Nat.{suc, ◌*◌, ◌+◌}
use native.Mathlib.Omega.{arith}
use mathlib.Core.List.{List, [], ◌∷◌}
use mathlib.Core.Path.{◌≡◌}
use lib.ListN.{length}
use Rattle.exchange.specs.Answer.{Answer, gives, refuses}
use Rattle.exchange.specs.Attains.{Attains, attains_done, Most}
use Rattle.exchange.specs.Bounds.{Within, within_done}
use Rattle.exchange.specs.Left.{left}
use Rattle.exchange.proofs.Attains.{attains_bind}
use Rattle.exchange.proofs.Bounds.{within_bind}
use Rattle.exchange.proofs.Then.{within_then, attains_then, within_told, attains_told}
use Rattle.ps2_command.specs.Command.{command_reads}
use Rattle.ps2_bytes.specs.declared.data.MouseSampleRate.{MouseSampleRate}
use Rattle.ps2_bytes.specs.declared.response.MouseId.{MouseId}
use Rattle.ps2_bytes.specs.declared.response.MouseId.TheVariants.{Zero, Three, Four}
use Rattle.ps2_answers.specs.Refusals.{success}
use Rattle.ps2_mouse.specs.declared.PS2Mouse.{PS2Mouse}
use Rattle.ps2_mouse.proofs.Bounds.{most_set_sampling_rate, most_disable_packet_streaming, most_enable_packet_streaming, most_mouse_id}
use Rattle.ps2_mouse_identity.specs.Identity.{set_rates, wheel_rates, button_rates, read_or, second_identity, after_first, new_identity, start_packets, set_mouse_id}

within_set_rates : (rates : List MouseSampleRate) → Within (length rates * 1050600) (length rates * 10) (set_rates rates)
unfolding set_rates
within_set_rates [] = within_done
within_set_rates (rate ∷ rates) =
    let r : suc (length rates) * 1050600 ≡ 1050600 + length rates * 1050600 = omega arith in
    let w : suc (length rates) * 10 ≡ 10 + length rates * 10 = omega arith in
    rw (r, w) (within_then (most_set_sampling_rate rate).within (λ _. within_set_rates rates))

attains_set_rates : (rates : List MouseSampleRate) → Attains (gives success) (length rates * 1050600) (length rates * 10) (set_rates rates)
unfolding set_rates most_set_sampling_rate
attains_set_rates [] = attains_done
attains_set_rates (rate ∷ rates) =
    let r : suc (length rates) * 1050600 ≡ 1050600 + length rates * 1050600 = omega arith in
    let w : suc (length rates) * 10 ≡ 10 + length rates * 10 = omega arith in
    rw (r, w) (attains_then (λ _. set_rates rates) (most_set_sampling_rate rate).attains (attains_set_rates rates))

within_after_first : (old : MouseId) (first : Answer MouseId) → Within 3808170 35 (after_first old first)
unfolding second_identity
within_after_first old (refuses n) = within_done
within_after_first old (gives Zero) = within_done
within_after_first old (gives Three) = within_then (within_set_rates button_rates) (λ _. within_told (λ second. gives (read_or old second)) most_mouse_id.within)
within_after_first old (gives Four) = within_done

attains_after_first : (old : MouseId) → Attains (gives Three) 3808170 35 (after_first old (gives Three))
unfolding second_identity most_mouse_id
attains_after_first old =
    attains_then (λ _. second_identity old) (attains_set_rates button_rates) (attains_told (λ second. gives (read_or old second)) most_mouse_id.attains)

within_start_packets : (mouse : PS2Mouse) (id : Answer MouseId) → Within command_reads 5 (start_packets mouse id)
within_start_packets mouse (gives id) = within_told (λ a. left a (record { id = id })) most_enable_packet_streaming.within
within_start_packets mouse (refuses n) = within_done

pub most_set_mouse_id : (mouse : PS2Mouse) → Most 8666940 80 (set_mouse_id mouse)
unfolding set_mouse_id new_identity most_disable_packet_streaming most_enable_packet_streaming most_mouse_id
most_set_mouse_id mouse =
    record {
      within =
          within_bind
          (within_then most_disable_packet_streaming.within (λ _. within_then (within_set_rates wheel_rates) (λ _. within_bind most_mouse_id.within (λ first. within_after_first mouse.id first))))
          (λ id. within_start_packets mouse id);
      yielded = left (gives success) (record { id = Three });
      attains =
          attains_bind (λ id. start_packets mouse id)
          (attains_then _ most_disable_packet_streaming.attains
          (attains_then _ (attains_set_rates wheel_rates) (attains_bind (λ first. after_first mouse.id first) most_mouse_id.attains (attains_after_first mouse.id))))
          (attains_told (λ a. left a (record { id = Three })) most_enable_packet_streaming.attains);
    }
