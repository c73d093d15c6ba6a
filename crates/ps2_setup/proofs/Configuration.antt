-- The configuration that is written last: which commands go before it, and which bits it keeps.
use Prim.Native.Nat.{ℕ}
use mathlib.Core.Bool.{Bool, true, false}
use mathlib.Core.List.{[], ◌∷◌}
use mathlib.Core.Path.{◌≡◌, refl, ◌∙◌}
use lib.Dec.{T}
use Rattle.bits.specs.Bits.{bit, put_bit}
use Rattle.bits.proofs.Bits.{bit_put_other}
use Rattle.exchange.specs.Exchange.{bind}
use Rattle.exchange.specs.Answer.{and_then}
use Rattle.exchange.specs.Refuses.{among}
use Rattle.exchange.proofs.Then.{among_more}
use Rattle.ps2_layouts.specs.declared.configuration.ControllerConfigurationByte.{ControllerConfigurationByte}
use Rattle.ps2_layouts.specs.Configuration.{port1_interrupt, port2_interrupt, port1_clock_disabled, port2_clock_disabled, port1_translation}
use Rattle.ps2_ports.specs.Ports.{write_port, write_config}
use Rattle.ps2_setup.specs.declared.WorkingPorts.{WorkingPorts}
use Rattle.ps2_setup.specs.SetUp.{quieted, enable_ports}
use Rattle.ps2_setup.specs.Configuration.{running_if, final_config, written_if}

-- AE and A8 for the ports that passed, then 60 and the byte
pub enable_ports_writes : (first second : Bool) (c : ControllerConfigurationByte)
    → enable_ports (record { port_1_works = first; port_2_works = second }) c ≡ written_if first 0xAE (written_if second 0xA8 (write_config (final_config (record { port_1_works = first; port_2_works = second }) c)))
unfolding enable_ports and_then bind write_port
enable_ports_writes true true c = refl
enable_ports_writes true false c = refl
enable_ports_writes false true c = refl
enable_ports_writes false false c = refl

module _ (k : ℕ) where
  -- bits 0, 1 and 6 are cleared, and every other is as read: so is bit 5
  pub quieted_other : (c : ControllerConfigurationByte) → (T (among k (port1_interrupt ∷ port2_interrupt ∷ port1_translation ∷ [])) → ⊥)
      → bit k (quieted c).bits ≡ bit k c.bits
  quieted_other c h =
      bit_put_other k port1_translation false (put_bit port2_interrupt false (put_bit port1_interrupt false c.bits)) (λ q. h (rw q tt))
      ∙ bit_put_other k port2_interrupt false (put_bit port1_interrupt false c.bits) (λ q. h (rw q tt))
      ∙ bit_put_other k port1_interrupt false c.bits (λ q. h (rw q tt))

  running_other : (passed : Bool) (clock interrupt : ℕ) (c : ControllerConfigurationByte) → (k ≡ clock → ⊥) → (k ≡ interrupt → ⊥)
      → bit k (running_if passed clock interrupt c).bits ≡ bit k c.bits
  running_other true clock interrupt c hc hi = bit_put_other k interrupt true (put_bit clock false c.bits) hi ∙ bit_put_other k clock false c.bits hc
  running_other false clock interrupt c hc hi = refl

  -- "Other configuration bits are kept."
  pub final_other : (ports : WorkingPorts) (c : ControllerConfigurationByte)
      → (T (among k (port1_interrupt ∷ port2_interrupt ∷ port1_clock_disabled ∷ port2_clock_disabled ∷ port1_translation ∷ [])) → ⊥)
      → bit k (final_config ports (quieted c)).bits ≡ bit k c.bits
  final_other ports c h =
      let first : ControllerConfigurationByte = running_if ports.port_1_works port1_clock_disabled port1_interrupt (quieted c) in
      running_other ports.port_2_works port2_clock_disabled port2_interrupt first (λ q. h (rw q tt)) (λ q. h (rw q tt))
      ∙ running_other ports.port_1_works port1_clock_disabled port1_interrupt (quieted c) (λ q. h (rw q tt)) (λ q. h (rw q tt))
      ∙ quieted_other c
      (λ x. h (among_more (port1_interrupt ∷ port2_interrupt ∷ port1_translation ∷ []) (port1_interrupt ∷ port2_interrupt ∷ port1_clock_disabled ∷ port2_clock_disabled ∷ port1_translation ∷ []) k tt x))
