-- The reading of the configuration, whole and cut before its one byte: 20 is written to port 64 both times, and the lack names port 60, which the whole run read.
use mathlib.Core.List.{[], ◌∷◌}
use mathlib.Core.Path.{◌≡◌, refl}
use lib.ListN.{take}
use Rattle.exchange.specs.Exchange.{p60, yields, played, play}
use Rattle.exchange.specs.Answer.{gives}
use Rattle.exchange.specs.Trace.{accesses}
use Rattle.ps2_ports.specs.Ports.{read_config}
use Rattle.theorem_cut_scripts.specs.CutShort.{next_port}
use Rattle.theorem_cut_scripts.specs.Forms.{lack}

pub config_whole : play read_config (0x47 ∷ []) (0 ∷ 0 ∷ 9 ∷ []) ≡ played (yields (gives (record { bits = 0x47 }))) 1 1 (0x64 ∷ 0x20 ∷ 9 ∷ [])
unfolding play read_config
config_whole = refl

pub config_cut : play read_config (take 0 (0x47 ∷ [])) (0 ∷ 0 ∷ 9 ∷ []) ≡ played (lack p60) 0 1 (0x64 ∷ 0x20 ∷ 9 ∷ [])
unfolding play read_config
config_cut = refl

pub config_next : next_port 0 read_config (0x47 ∷ []) (0 ∷ 0 ∷ 9 ∷ []) ≡ p60
unfolding accesses read_config
config_next = refl
