-- What the numbers of an argument stand for.
use Rattle.std.specs.Prelude.{ℕ}
use Rattle.std.proofs.Math.Option.{Option, none, some}
use Rattle.bits.specs.Table.{decode}
use Rattle.ps2_bytes.specs.declared.command.HostToMouseCommand.{HostToMouseCommand}
use Rattle.ps2_bytes.specs.declared.data.MouseResolution.{MouseResolution}
use Rattle.ps2_bytes.specs.declared.data.MouseSampleRate.{MouseSampleRate}
use Rattle.ps2_bytes.specs.Commands.{to_mouse_commands}
use Rattle.ps2_bytes.specs.Data.{sample_rates, resolutions}

-- A command is passed as its byte, that which the wiki lists for it.
abbrev pub command_at : ℕ → Option HostToMouseCommand
command_at n = decode some none to_mouse_commands n

-- "the seven rates 10, 20, 40, 60, 80, 100, 200", each by its number.
abbrev pub rate_at : ℕ → Option MouseSampleRate
rate_at n = decode some none sample_rates n

-- "the resolution (E8, 0 to 3)", by the byte that is sent.
abbrev pub resolution_at : ℕ → Option MouseResolution
resolution_at n = decode some none resolutions n
