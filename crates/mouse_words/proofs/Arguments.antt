-- Every command, rate and resolution is found by its number.
use mathlib.Core.Option.{some}
use mathlib.Core.Path.{◌≡◌, refl}
use Rattle.bits.specs.Table.{decode}
use Rattle.ps2_bytes.specs.declared.command.HostToMouseCommand.{HostToMouseCommand}
use Rattle.ps2_bytes.specs.declared.command.HostToMouseCommand.TheVariants.{SetScaling, SetResolution, StatusRequest, SetStreamMode, ReadData, ResetWrapMode, SetWrapMode, SetRemoteMode, GetDeviceID, SampleRate, EnableDataReporting, DisableDataReporting, SetDefaults, ResendByte, Reset}
use Rattle.ps2_bytes.specs.declared.data.MouseResolution.{MouseResolution}
use Rattle.ps2_bytes.specs.declared.data.MouseResolution.TheVariants.{Count1PerMm, Count2PerMm, Count4PerMm, Count8PerMm}
use Rattle.ps2_bytes.specs.declared.data.MouseSampleRate.{MouseSampleRate}
use Rattle.ps2_bytes.specs.declared.data.MouseSampleRate.TheVariants.{_10, _20, _40, _60, _80, _100, _200}
use Rattle.ps2_bytes.specs.Commands.{mouse_byte}
use Rattle.ps2_bytes.specs.Data.{sample_rate_byte, resolution_byte}
use Rattle.mouse_words.specs.Arguments.{command_at, rate_at, resolution_at}

pub command_at_lem : (c : HostToMouseCommand) → command_at (mouse_byte c) ≡ some c
unfolding decode
command_at_lem SetScaling = refl
command_at_lem SetResolution = refl
command_at_lem StatusRequest = refl
command_at_lem SetStreamMode = refl
command_at_lem ReadData = refl
command_at_lem ResetWrapMode = refl
command_at_lem SetWrapMode = refl
command_at_lem SetRemoteMode = refl
command_at_lem GetDeviceID = refl
command_at_lem SampleRate = refl
command_at_lem EnableDataReporting = refl
command_at_lem DisableDataReporting = refl
command_at_lem SetDefaults = refl
command_at_lem ResendByte = refl
command_at_lem Reset = refl

pub rate_at_lem : (rate : MouseSampleRate) → rate_at (sample_rate_byte rate) ≡ some rate
unfolding decode
rate_at_lem _10 = refl
rate_at_lem _20 = refl
rate_at_lem _40 = refl
rate_at_lem _60 = refl
rate_at_lem _80 = refl
rate_at_lem _100 = refl
rate_at_lem _200 = refl

pub resolution_at_lem : (resolution : MouseResolution) → resolution_at (resolution_byte resolution) ≡ some resolution
unfolding decode
resolution_at_lem Count1PerMm = refl
resolution_at_lem Count2PerMm = refl
resolution_at_lem Count4PerMm = refl
resolution_at_lem Count8PerMm = refl
