-- `keyboard_scancodes::is_plain` meets its contract: the bits of the mask are the keys without a flag, computed over all codes.
use mathlib.Core.Path.{◌≡◌, ◌∙◌}
use Prim.Native.Nat.{ℕ, ◌%◌, ◌<◌}
use native.Mathlib.Omega.{arith}
use Rattle.bits.specs.Bits.{bit, odd}
use Rattle.bits.proofs.Every.{agree_bool}
use Rattle.keyboard_scancodes.specs.FlagTable.{flag_table}
use Rattle.keyboard_scancodes.specs.Plain.{has_flag, is_plain_code}
use Rattle.keyboard_scancodes.proofs.KeyMasks.{tested}
use Rattle.keyboard_scancodes.proofs.is_plain.Goals as goal

-- the mask, as a number
abbrev plain_mask : ℕ
plain_mask = 0x27FFFF9FFABFFBFFDFFFFFFE

plain_bits : (code : ℕ) → code < 128 → bit code plain_mask ≡ is_plain_code code
unfolding bit odd is_plain_code has_flag flag_table
plain_bits = agree_bool (λ c. bit c plain_mask) is_plain_code 128 tt

pub returns : goal.returns
returns c =
    let code = c.args.scan_code % 128 in
    let h : code < 128 = omega arith in
    tested 128 plain_mask code h ∙ plain_bits code h
