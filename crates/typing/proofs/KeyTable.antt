-- The code's table of keys has the key of every byte, which is computed.
use mathlib.Core.Bool.{xor}
use Rattle.bits.specs.Bits.{bit, odd, put_bit}
use Rattle.keycodes_ascii.specs.Keycode.{keycodes}
use Rattle.keycodes_ascii.specs.Characters.{character_of}
use Rattle.typing.specs.declared.TheConstants.{KEYS}
use Rattle.typing.specs.Keys.{gives_it, lowest, key_of}
use Rattle.typing.specs.Table.{Tabulates}
use Rattle.typing.proofs.Table.{tabulates}

pub keys_tabulated : Tabulates KEYS
unfolding key_of lowest gives_it character_of keycodes bit odd put_bit xor
keys_tabulated = tabulates
