-- The keyboard's reset needs an AA of its own, after the response that accepted FF; and 10 needs 262,140 data reads.
use mathlib.Core.List.{List}
use mathlib.Core.Path.{◌≡◌}
use Prim.Native.Nat.{ℕ}
use Rattle.exchange.specs.Exchange.{yields, play}
use Rattle.exchange.specs.Answer.{gives, refuses}
use Rattle.ps2_bytes.specs.declared.command.HostToKeyboardCommand.TheVariants.{ResetAndStartSelfTest}
use Rattle.ps2_bytes.specs.declared.writable.HostToKeyboardCommandOrData.TheVariants.{KeyboardCommand}
use Rattle.ps2_answers.specs.Refusals.{success}
use Rattle.ps2_command.specs.Reset.{OwnAA, NoAA}
use Rattle.ps2_command.specs.Search.{self_test_within}
use Rattle.ps2_command.proofs.Reset.{own_aa, no_aa}
use Rattle.ps2_keyboard.specs.Keyboard.{keyboard_command, reset_reads, reset_keyboard}
use Rattle.ps2_keyboard.proofs.Refuses.{refuses_command_to_keyboard}

module _ (s l : List ℕ) where
  pub keyboard_own_aa : (play reset_keyboard s l).end ≡ yields (gives success) → OwnAA (keyboard_command ResetAndStartSelfTest) reset_reads s l
  unfolding reset_keyboard
  keyboard_own_aa h = own_aa (keyboard_command ResetAndStartSelfTest) reset_reads (self_test_within reset_reads) s l (λ s l h. h) h

  pub keyboard_no_aa : (play reset_keyboard s l).end ≡ yields (refuses 10) → NoAA (keyboard_command ResetAndStartSelfTest) reset_reads s l
  unfolding reset_keyboard
  keyboard_no_aa h =
      no_aa (keyboard_command ResetAndStartSelfTest) reset_reads (self_test_within reset_reads) s l (refuses_command_to_keyboard (KeyboardCommand ResetAndStartSelfTest)) (λ s l h. h) h
