-- The mouse's reset needs an AA of its own, after the response that accepted FF; and 10 needs 196,605 data reads.
use Prim.Native.Nat.{ℕ}
use mathlib.Core.List.{List}
use mathlib.Core.Path.{◌≡◌}
use Rattle.exchange.specs.Exchange.{Exchange, yields, play}
use Rattle.exchange.specs.Answer.{Answer, gives, refuses, and_then}
use Rattle.exchange.specs.Only.{only_done, only_read}
use Rattle.exchange.proofs.Search.{then_gives, refuses_before}
use Rattle.ps2_bytes.specs.declared.command.HostToMouseCommand.TheVariants.{Reset}
use Rattle.ps2_bytes.specs.declared.writable.HostToMouseCommandOrData.TheVariants.{MouseCommand}
use Rattle.ps2_answers.specs.Refusals.{Success, success}
use Rattle.ps2_ports.specs.Ports.{flush_output_buffer}
use Rattle.ps2_command.specs.Reset.{OwnAA, NoAA}
use Rattle.ps2_command.specs.Search.{self_test_within}
use Rattle.ps2_command.proofs.Reset.{the_success, own_aa, no_aa}
use Rattle.ps2_mouse.specs.Mouse.{mouse_command, reset_reads, reset_mouse}
use Rattle.ps2_mouse.proofs.Refuses.{refuses_command_to_mouse}

-- the search and the byte that is dropped
search_and_drop : Exchange (Answer Success)
search_and_drop = and_then (self_test_within reset_reads) (λ _. flush_output_buffer)

module _ (s l : List ℕ) where
  search_gave : (play search_and_drop s l).end ≡ yields (gives success) → (play (self_test_within reset_reads) s l).end ≡ yields (gives success)
  unfolding search_and_drop
  search_gave h =
      let z = then_gives (self_test_within reset_reads) (λ _. flush_output_buffer) s l success h in
      rw (the_success z.0) at z.1.before

  -- the byte more refuses nothing
  search_refused : (play search_and_drop s l).end ≡ yields (refuses 10) → (play (self_test_within reset_reads) s l).end ≡ yields (refuses 10)
  unfolding search_and_drop flush_output_buffer
  search_refused h = refuses_before (self_test_within reset_reads) (λ _. flush_output_buffer) s l 10 (λ _. only_read (λ b. only_done tt)) h

module _ (s l : List ℕ) where
  pub mouse_own_aa : (play reset_mouse s l).end ≡ yields (gives success) → OwnAA (mouse_command Reset) reset_reads s l
  unfolding reset_mouse search_and_drop
  mouse_own_aa h = own_aa (mouse_command Reset) reset_reads search_and_drop s l (λ s l. search_gave s l) h

  pub mouse_no_aa : (play reset_mouse s l).end ≡ yields (refuses 10) → NoAA (mouse_command Reset) reset_reads s l
  unfolding reset_mouse search_and_drop
  mouse_no_aa h = no_aa (mouse_command Reset) reset_reads search_and_drop s l (refuses_command_to_mouse (MouseCommand Reset)) (λ s l. search_refused s l) h
