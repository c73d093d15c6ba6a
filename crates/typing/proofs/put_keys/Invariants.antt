-- `typing::put_keys` meets its contract: up to each place the scancodes are put.
use Rattle.typing.proofs.Putting.{Putting}
use Rattle.typing.proofs.put_keys.Given as goal

abbrev pub invariant-loop-character : goal.invariant-loop-character
invariant-loop-character l = Putting l.text l.initial.out l.character-index l.at l.out
