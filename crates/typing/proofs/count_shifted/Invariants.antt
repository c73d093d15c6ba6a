-- `typing::count_shifted` meets its contract: up to each place the characters that need Shift are counted.
use Rattle.typing.proofs.Counting.{Counting}
use Rattle.typing.proofs.count_shifted.Given as goal

abbrev pub invariant-loop-character : goal.invariant-loop-character
invariant-loop-character l = Counting l.text l.character-index l.shifted
