-- `typing::write_text` meets its contract: up to each piece the scancodes are written.
use Rattle.std.proofs.Common.{length, ◌*◌, ◌≤◌}
use Rattle.std.specs.Slice.Iter.{chunks_rest, chunks_size}
use Rattle.typing.proofs.Writing.{Writing}
use Rattle.typing.proofs.write_text.Given as goal

abbrev pub invariant-loop-piece : goal.invariant-loop-piece
invariant-loop-piece g l = record {
  room : 4 * chunks_size l.piece-iterator ≤ length l.scancodes;
  writing : Writing l.fn.text (chunks_rest l.piece-iterator) (g.W.Write.contents l.initial.output) (g.W.Write.contents l.output);
}
