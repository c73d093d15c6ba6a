-- `set2to1::write_converted` is safe: no more bytes are counted than the output has.
use mathlib.Core.Path.{sym}
use lib.Seq.{length-take-le}
use Rattle.scancode_set2.proofs.Laws.{count_le}
use Rattle.set2to1.proofs.write_converted.Goals as goal

pub slice_bounds-write_all-end : goal.slice_bounds-write_all-end
slice_bounds-write_all-end c =
    let a = c.args in
    count_le a.stream.now a.out.now c.convert-conversion.ensures

pub slice_bounds-write_all-end-2 : goal.slice_bounds-write_all-end-2
slice_bounds-write_all-end-2 c =
    let a = c.args in
    sym (length-take-le c.convert-conversion.result.written c.convert-conversion.new.out (count_le a.stream.now a.out.now c.convert-conversion.ensures))
