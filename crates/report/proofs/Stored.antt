-- What is stored is read back: the numbers of a session's end, in a report of 32 bits.
use mathlib.Core.Path.{ap, ◌∙◌}
use Prim.Native.Nat.{◌+◌}
use lib.ListN.{get_or}
use Rattle.report.proofs.Keys.{at_key, keys_same}
use Rattle.report.specs.Adding.{plus}
use Rattle.report.specs.Runs.{ReadsBack, narrow}

pub narrow_reads_back : ReadsBack narrow
narrow_reads_back =
    record {
      read_back = λ a b e.
          ap (λ l. record { presses = l; packets = (plus a b).packets; x = (plus a b).x; y = (plus a b).y })
          (keys_same _ _ (λ key h. at_key (λ k. get_or (plus a b).presses k 0) key h ∙ at_key (λ k. get_or a.presses k 0 + get_or b.presses k 0) key h));
    }
