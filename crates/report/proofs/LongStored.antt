-- What is stored is read back: the numbers of a session's end, in a report of 64 bits.
use mathlib.Core.Path.{refl}
use Rattle.report.specs.Runs.{ReadsBack}
use Rattle.report.specs.Long.{wide}

pub wide_reads_back : ReadsBack wide
wide_reads_back = record { read_back = λ old more e. refl }
