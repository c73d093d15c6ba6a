-- Sessions joined, and in another order, in 64 bits: "Store them and all counts in 64 bits", and the laws of runs hold as they stand.
use mathlib.Core.Path.{◌≡◌}
use mathlib.Core.List.{List, ◌∷◌}
use Rattle.std.specs.Prelude.{Ok}
use Rattle.report.specs.Totals.{Session}
use Rattle.report.specs.Runs.{add, after, accepted}
use Rattle.report.specs.Sessions.{joined, OneIdentity, Reordered}
use Rattle.report.proofs.Joining.{joining}
use Rattle.report.proofs.AnyOrder.{any_order}
use Rattle.report.specs.declared.long.LongReport.{LongReport}
use Rattle.report.specs.Long.{wide}
use Rattle.report.proofs.LongStored.{wide_reads_back}

pub wide_joining : (r : LongReport) (ts : List Session) (s : Session) (ss : List Session) → accepted wide r ts ≡ s ∷ ss → OneIdentity s ss
    → (add wide r (joined s ss)).answer ≡ Ok tt → after wide r ts ≡ (add wide r (joined s ss)).report
wide_joining = joining wide wide_reads_back

pub wide_any_order : (r : LongReport) (ss ts : List Session) → Reordered (accepted wide r ss) (accepted wide r ts) → after wide r ss ≡ after wide r ts
wide_any_order = any_order wide wide_reads_back
