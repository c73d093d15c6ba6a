-- The status that a program ends with.
use Rattle.std.specs.Prelude.{ℕ, Result, Ok, Err}
use Rattle.std.specs.declared.io.Error.{Error}
use Rattle.std.specs.declared.io.ErrorKind.{ErrorKind}
use Rattle.std.specs.declared.io.ErrorKind.TheVariants.{BrokenPipe}
use Rattle.std.specs.IoError.{error_kind}

-- Where a write found nobody who reads, the program ends as one that the closed pipe stopped.
abbrev pub failed_status : ErrorKind → ℕ
failed_status BrokenPipe = 141
failed_status _ = 1

-- 0 says that all was done.
abbrev pub status_of : Result (Unit {0}) Error → ℕ
status_of (Ok _) = 0
status_of (Err e) = failed_status (error_kind e)
