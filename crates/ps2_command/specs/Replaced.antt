-- A refusal that an operation's own failure replaces.
use Rattle.ps2_answers.specs.declared.Failure.{Failure}
use Rattle.ps2_answers.specs.declared.Refusal.{Refusal}
use Rattle.ps2_answers.specs.declared.Refusal.TheVariants.{Lacking, Failed}

-- "Numbers 14 to 18 replace 4 to 7 and 12 from inside. 2 and 3 are replaced by nothing."
abbrev pub replaced_by : Failure → Refusal → Refusal
replaced_by failure (Lacking l) = Lacking l
replaced_by failure (Failed f) = Failed failure
