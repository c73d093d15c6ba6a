-- `replay` meets its contract.
use mathlib.Core.Path.{ap, ◌∙◌}
use Rattle.sessions.specs.Operations.{talk_of}
use Rattle.sessions.proofs.Ran.{heard_memory}
use Rattle.sessions.proofs.replay.Goals as goal

pub returns : goal.returns
returns c = ap (λ r. r.what) c.run.ensures ∙ heard_memory (talk_of c.args.operation) (record { replies = c.args.replies; at = 0 })
