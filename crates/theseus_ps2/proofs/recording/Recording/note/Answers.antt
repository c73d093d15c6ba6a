-- `note` meets its contract: the byte is thrown away just where it is no response.
use mathlib.Core.Path.{sym, ap, ◌∙◌}
use Rattle.theseus_ps2.proofs.Noted.{added_heard}
use Rattle.theseus_ps2.proofs.recording.Recording.note.Goals as goal

pub returns-in-Err : goal.returns-in-Err
returns-in-Err c =
    rw c.in-Data.is
    (ap (λ k. record c.args.self.now { thrown = k }) (c.add.ensures ∙ sym (added_heard c.args.self.now.thrown c.args.byte c.try_from.ensures c.in-Err.is)))

pub returns-in_default-try_from : goal.returns-in_default-try_from
returns-in_default-try_from c =
    rw c.in-Data.is
    (ap (λ k. record c.args.self.now { thrown = k }) (sym (added_heard c.args.self.now.thrown c.args.byte c.try_from.ensures c.in_default-try_from.is)))
