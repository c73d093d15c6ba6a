-- `ask` meets its contract.
use Rattle.sessions.proofs.Ran.{known, unknown}
use Rattle.sessions.proofs.MemoryPartner.ask.Goals as goal

pub returns-then-self : goal.returns-then-self
returns-then-self c = rw c.reply_of-reply.ensures (known c.args.self.now c.args.question c.if-self.true)

pub returns-else-self : goal.returns-else-self
returns-else-self c = unknown c.args.self.now c.args.question c.if-self.false
