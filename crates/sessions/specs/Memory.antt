-- What the ports replied so far, remembered in order.
use Rattle.std.specs.Prelude.{Bool, ℕ, ◌+◌, cond, Option, Some, None, ltb, length, get_or}
use Rattle.talks.specs.Heard.{Replies}
use Rattle.sessions.specs.declared.Memory.{Memory}

-- A reply as a number: the byte that was found. Any number that is no byte is none.
abbrev pub reply_in : ℕ → Option ℕ
reply_in w = cond (ltb w 256) (Some w) None

-- A memory replies as it remembers, in order.
abbrev pub remembers : Memory → Bool
remembers s = ltb s.at (length s.replies.now)

abbrev pub memory : Replies Memory
memory = record {
  reply = λ s q. cond (remembers s) (Some (reply_in (get_or s.replies.now s.at 0))) None;
  past = λ s q. cond (remembers s) (record s { at = s.at + 1 }) s;
}
