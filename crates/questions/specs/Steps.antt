-- One step of an operation: what it asks of the ports, and what is left of it after one byte.
use Rattle.std.specs.Prelude.{ℕ, Option}
use Rattle.exchange.specs.Exchange.{Port, Exchange, done, read, write}
use Rattle.exchange.specs.Repeat.{Turn, again}
use Rattle.ps2_answers.specs.Refusals.{port_of}
use Rattle.questions.specs.declared.Sought.{Sought}
use Rattle.questions.specs.declared.Request.{Request}
use Rattle.questions.specs.declared.Worth.{Worth}
use Rattle.questions.specs.declared.Worth.TheVariants.{Found, Again, Data}
use Rattle.questions.specs.declared.Stepped.{Stepped}
use Rattle.questions.specs.declared.Stepped.TheVariants.{Goes, Reply}
use Rattle.questions.specs.Asked.{came, second, going}

-- What is left after one byte, or after one write.
abbrev pub after : {A : Type 0} → Exchange A → ℕ → Exchange A
after (done a) b = done a
after (read p f) b = f b
after (write p v t) b = t

-- What is asked of the ports: the first read or write, if there is one.
pub data Wants : Type 0 where
  a_read : Port → Wants
  a_write : Port → ℕ → Wants
  nothing : Wants

abbrev pub wants : {A : Type 0} → Exchange A → Wants
wants (done a) = nothing
wants (read p f) = a_read p
wants (write p v t) = a_write p v

abbrev pub requested : Request → Wants
requested (Request.Read p) = a_read (port_of p)
requested (Request.Write p v) = a_write (port_of p) v

-- What a turn's first byte comes to, as the code says it.
abbrev pub worth : Sought → ℕ → Worth → Exchange (Turn (Option ℕ))
worth s b Found = done (came b)
worth s b Again = done again
worth s b Data = second s

abbrev pub stepped : Stepped → Exchange (Option ℕ)
stepped (Goes g) = going g
stepped (Reply r) = done r
