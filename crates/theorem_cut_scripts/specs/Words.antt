-- What a handler call on a lent record's numbers hands back beside its counts: the numbers of its
-- answer, and the record's as it leaves them.
use Rattle.std.specs.Prelude.{ℕ, List}
use Rattle.exchange.specs.Exchange.{Port, number}
use Rattle.handler_words.specs.declared.HandledWords.{HandledWords}

pub record WordsBack : Type 0 where
  pub refusal : ℕ
  pub lamps : ℕ
  pub dropped : ℕ
  pub port : ℕ
  pub words : List ℕ

abbrev pub words_back : HandledWords → List ℕ → WordsBack
words_back r ws =
    record { refusal = r.refusal; lamps = r.lamps; dropped = r.dropped; port = r.port; words = ws }

-- With the answer 2, for want of a byte from a port: the numbers are as they were lent.
abbrev pub two_words : List ℕ → Port → WordsBack
two_words ws p = record { refusal = 2; lamps = 0; dropped = 0; port = number p; words = ws }
