-- The same with the bytes that the operation threw away.
use Rattle.std.specs.Prelude.{ℕ}
use Rattle.exchange.specs.Exchange.{End, yields, lacks, told_end}
use Rattle.exchange.specs.Answer.{Answer, number_ended}
use Rattle.exchange.specs.Keeping.{Kept}
use Rattle.ps2_kept.specs.declared.KeptBytes.{KeptBytes}
use Rattle.ps2_kept.specs.Kept.{nothing_kept}
use Rattle.port_words.specs.declared.KeptWords.{KeptWords}
use Rattle.port_words.specs.Told.{port_lacked}

-- An answer that gives no value, with bytes: the earliest, 0 behind them; how many they are, and
-- how many others there were.
abbrev pub kept_numbers : {A : Type 0} → End (Answer A) → ℕ → ℕ → KeptBytes → KeptWords
kept_numbers end used pairs k =
    record {
      refusal = number_ended end;
      port = port_lacked end;
      used = used;
      pairs = pairs;
      count = k.count;
      others = k.others;
      bytes = k.bytes;
    }

-- The bytes that a play's end hands back: with 2 and 3 none.
abbrev pub bytes_kept : {A : Type 0} → End (Kept KeptBytes A) → KeptBytes
bytes_kept (yields v) = v.bytes
bytes_kept (lacks x) = nothing_kept

abbrev pub told_kept : {A : Type 0} → End (Kept KeptBytes (Answer A)) → ℕ → ℕ → KeptWords
told_kept end used pairs = kept_numbers (told_end (λ v. v.value) end) used pairs (bytes_kept end)

-- A refusal before anything is read.
abbrev pub refusing_kept : ℕ → KeptWords
refusing_kept n = record {
  refusal = n;
  port = 0;
  used = 0;
  pairs = 0;
  count = nothing_kept.count;
  others = nothing_kept.others;
  bytes = nothing_kept.bytes;
}
