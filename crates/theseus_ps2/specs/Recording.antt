-- A script and a log as hardware. A read brings the next script byte, and one
-- of data that is unlisted is noted; a write puts its pair into the log, where
-- two bytes are free. Where there is none, the recording has fallen short, and
-- says what was asked: from then on a read brings 0, and nothing changes.
use Rattle.std.specs.Prelude.{cond, true, ℕ, ◌+◌, ◌*◌, ◌/◌, ltb, length, get_or, set}
use Rattle.exchange.specs.Exchange.{Port, number}
use Rattle.exchange.specs.Keeping.{noted}
use Rattle.ps2_kept.specs.Added.{added_thrown}
use Rattle.theseus_ps2.specs.Hardware.{Device}
use Rattle.theseus_ps2.specs.declared.recording.Recording.{Recording}

abbrev pub next_byte : Recording → Port → Recording
next_byte s p = cond s.short s (cond (ltb s.used (length s.script.now))
    (record s {
      used = s.used + 1;
      thrown = noted added_thrown p s.thrown (get_or s.script.now s.used 0);
    })
    (record s { short = true; asked = number p }))

abbrev pub with_pair : Recording → Port → ℕ → Recording
with_pair s p v =
    cond s.short s
    (cond (ltb s.pairs (length s.log.now / 2))
    (record s {
      log = record s.log
          { now = set (set s.log.now (2 * s.pairs) (number p)) (2 * s.pairs + 1) v };
      pairs = s.pairs + 1;
    })
    (record s { short = true; asked = 0 }))

abbrev pub recording : Device Recording
recording = record {
  brings = λ s p. cond s.short 0 (get_or s.script.now s.used 0);
  reading = next_byte;
  writing = with_pair;
}
