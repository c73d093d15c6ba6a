-- `handler_words::waiting_words` meets its contract.
use Rattle.handler_words.proofs.Bytes.{in_two}
use Rattle.handler_words.proofs.waiting_words.Goals as goal

pub returns : goal.returns
returns c = in_two c.args.bytes.now c.fits-bytes c.from_le_bytes-number.ensures
