-- `dispatcher_words::put_unserved` meets its contract.
use native.Mathlib.Omega.{arith}
use lib.ListN.{drop, drop_of_length-le, length-drop}
use Rattle.dispatcher_words.proofs.put_unserved.Goals as goal

pub returns : goal.returns
returns c =
    rw (c.copy_from_slice.ensures.after, c.from-2.ensures, c.from.ensures, drop_of_length-le (drop 144 c.args.words.now) {i = 5} (omega (arith, length-drop 144 c.args.words.now, c.told-words)))
