-- `test_calls::records::vdt_take_by_value` meets its contract.
use Rattle.test_calls.proofs.WholeRecords.{takes_unfit}
use Rattle.test_calls.proofs.records.vdt_take_by_value.Goals as goal

pub returns-in_default-read_record : goal.returns-in_default-read_record
returns-in_default-read_record c =
    let whole = c.in-Some.ensures.cases in
    rw whole.same
    (λ h. takes_unfit c.args.words.now h (rw whole.same at c.in_default-read_record.ensures) c.taken_words-in_default-read_record.ensures, λ n. absurd (n whole.long))
