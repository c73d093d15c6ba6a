-- `test_calls::records::vdt_handle_in_place` meets its contract.
use Rattle.test_calls.proofs.WholeRecords.{at_side, handles_unfit, handles_fit}
use Rattle.test_calls.proofs.records.vdt_handle_in_place.Goals as goal

pub returns-in_default-read_record : goal.returns-in_default-read_record
returns-in_default-read_record c =
    let whole = c.in-Some-as_mut_array.ensures.cases in
    let a = c.args in
    rw whole.same
    (at_side a.side c.side_in.ensures c.in-Some.is _ _ _ _ _ _
    (λ h. handles_unfit a.words.now a.script.now a.log.now _ (rw whole.same at c.in_default-read_record.ensures) c.refusing_words-in_default-read_record.ensures, λ n. absurd (n whole.long)))

pub returns : goal.returns
returns c =
    let whole = c.in-Some-as_mut_array.ensures.cases in
    let a = c.args in
    at_side a.side c.side_in.ensures c.in-Some.is _ _ _ _ _ _ (
      λ h. handles_fit a.words.now a.script.now a.log.now _ (rw whole.same at c.in-Some-read_record.ensures) _ _ c.handle_in_place-call.ensures c.put_record.ensures c.handled_words.ensures,
      λ n. absurd (n whole.long),
    )
