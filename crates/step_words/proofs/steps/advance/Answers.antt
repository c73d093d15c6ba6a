-- `advance` meets its contract.
use Rattle.step_words.proofs.Left.{step_goes, step_replies}
use Rattle.step_words.proofs.steps.advance.Goals as goal

pub returns-in-Goes : goal.returns-in-Goes
returns-in-Goes c = λ k b k' b' h.
    step_goes c.args.fields.now k b c.args.replies.now c.put_place.new.fields k' b' c.args.byte c.args.session c.requires.session h
    c.in-Goes.at c.wanted_at.result c.in-Goes.ensures
    c.put_place.ensures.place c.put_place.ensures.operation c.put_place.ensures.argument c.put_place.ensures.count c.wanted_at.ensures

pub returns-in-Reply : goal.returns-in-Reply
returns-in-Reply c = λ k b k' b' h.
    step_replies c.args.fields.now k b c.args.replies.now c.replied.new.fields k' b' c.args.byte c.args.session c.requires.session h
    c.replied.new.replies c.in-Reply.reply c.replied.result c.in-Reply.ensures
    c.replied.ensures.rest c.replied.ensures.says c.replied.ensures.formed
