-- `preferences_application::apply_preferences` meets its contract: what is asked first is whether the fields are within their values.
use Prim.Native.Nat.{ℕ}
use mathlib.Core.List.{List}
use mathlib.Core.Path.{◌≡◌, ◌∙◌, sym}
use Rattle.std.specs.Prelude.{Result}
use Rattle.exchange.specs.Exchange.{Played}
use Rattle.exchange.specs.Answer.{Answer}
use Rattle.ps2_answers.specs.declared.Counted.{Counted}
use Rattle.ps2_answers.specs.declared.Refusal.{Refusal}
use Rattle.ps2_answers.specs.Answers.{told}
use Rattle.preferences_application.proofs.Outside.{plays_within, plays_outside}
use Rattle.preferences_application.proofs.apply_preferences.Goals as goal

-- an answer that is known to be another tells the same
of_same : {T : Type 0} {a b : Result (Counted T) (Counted Refusal)} {log : List ℕ} {whole : Played (Answer T)} → told a log ≡ whole → a ≡ b → told b log ≡ whole
of_same q e = rw (sym e) q

pub returns-then-within_values : goal.returns-then-within_values
returns-then-within_values c =
    let e = plays_within c.args.preferences _ _ (sym c.within_values.ensures ∙ c.if-within_values.true) c.apply_within.ensures in
    search (e, of_same)

pub returns-else-within_values : goal.returns-else-within_values
returns-else-within_values c = rw c.new.ensures (sym (plays_outside c.args.preferences (sym c.within_values.ensures ∙ c.if-within_values.false) _ _))
