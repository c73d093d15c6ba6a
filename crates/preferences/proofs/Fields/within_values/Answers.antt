-- `Fields::within_values` meets its contract: where the three before them are within their values, the lamps decide.
use mathlib.Core.Bool.{Bool, true, false, ◌&&◌}
use mathlib.Core.Path.{◌≡◌, sym, ◌∙◌}
use borrow.Author.Tests.{clash}
use Rattle.preferences.specs.Values.{is_scancode_set, is_sampling_rate, is_resolution, is_lamps}
use Rattle.preferences.specs.Record.{within_values}
use Rattle.preferences.specs.declared.Preferences.TheVariants.{Version1}
use Rattle.preferences.proofs.Fields.within_values.Goals.{then-is_scancode_set, else-is_scancode_set, then-is_sampling_rate, else-is_sampling_rate}
use Rattle.preferences.proofs.Fields.within_values.Goals as goal

last_decides : (a b c d : Bool) → a ≡ true → b ≡ true → c ≡ true → d ≡ (a && (b && (c && (d && true))))
last_decides a b c true p q r = rw (p, q, r)
last_decides a b c false p q r = rw (p, q, r)

pub returns-then-is_resolution : goal.returns-then-is_resolution
returns-then-is_resolution c =
    elim c.if-is_sampling_rate.branch [
      | then-is_sampling_rate w ↦
          elim c.if-is_scancode_set.branch [
            | then-is_scancode_set v ↦
                let set : is_scancode_set c.args.self.set ≡ true = sym c.is_scancode_set.ensures ∙ v.if-is_scancode_set.true in
                let rate : is_sampling_rate c.args.self.rate ≡ true = sym v.is_sampling_rate.ensures ∙ sym v.value-is ∙ w.if-is_sampling_rate.true in
                let resolution : is_resolution c.args.self.resolution ≡ true = sym w.is_resolution.ensures ∙ sym w.value-is ∙ c.if-is_resolution.true in
                let lamps : is_lamps c.args.self.lamps ≡ within_values (Version1 c.args.self) = last_decides _ _ _ (is_lamps c.args.self.lamps) set rate resolution in c.is_lamps.ensures ∙ lamps
            | else-is_scancode_set v ↦ absurd (clash (sym v.if-is_scancode_set.false ∙ sym v.value-is ∙ w.if-is_sampling_rate.true))
          ]
      | else-is_sampling_rate w ↦ absurd (clash (sym w.if-is_sampling_rate.false ∙ sym w.value-is ∙ c.if-is_resolution.true))
    ]
