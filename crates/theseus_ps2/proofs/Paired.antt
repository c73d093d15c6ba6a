-- A write of a recording that has room for it.
use Prim.Native.Nat.{ℕ, ◌+◌, ◌*◌, ◌/◌}
use mathlib.Core.Bool.{Bool, true, false, cond}
use mathlib.Core.Path.{◌≡◌, sym, ap, ◌∙◌}
use lib.Dec.{ltb}
use lib.ListN.{length, set}
use Rattle.exchange.specs.Exchange.{Port, number}
use Rattle.theseus_ps2.specs.Recording.{with_pair}
use Rattle.theseus_ps2.specs.declared.recording.Recording.{Recording}

module _ (s : Recording) (p : Port) (v : ℕ) where
  -- the recording with the pair in its place, counted once
  abbrev paired : ℕ → Recording
  paired n = record s { log = record s.log { now = set (set s.log.now (2 * s.pairs) n) (2 * s.pairs + 1) v }; pairs = s.pairs + 1 }

  pub pair_put : {n : ℕ} → n ≡ number p → s.short ≡ false → ltb s.pairs (length s.log.now / 2) ≡ true → paired n ≡ with_pair s p v
  pair_put e q r =
      ap paired e
      ∙ sym (ap (λ (b : Bool). cond b s (cond (ltb s.pairs (length s.log.now / 2)) (paired (number p)) (record s { short = true; asked = 0 }))) q
      ∙ ap (λ (b : Bool). cond b (paired (number p)) (record s { short = true; asked = 0 })) r)
