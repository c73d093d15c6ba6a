-- What making a dispatcher's numbers anew means.
use Rattle.std.specs.Prelude.{List, ◌≡◌, ℕ, length}
use Rattle.std.proofs.Math.Option.{Option, none, some}
use Rattle.ps2_bytes.specs.declared.response.MouseId.{MouseId}
use Rattle.argument_words.specs.Arguments.{invalid_argument, identity_at}
use Rattle.keyboard_record.specs.declared.Table.{Table}
use Rattle.keyboard_record.specs.Record.{fresh}
use Rattle.handler_words.specs.Arguments.{table_at}
use Rattle.dispatcher.specs.declared.Dispatcher.{Dispatcher}
use Rattle.dispatcher.specs.Step.{new_dispatcher}
use Rattle.dispatcher_words.specs.Layout.{dispatcher_length}
use Rattle.dispatcher_words.specs.Words.{dispatcher_of, words_of_dispatcher}

-- The dispatcher that has served nobody, with a fresh record for a table and a mouse of an
-- identity; none where either argument stands for nothing.
abbrev pub fresh_at : Option MouseId → Option Table → Option Dispatcher
fresh_at none table = none
fresh_at (some id) none = none
fresh_at (some id) (some table) = some (new_dispatcher (fresh table) (record { id = id }))

-- Arguments that stand for nothing are asked first, then a length of 149.
abbrev pub AtFresh : Option Dispatcher → List ℕ → ℕ → List ℕ → Type 0
AtFresh none ws answer ws' = (answer ≡ invalid_argument) × (ws' ≡ ws)
AtFresh (some d) ws answer ws' =
    (length ws ≡ dispatcher_length
    → (answer ≡ 0) × (ws' ≡ words_of_dispatcher d) × (dispatcher_of ws' ≡ d))
    × ((length ws ≡ dispatcher_length → ⊥) → (answer ≡ 21) × (ws' ≡ ws))

pub record MadeFresh (ws : List ℕ) (keyboards profile identity answer : ℕ) (ws' : List ℕ)
    : Type 0 where
  pub is : AtFresh (fresh_at (identity_at identity) (table_at keyboards profile)) ws answer ws'
