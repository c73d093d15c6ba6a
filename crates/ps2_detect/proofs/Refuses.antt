-- What a detection refuses with.
use mathlib.Core.List.{[], ◌∷◌}
use Rattle.exchange.specs.Only.{only_done}
use Rattle.exchange.specs.Refuses.{RefusesWith, Refuses}
use Rattle.exchange.proofs.Only.{only_bind}
use Rattle.exchange.proofs.Then.{only_any, only_repeat, refuses_then, refuses_more}
use Rattle.ps2_bytes.specs.declared.command.HostToKeyboardCommand.TheVariants as Command
use Rattle.ps2_bytes.specs.declared.writable.HostToKeyboardCommandOrData.TheVariants as Byte
use Rattle.ps2_polling.specs.Polling.{poll_limit}
use Rattle.ps2_polling.proofs.Refuses.{only_poll, finds_listed}
use Rattle.ps2_command.specs.Search.{listed_turn}
use Rattle.ps2_command.proofs.Refuses.{command_and}
use Rattle.ps2_keyboard.proofs.Refuses.{also_refuses}
use Rattle.ps2_detect.specs.Detection.{FirstByte, none, came00, came_ab, second_bytes, inner_search, type_after, type_search, keyboard_detect}

refuses_type_after : (first : FirstByte) → Refuses (12 ∷ []) (type_after first)
unfolding inner_search
refuses_type_after none = only_done tt
refuses_type_after came00 = only_done tt
refuses_type_after came_ab = only_repeat (only_poll (RefusesWith (12 ∷ [])) (listed_turn second_bytes) (finds_listed (12 ∷ []) second_bytes)) tt poll_limit

refuses_type_search : Refuses (12 ∷ []) type_search
unfolding type_search
refuses_type_search = only_bind (only_any _) (λ first _. refuses_type_after first)

pub refuses_keyboard_detect : Refuses (4 ∷ 5 ∷ 6 ∷ 7 ∷ 12 ∷ []) keyboard_detect
unfolding keyboard_detect
refuses_keyboard_detect =
    let ns = command_and 12 in
    refuses_then ns (also_refuses 12 (Byte.KeyboardCommand Command.DisableScanning))
    (λ _. refuses_then ns (also_refuses 12 (Byte.KeyboardCommand Command.IdentifyKeyboard))
    (λ _. only_bind (refuses_more (12 ∷ []) ns tt refuses_type_search)
    (λ type h. refuses_then ns (also_refuses 12 (Byte.KeyboardCommand Command.EnableScanning)) (λ _. only_done h))))
