-- The mouse's record at each end of `set_mouse_id`.
use Prim.Native.Nat.{ℕ}
use mathlib.Core.List.{List, [], ◌∷◌}
use mathlib.Core.Path.{◌≡◌, refl}
use Rattle.exchange.specs.Exchange.{done, bind, yields, play}
use Rattle.exchange.specs.Answer.{Answer, gives, refuses}
use Rattle.exchange.specs.Left.{Left, left}
use Rattle.exchange.specs.Only.{Only, only_done}
use Rattle.exchange.specs.Refuses.{RefusesWith}
use Rattle.exchange.specs.Search.{script_after, log_after}
use Rattle.exchange.proofs.Only.{only_bind, only_play}
use Rattle.exchange.proofs.Search.{bind_after, after_bind}
use Rattle.exchange.proofs.Then.{only_any, among_one}
use Rattle.ps2_bytes.specs.declared.response.MouseId.{MouseId}
use Rattle.ps2_bytes.specs.declared.response.MouseId.TheVariants.{Zero, Four}
use Rattle.ps2_answers.specs.Refusals.{Success, success}
use Rattle.ps2_mouse.specs.declared.PS2Mouse.{PS2Mouse}
use Rattle.ps2_mouse.specs.Mouse.{mouse_id, enable_packet_streaming}
use Rattle.ps2_mouse_identity.specs.Identity.{read_or, second_identity, after_first, new_identity, start_packets, set_mouse_id}
use Rattle.ps2_mouse_identity.specs.Kept.{Kept, started, not_started, not_reached}
use Rattle.ps2_mouse.proofs.Refuses.{refuses_enable_packet_streaming}
use Rattle.ps2_mouse_identity.proofs.Refuses.{refuses_new_identity}

-- ---- which identity it is

-- a failed first identity is forgiven; it and 0 leave the record's; 4 is 13
module _ (old : MouseId) (s l : List ℕ) where
  first_alone : (first : Answer MouseId) (c : Answer MouseId) → after_first old first ≡ done c → (play mouse_id s l).end ≡ yields first
      → (play (bind mouse_id (λ first. after_first old first)) s l).end ≡ yields c
  unfolding play
  first_alone first c q h = after_bind (λ first. after_first old first) mouse_id s l first c (record { before = h; after = rw q })

  pub first_fails : (n : ℕ) → (play mouse_id s l).end ≡ yields (refuses n) → (play (bind mouse_id (λ first. after_first old first)) s l).end ≡ yields (gives old)
  first_fails n = first_alone (refuses n) (gives old) refl

  pub first_zero : (play mouse_id s l).end ≡ yields (gives Zero) → (play (bind mouse_id (λ first. after_first old first)) s l).end ≡ yields (gives old)
  first_zero = first_alone (gives Zero) (gives old) refl

  pub first_four : (play mouse_id s l).end ≡ yields (gives Four) → (play (bind mouse_id (λ first. after_first old first)) s l).end ≡ yields (refuses 13)
  first_four = first_alone (gives Four) (refuses 13) refl

  -- a second identity that fails is not taken for 3: the record's stays; one that is read becomes the identity
  second : (a : Answer MouseId) → (play mouse_id s l).end ≡ yields a → (play (second_identity old) s l).end ≡ yields (gives (read_or old a))
  unfolding second_identity play
  second a h = after_bind (λ second. done (gives (read_or old second))) mouse_id s l a (gives (read_or old a)) (record { before = h; after = refl })

  pub second_fails : (n : ℕ) → (play mouse_id s l).end ≡ yields (refuses n) → (play (second_identity old) s l).end ≡ yields (gives old)
  second_fails n = second (refuses n)

  pub second_read : (id : MouseId) → (play mouse_id s l).end ≡ yields (gives id) → (play (second_identity old) s l).end ≡ yields (gives id)
  second_read id = second (gives id)

-- ---- the record at each end

same_yielded : {A : Type 0} {a b : A} → yields a ≡ yields b → a ≡ b
same_yielded h = cc

started_with : (mouse : PS2Mouse) (id : Answer MouseId) (s l : List ℕ) (v : Left PS2Mouse Success) → (play (start_packets mouse id) s l).end ≡ yields v
    → v.now ≡ record { id = read_or mouse.id id }
unfolding play
started_with mouse (gives id) s l v h =
    only_play (only_bind {Q = λ v. v.now ≡ record { id = id }} (only_any enable_packet_streaming) (λ a _. only_done refl)) s l v h
started_with mouse (refuses n) s l v h = rw (← same_yielded h)

-- whatever F4 comes to, the mouse has the identity that the sequence before it gave, or where that refused the one it had
pub set_mouse_id_record : (mouse : PS2Mouse) (s l : List ℕ) (v : Left PS2Mouse Success) → (play (set_mouse_id mouse) s l).end ≡ yields v
    → (id : Answer MouseId) × ((play (new_identity mouse.id) s l).end ≡ yields id) × (v.now ≡ record { id = read_or mouse.id id })
unfolding set_mouse_id
set_mouse_id_record mouse s l v h =
    let t = new_identity mouse.id in
    let z = bind_after (λ id. start_packets mouse id) t s l v h in
    (z.0, z.1.before, started_with mouse z.0 (script_after t s l) (log_after t s l) v z.1.after)

by_enable : (mouse : PS2Mouse) (id : MouseId) (a : Answer Success) → RefusesWith (17 ∷ []) a → Kept mouse (left a (record { id = id }))
by_enable mouse id (gives success) h = started
by_enable mouse id (refuses n) h = rw (among_one n 17 h) not_started

keeps_start : (mouse : PS2Mouse) (id : Answer MouseId) → RefusesWith (13 ∷ 15 ∷ 16 ∷ []) id → Only (Kept mouse) (start_packets mouse id)
keeps_start mouse (gives id) h = only_bind refuses_enable_packet_streaming (λ a k. only_done (by_enable mouse id a k))
keeps_start mouse (refuses n) h = only_done (not_reached h)

pub set_mouse_id_keeps : (mouse : PS2Mouse) → Only (Kept mouse) (set_mouse_id mouse)
unfolding set_mouse_id
set_mouse_id_keeps mouse = only_bind (refuses_new_identity mouse.id) (keeps_start mouse)
