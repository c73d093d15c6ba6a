-- The law for the setting of a mouse's identity by numbers: with 2 the value is the identity that was passed.
use Prim.Native.Nat.{ℕ}
use mathlib.Core.List.{List}
use mathlib.Core.Option.{Option, none, some}
use mathlib.Core.Path.{◌≡◌, refl}
use lib.ListN.{take}
use Rattle.ps2_bytes.specs.declared.response.MouseId.{MouseId}
use Rattle.ps2_mouse.specs.declared.PS2Mouse.{PS2Mouse}
use Rattle.ps2_mouse_identity.specs.Identity.{set_mouse_id}
use Rattle.port_words.specs.declared.PortWords.{PortWords}
use Rattle.mouse_words.specs.Left.{told_left, TellsLeftAt}
use Rattle.theorem_cut_scripts.specs.CutShort.{next_port, CutShort}
use Rattle.theorem_cut_scripts.specs.Forms.{lack}
use Rattle.theorem_cut_scripts.specs.Told.{handed_in, CountsTold, port_parts}
use Rattle.theorem_cut_scripts.proofs.Told.{tells_cut}

pub left_counts : (passed : PS2Mouse) → CountsTold port_parts (told_left passed)
left_counts passed = record { used = record { used_is = λ e u w. refl; others_are = λ e u w. refl }; pairs_are = λ e u w. refl }

module _ (n : ℕ) (script log : List ℕ) {argument : Option MouseId} {r r' : PortWords} {l l' : List ℕ} where
  pub tells_left_cut : (passed : PS2Mouse) → argument ≡ some passed.id → TellsLeftAt argument script log r l → TellsLeftAt argument (take n script) log r' l'
      → CutShort n (told_left passed (lack (next_port n (set_mouse_id passed) script log)) 0 0) log (handed_in port_parts r l) (handed_in port_parts r' l')
  tells_left_cut passed q c c' = tells_cut (left_counts passed) n script log (set_mouse_id passed) (c.at passed.id q) (c'.at passed.id q)

  -- an identity that is none is refused before a byte is read
  pub tells_left_same : argument ≡ none → TellsLeftAt argument script log r l → TellsLeftAt argument (take n script) log r' l' → handed_in port_parts r' l' ≡ handed_in port_parts r l
  tells_left_same q c c' =
      let p = c.nothing q in
      let p' = c'.nothing q in
      rw (p.0, p.1, p'.0, p'.1)
