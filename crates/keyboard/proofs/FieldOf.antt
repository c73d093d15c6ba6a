-- Steps of a walk by hand: the code reads a field of a struct that is in a local, or makes a struct of five such fields.
-- A struct's type stands as one argument, and all that is asked of it is where its fields lie: to find the list of its fields' types is to spell them out, and a record's are large.
use mathlib.Core.Path.{◌≡◌, sym, subst}
use Prim.Native.Nat.{ℕ, zero, ◌+◌}
use mathlib.Core.List.{[], ◌∷◌, List}
use mathlib.Core.Option.{some, none-ne-some}
use seplogic.Ra.Ura.{Ura}
use mir.Syntax.{Ty, ty_int, ty_bool, ty_float, ty_ptr, ty_ref, ty_array, ty_unit, ty_struct, ty_enum, ty_param, ty_const, ty_array_p, ty_named, field, place, copy, aggregate}
use mir.Val.{Val, Vals, vstruct, of_list}
use mir.Fields.{get_v, set_v}
use base.Fml.{Share, fat}
use prog.Memory.{field_of}
use prog.Wp.{Env, Spot, spot_of}
use types.Logic.{Logic}
use types.Kit.{Item, ‵, nth}
use types.Run.{Opd, Rv, Walks, stop, fld, from, load, and_then, no_more}
use types.Part.{Part, agg, whole, sub, look_in}

module _ {M : Type 1} {𝓤 : Ura M} {𝓛 : Logic 𝓤} {K : Type 0} where
  -- a field of a cell: only a struct has one
  sub_of : K → {i : Item 𝓤} {q : Share} (σ : Ty) {b o : ℕ} {vs : Vals} {back : Val → Item 𝓤} (k : ℕ) {τ : Ty} {d : ℕ} → field_of σ k ≡ some (τ, d)
      → Part K 𝓛 i q σ b o (vstruct vs) back → Part K 𝓛 i q τ b (o + d) (get_v vs k) (λ u. back (vstruct (set_v vs k u)))
  sub_of t (ty_int w) k e p = absurd (none-ne-some _ e)
  sub_of t ty_bool k e p = absurd (none-ne-some _ e)
  sub_of t (ty_float f) k e p = absurd (none-ne-some _ e)
  sub_of t ty_ptr k e p = absurd (none-ne-some _ e)
  sub_of t (ty_ref κ μ τ) k e p = absurd (none-ne-some _ e)
  sub_of t (ty_array τ n) k e p = absurd (none-ne-some _ e)
  sub_of t ty_unit k e p = absurd (none-ne-some _ e)
  sub_of t (ty_struct ν τs) k e p = sub t k e p
  sub_of t (ty_enum ν τss) k e p = absurd (none-ne-some _ e)
  sub_of t (ty_param n) k e p = absurd (none-ne-some _ e)
  sub_of t (ty_const n) k e p = absurd (none-ne-some _ e)
  sub_of t (ty_array_p τ n) k e p = absurd (none-ne-some _ e)
  sub_of t (ty_named ν τs) k e p = absurd (none-ne-some _ e)

module _ {M : Type 1} {𝓤 : Ura M} {𝓛 : Logic 𝓤} {K : Type 0} {Γ : List (Item 𝓤)} {E : Env 𝓤 𝓛.H} where
  -- entry n of the context is the struct's cell. Which field is read the code alone says, so that a wrong one fails where its value is held to the contract
  open 𝓛 use {H}

  pub field_of_lem : K → (n : ℕ) {i k : ℕ} {q : Share} {σ : Ty} {b : ℕ} {vs : Vals} {τ : Ty} {d : ℕ}
      → spot_of 𝓤 H E i ≡ (σ, b, zero) → field_of σ k ≡ some (τ, d) → nth 𝓛 n Γ ≡ ‵ (fat q σ b zero (vstruct vs))
      → Opd K 𝓛 Γ E (copy (place i (field k ∷ []))) (get_v vs k)
  field_of_lem t n {i} {k} {q} {σ} {b} {vs} {τ} {d} local within cell =
      load t (from t (subst (λ (sp : Spot 𝓤 H). Walks K 𝓛 Γ E sp (field k ∷ []) (τ, b, zero + d)) (sym local) (fld t within (stop t))))
      (look_in t n (subst (λ (j : Item 𝓤). Part K 𝓛 j q τ b (zero + d) (get_v vs k) (λ u. ‵ (fat q σ b zero (vstruct (set_v vs k u))))) (sym cell) (sub_of t σ k within (whole t))))

  -- the struct of five of its fields: the cell is looked up once for all of them
  pub fields_of : K → (n : ℕ) {i k₀ k₁ k₂ k₃ k₄ : ℕ} {q : Share} {σ : Ty} {b : ℕ} {vs : Vals} {τ₀ τ₁ τ₂ τ₃ τ₄ : Ty} {d₀ d₁ d₂ d₃ d₄ : ℕ}
      → spot_of 𝓤 H E i ≡ (σ, b, zero)
      → field_of σ k₀ ≡ some (τ₀, d₀) → field_of σ k₁ ≡ some (τ₁, d₁) → field_of σ k₂ ≡ some (τ₂, d₂) → field_of σ k₃ ≡ some (τ₃, d₃) → field_of σ k₄ ≡ some (τ₄, d₄)
      → nth 𝓛 n Γ ≡ ‵ (fat q σ b zero (vstruct vs))
      → Rv K 𝓛 Γ E (aggregate (copy (place i (field k₀ ∷ [])) ∷ copy (place i (field k₁ ∷ [])) ∷ copy (place i (field k₂ ∷ [])) ∷ copy (place i (field k₃ ∷ [])) ∷ copy (place i (field k₄ ∷ [])) ∷ []))
      (vstruct (of_list (get_v vs k₀ ∷ get_v vs k₁ ∷ get_v vs k₂ ∷ get_v vs k₃ ∷ get_v vs k₄ ∷ [])))
  fields_of t n local f₀ f₁ f₂ f₃ f₄ cell =
      agg t (and_then t (field_of_lem t n local f₀ cell) (and_then t (field_of_lem t n local f₁ cell) (and_then t (field_of_lem t n local f₂ cell) (and_then t (field_of_lem t n local f₃ cell) (and_then t (field_of_lem t n local f₄ cell) (no_more t))))))

  -- of a struct of six fields, all but the fifth: its other fields' types are not looked at
  pub all_but_fifth : K → (n : ℕ) (v₀ v₁ v₂ v₃ v₄ v₅ : Val) {i : ℕ} {q : Share} {σ : Ty} {b : ℕ} {τ₀ τ₁ τ₂ τ₃ τ₅ : Ty} {d₀ d₁ d₂ d₃ d₅ : ℕ}
      → spot_of 𝓤 H E i ≡ (σ, b, zero)
      → field_of σ 0 ≡ some (τ₀, d₀) → field_of σ 1 ≡ some (τ₁, d₁) → field_of σ 2 ≡ some (τ₂, d₂) → field_of σ 3 ≡ some (τ₃, d₃) → field_of σ 5 ≡ some (τ₅, d₅)
      → nth 𝓛 n Γ ≡ ‵ (fat q σ b zero (vstruct (of_list (v₀ ∷ v₁ ∷ v₂ ∷ v₃ ∷ v₄ ∷ v₅ ∷ []))))
      → Rv K 𝓛 Γ E (aggregate (copy (place i (field 0 ∷ [])) ∷ copy (place i (field 1 ∷ [])) ∷ copy (place i (field 2 ∷ [])) ∷ copy (place i (field 3 ∷ [])) ∷ copy (place i (field 5 ∷ [])) ∷ []))
      (vstruct (of_list (v₀ ∷ v₁ ∷ v₂ ∷ v₃ ∷ v₅ ∷ [])))
  all_but_fifth t n v₀ v₁ v₂ v₃ v₄ v₅ local f₀ f₁ f₂ f₃ f₅ cell = fields_of t n local f₀ f₁ f₂ f₃ f₅ cell
