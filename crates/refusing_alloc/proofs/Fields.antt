-- The fields of a `Refusing` suffix a `&`.
--     PlanRow, Whole      the rows of `Plan` and of `Refusing`, where Z describes the inner allocator
--     inner_at, plan_at      where the fields lie in a `Refusing` at p
--     fields           a proof's step: a `&` to a `Refusing` is one to each field
use Rattle.refusing_alloc.proofs.Steps.{ℕ, ◌+◌, List, [], ◌∷◌, Al, α, seen, Ura, id⊢, Lft, size, align, up, Logic, Goal, Step, step, Item, ‵, ◌$◌, use1, move, drop, fsplit, hidden_shr, unhide, RattleType, param}
use Rattle.refusing_alloc.specs.contracts.Refusing
use Rattle.refusing_alloc.specs.contracts.plan.Plan

abbrev pub PlanRow : RattleType
PlanRow = Plan.the_row

module _ (Z : Al) where
  abbrev pub Whole : RattleType
  Whole = Refusing.the_row (param 0 Z.row)

  abbrev pub inner_at : ℕ × ℕ → ℕ × ℕ
  inner_at p = (p.0, p.1 + up (align (α Z)) 0)

  -- suffix the inner allocator, at the next multiple of 8
  abbrev pub plan_at : ℕ × ℕ → ℕ × ℕ
  plan_at p = (p.0, p.1 + up 8 (up (align (α Z)) 0 + size (α Z)))

  module _ {M : Type 1} {𝓤 : Ura M} {𝓛 : Logic 𝓤} {K : Type 0} {Γ : List (Item 𝓤)} {G : Goal 𝓤 𝓛.H} where
    pub fields : K → (κ : Lft) (x : Whole.Denot) (p : ℕ × ℕ)
        → Step K 𝓛 (‵ (hidden_shr PlanRow κ x.plan (plan_at p).0 (plan_at p).1) ∷ ‵ (seen Z κ (inner_at p) x.inner) ∷ Γ) G (‵ (hidden_shr Whole κ x p.0 p.1) ∷ Γ) G
    fields t κ x p = step (λ k.
        unhide t $ fsplit t $ fsplit t $ use1 𝓛 (‵ (seen Z κ (inner_at p) x.inner)) (id⊢ 𝓤 _) $
        move t (1 ∷ []) $ fsplit t $ use1 𝓛 (‵ (hidden_shr PlanRow κ x.plan (plan_at p).0 (plan_at p).1)) (id⊢ 𝓤 _) $
        move t (1 ∷ 3 ∷ []) $ drop t $ drop t $ k)
