-- Calls of the methods of `Plan` that take a `&` to it alone, have no clauses and answer a value of
-- R.
--     Asks             the contract of such a method
--     asked            a call of it: a `&` at lifetime κ to the plan at p, and the share q of κ's token
--     goes_in, comes_out      what the call is handed, and what the caller has after it
use Rattle.refusing_alloc.proofs.Fields.{PlanRow}
use Rattle.refusing_alloc.proofs.Steps.{ℕ, List, [], ◌∷◌, refl, Ura, ent, sep, ex, id⊢, emp, Lft, Share, ftrue, fsep, flft, Val, vptr, Logic, sem, ‵, raw, ◌⊛◌, some, later, ◌$◌, ◌∵◌, !, qed, done, move, keep, use1, split, join, fjoin, feq_i, pick, show, await, updating, at_once, yes, hidden_shr, RattleType, plain, RefOf, nothing, Contract, triple_of}
use denote.Signature.{Signature}
use denote.Triple.Spec.{exits}

abbrev signed : RattleType → Signature
signed R = record {
  lifetimes = 1;
  outlives = [];
  params = RefOf (0 ∷ []) tt (plain (λ κs. PlanRow)) (λ κs. tt) ∷ [];
  result = plain (λ κs. R);
}

module _ (R : RattleType) {M : Type 1} {𝓤 : Ura M} (𝓛 : Logic 𝓤) where
  open 𝓛 use {H, A}

  abbrev pub Asks : Contract 𝓤
  Asks = triple_of 𝓛 (signed R) (λ κs a. record {
    ghost = Unit {0};
    requires = λ g. emp 𝓤;
    ensures = λ g r. exits 𝓛 (signed R) (yes, tt) κs a (λ e. emp 𝓤);
  })

  module _ (κ : Lft) (q : Share) (p : ℕ × ℕ) (plan : PlanRow.Denot) where
    abbrev pub asked : Asks.Ghost
    asked = (((κ, tt), (q, tt), tt, (record { ref_ptr = p; now = plan }, tt), (vptr p.0 p.1 ∷ [], tt)), tt)

    pub goes_in : ent 𝓤 (sep 𝓤 (sem 𝓛 (hidden_shr PlanRow κ plan p.0 p.1)) (A.lft κ q)) (Asks.pre asked)
    goes_in =
        qed 𝓛 (‵ (hidden_shr PlanRow κ plan p.0 p.1) ∷ ‵ (flft κ q) ∷ []) ∵
        feq_i ! (List Val) (vptr p.0 p.1 ∷ []) (vptr p.0 p.1 ∷ []) refl $ fjoin ! $ nothing ! $ move ! (1 ∷ []) $ fjoin ! $
        nothing ! $ move ! (2 ∷ []) $ join ! $ join ! $ nothing ! $ move ! (1 ∷ []) $ done !

    pub comes_out : (v : Val) → ent 𝓤 (Asks.post asked v) (H.⇛ (ex 𝓤 (λ (r : R.Denot). sep 𝓤 (sem 𝓛 (R.own_val r (v ∷ []))) (A.lft κ q))))
    comes_out v = qed 𝓛 (raw (Asks.post asked v) ∷ []) ∵ updating ! $
        use1 𝓛 (later (some (λ (r : R.Denot). ((‵ (flft κ q) ⊛ ‵ ftrue) ⊛ ‵ (R.own_val r (v ∷ [])))
        ⊛ some (λ (ws : Unit {0} × Unit {0}). ‵ (fsep ftrue ftrue) ⊛ ‵ ftrue)))) (id⊢ 𝓤 _) $
        await ! tt $ pick ! (λ r.
        split ! $ split ! $ split ! $ keep ! (2 ∷ 0 ∷ []) $
        at_once ! $ show ! (λ (x : R.Denot). sep 𝓤 (sem 𝓛 (R.own_val x (v ∷ []))) (A.lft κ q)) r $ done !)
