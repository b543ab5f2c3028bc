-- What is collected of a list: of parts of it, and of all; and whether anything is.
use Rattle.std.proofs.Common.{◌≡◌, ◌≤◌, ◌⊎◌, ⊎_elim, inl, inr, Bool, true, List, [], ◌∷◌, ◌++◌, length, length-append}
use Rattle.std.proofs.Common.{Result, Ok, Err, is_err, refl, ap, ◌∙◌, subst, arith}
use Rattle.std.specs.Bool.{Decides}
use Rattle.std.specs.Prelude.{OnErr, OnOk}
use Rattle.std.specs.List.{AllByRecursion, filter}
use Rattle.std.proofs.lemmas.Bool.{cond-true, cond-false, cases_Bool, both_ways, false≢true}
use Rattle.dbus_rule.specs.declared.rule.Rule.{Rule}
use Rattle.dbus_rule_set.specs.declared.handle.RuleHandle.{RuleHandle}
use Rattle.dbus_rule_set.specs.Held.{Collects, HoldsOfAny}

abbrev Entry : Type 0 → Type 0
Entry A = RuleHandle × Rule A

module _ {A : Type 0} where
  -- nothing is collected if P holds of none
  pub none : (P : Entry A → Type 0) (es : List (Entry A)) (u : List RuleHandle) → AllByRecursion (λ e. P e → ⊥) es → Collects P es u u
  none P [] u k = refl
  none P (e ∷ es) u k = inr (k.0, none P es u k.1)

  pub nothing : (P : Entry A → Type 0) (es : List (Entry A)) (u v : List RuleHandle)
      → AllByRecursion (λ e. P e → ⊥) es → Collects P es u v → v ≡ u
  nothing P [] u v k c = c
  nothing P (e ∷ es) u v k c = ⊎_elim (λ h. absurd (k.0 h.0)) (λ h. nothing P es u v k.1 h.1) c

  -- two that hold of the same entries collect the same
  pub along : (P Q : Entry A → Type 0) (es : List (Entry A)) (u v : List RuleHandle)
      → AllByRecursion (λ e. (P e → Q e) × (Q e → P e)) es → Collects P es u v → Collects Q es u v
  along P Q [] u v k c = c
  along P Q (e ∷ es) u v k c =
      ⊎_elim
      (λ h. inl (k.0.0 h.0, along P Q es _ v k.1 h.1))
      (λ h. inr (λ q. h.0 (k.0.1 q), along P Q es u v k.1 h.1))
      c

  -- of those that pass a test
  pub passed : (P : Entry A → Type 0) (t : Entry A → Bool) (es : List (Entry A)) (u v : List RuleHandle)
      → Collects P (filter t es) u v → Collects (λ e. (t e ≡ true) × P e) es u v
  passed P t [] u v c = c
  passed P t (e ∷ es) u v c =
      ⊎_elim
      (λ y. ⊎_elim (λ h. inl ((y, h.0), passed P t es _ v h.1)) (λ h. inr (λ q. h.0 q.1, passed P t es u v h.1))
      (subst (λ xs. Collects P xs u v) (cond-true _ _ _ y) c))
      (λ n. inr (λ q. both_ways (t e) n q.0, passed P t es u v (subst (λ xs. Collects P xs u v) (cond-false _ _ _ n) c)))
      (cases_Bool (t e))

  -- C holds where L or M does, and no entry of which L holds stands after one of which M does
  abbrev pub Parted : (Entry A → Type 0) → (Entry A → Type 0) → (Entry A → Type 0) → List (Entry A) → Type 0
  Parted L M C [] = Unit {0}
  Parted L M C (e ∷ es) = (L e → C e) × (M e → C e) × (C e → L e ⊎ M e) × (L e → M e → ⊥)
      × (M e → AllByRecursion (λ f. L f → ⊥) es) × Parted L M C es

  pub joined : (L M C : Entry A → Type 0) (es : List (Entry A)) (u v w : List RuleHandle)
      → Parted L M C es → Collects L es u v → Collects M es v w → Collects C es u w
  joined L M C [] u v w k c d = d ∙ c
  joined L M C (e ∷ es) u v w k c d =
      ⊎_elim
      (λ a. inl (k.0 a.0, joined L M C es _ v w k.5 a.1 (⊎_elim (λ b. absurd (k.3 a.0 b.0)) (λ b. b.1) d)))
      (λ a. ⊎_elim
      (λ b.
      let more = u ++ e.0 ∷ [] in
      let later = k.4 b.0 in
      inl (
        k.1 b.0,
        joined L M C es more more w k.5 (none L es _ later)
            (subst (λ x. Collects M es (x ++ e.0 ∷ []) w) (nothing L es u v later a.1) b.1),
      ))
      (λ b. inr (λ q. ⊎_elim a.0 b.0 (k.2 q), joined L M C es u v w k.5 a.1 b.1))
      d)
      c

  -- ---- whether P holds of any

  -- of one that passes a test, so of one of all
  pub any_passed : (P : Entry A → Type 0) (t : Entry A → Bool) (es : List (Entry A)) → HoldsOfAny P (filter t es) → HoldsOfAny P es
  any_passed P t [] h = h
  any_passed P t (e ∷ es) h =
      ⊎_elim
      (λ y. ⊎_elim (λ p. inl p) (λ k. inr (any_passed P t es k)) (subst (HoldsOfAny P) (cond-true _ _ _ y) h))
      (λ n. inr (any_passed P t es (subst (HoldsOfAny P) (cond-false _ _ _ n) h)))
      (cases_Bool (t e))

  pub any_between : {T E : Type 0} (P : Entry A → Type 0) (t : Entry A → Bool) (es ks : List (Entry A)) (r : Result T E)
      → ks ≡ filter t es → OnErr r (HoldsOfAny P ks) → OnErr r (HoldsOfAny P es)
  any_between P t es ks (Ok x) is h = tt
  any_between P t es ks (Err e) is h = any_passed P t es (subst (HoldsOfAny P) is h)

  not_fewer : (P : Entry A → Type 0) (es : List (Entry A)) (u v : List RuleHandle) → Collects P es u v → length u ≤ length v
  not_fewer P [] u v c = omega (arith, ap length c)
  not_fewer P (e ∷ es) u v c =
      ⊎_elim
      (λ h. let more = not_fewer P es (u ++ e.0 ∷ []) v h.1 in omega (arith, more, length-append u (e.0 ∷ [])))
      (λ h. not_fewer P es u v h.1)
      c

  -- where nothing is collected, of none
  none_holds : (P : Entry A → Type 0) (es : List (Entry A)) (u : List RuleHandle) → Collects P es u u → HoldsOfAny P es → ⊥
  none_holds P [] u c h = h
  none_holds P (e ∷ es) u c h =
      ⊎_elim
      (λ a.
      let more = not_fewer P es (u ++ e.0 ∷ []) u a.1 in
      absurd (omega (arith, more, length-append u (e.0 ∷ []))))
      (λ a. ⊎_elim (λ p. a.0 p) (λ t. none_holds P es u a.1 t) h)
      c

  -- it is decided by whether a search was stopped that collects nothing
  pub stopped_decides : {T E : Type 0} (P : Entry A → Type 0) (es : List (Entry A)) (u : List RuleHandle) (r : Result T E)
      → OnOk r (Collects P es u u) → OnErr r (HoldsOfAny P es) → Decides (is_err r) (HoldsOfAny P es)
  stopped_decides P es u (Ok x) all some = (λ t. absurd (false≢true t), λ h. absurd (none_holds P es u all h))
  stopped_decides P es u (Err e) all some = (λ t. some, λ h. refl)

pub on_ok : {T E P Q : Type 0} (r : Result T E) → (P → Q) → OnOk r P → OnOk r Q
on_ok (Ok x) f p = f p
on_ok (Err e) f p = tt
