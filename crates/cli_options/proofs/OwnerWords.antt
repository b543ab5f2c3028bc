-- A bus name has no `=`, so that a word is cut into a name and its owner at the first.
use Rattle.std.proofs.Common.{◌≡◌, ◌≢◌, ℕ, zero, suc, ◌<◌, Bool, false, true, List, [], ◌∷◌, ◌++◌, length, get_or, Option, IsTrue, inl, inr, refl, sym, ◌∙◌, subst, arith}
use Rattle.std.specs.Borrow.{Bor}
use Rattle.std.specs.List.{AllByRecursion}
use Rattle.std.specs.Option.{MatchOption}
use Rattle.std.proofs.lemmas.Bool.{false≢true}
use Rattle.std.proofs.lemmas.Str.Pattern.{IsSplitOnceResult, split_after}
use Rattle.clap.specs.Words.{Text}
use Rattle.dbus_texts.specs.Kinds.{IsElement, IsJoined, IsBusName, each_after, is_dashed, is_dashed_start}
use Rattle.dbus_match.specs.Matching.{Ownership}
use Rattle.cli_options.specs.Owners.{IsOwnerWord, IsUnique, IsWellKnown}

abbrev HasNone : List ℕ → Type 0
HasNone w = AllByRecursion (λ b. b ≢ 61) w

both : (v w : List ℕ) → HasNone v → HasNone w → HasNone (v ++ w)
both [] w h k = k
both (b ∷ v) w h k = (h.0, both v w h.1 k)

module _ (start more : ℕ → Bool) (no_start : start 61 ≡ false) (no_more : more 61 ≡ false) where
  is_not : (p : ℕ → Bool) → p 61 ≡ false → (b : ℕ) → IsTrue (p b) → b ≢ 61
  is_not p out b is e = false≢true (sym out ∙ subst (λ x. p x ≡ true) e is)

  in_rest : (bs : List ℕ) → AllByRecursion (λ c. IsTrue (more c)) bs → HasNone bs
  in_rest [] h = tt
  in_rest (b ∷ bs) h = (is_not more no_more b h.0, in_rest bs h.1)

  in_element : (e : List ℕ) → IsElement start more e → HasNone e
  in_element [] h = absurd h
  in_element (b ∷ bs) h = (is_not start no_start b h.0, in_rest bs h.1)

  in_each : (es : List (List ℕ)) → AllByRecursion (IsElement start more) es → HasNone (each_after 46 es)
  in_each [] h = tt
  in_each (e ∷ es) h = (λ same. absurd (omega (arith, same)), both e (each_after 46 es) (in_element e h.0) (in_each es h.1))

  in_joined : (w : List ℕ) → IsJoined start more w → HasNone w
  in_joined w (e, f, es, all, is) = subst HasNone (sym is) (both e (each_after 46 (f ∷ es)) (in_element e all.0) (in_each (f ∷ es) all.1))

in_name : (w : List ℕ) → IsBusName w → HasNone w
in_name w (inl (v, joined, is)) = subst HasNone (sym is) (λ same. absurd (omega (arith, same)), in_joined is_dashed is_dashed refl refl v joined)
in_name w (inr joined) = in_joined is_dashed_start is_dashed refl refl w joined

at_index : (w : List ℕ) → HasNone w → (i : ℕ) → i < length w → get_or w i 0 ≢ 61
at_index [] h i l = absurd (omega (arith, l))
at_index (b ∷ w) h zero l = h.0
at_index (b ∷ w) h (suc i) l = at_index w h.1 i (omega (arith, l))

-- no byte of a bus name is `=`
no_equals : (w : List ℕ) → IsBusName w → (i : ℕ) → i < length w → get_or w i 0 ≢ 61
no_equals w is = at_index w (in_name w is)

-- a word that gives an owner is cut into the two names
pub cut_at_equals : (word : Text) (o : Ownership) (r : Option (Bor Text × Bor Text)) → IsSplitOnceResult 61 word r → IsOwnerWord word o
    → MatchOption r ⊥ (λ x. (x.0.now ≡ o.name) × (x.1.now ≡ o.unique))
cut_at_equals word o r h w = split_after 61 word o.name o.unique r h (omega arith) w.spelled (no_equals o.name w.name.0.0)

pub cut_names : (word name unique : Text) (o : Ownership) → (name ≡ o.name) × (unique ≡ o.unique) → IsOwnerWord word o → IsWellKnown name × IsUnique unique
cut_names word name unique o e w = (subst IsWellKnown (sym e.0) w.name, subst IsUnique (sym e.1) w.unique)

-- an owner of two such names
pub owner_made : (word name unique n u : Text) → word ≡ name ++ 61 ∷ unique → IsWellKnown name × IsUnique unique → n ≡ name → u ≡ unique
    → IsOwnerWord word (record { name = n; unique = u })
owner_made word name unique n u e are p q = record {
  spelled = e ∙ (λ i. sym p i ++ 61 ∷ sym q i);
  name = subst IsWellKnown (sym p) are.0;
  unique = subst IsUnique (sym q) are.1;
}
