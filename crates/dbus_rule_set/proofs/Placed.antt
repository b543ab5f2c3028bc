-- Where a rule stands, and that a message which it matches leads there.
use Rattle.std.proofs.Common.{◌≡◌, ◌⊎◌, ⊎_elim, inl, inr, ℕ, zero, suc, ◌<◌, Bool, true, List, [], ◌∷◌, length, get_or, Option, None, Some, MatchOption, sym, ap, ◌∙◌, subst, arith}
use Rattle.std.specs.List.{AllByRecursion}
use Rattle.std.specs.Option.{option_map}
use Rattle.std.proofs.lemmas.Bool.{and_parts, and_from, or_cases, or_left, or_right, eqb-true, eq-eqb, ltb-true, lt-ltb, cases_eq}
use Rattle.dbus_texts.specs.Types.{TextCode}
use Rattle.dbus_value_model.specs.Values.{ValueTree, TextValue}
use Rattle.dbus_message_model.specs.Messages.{MessageTree}
use Rattle.dbus_rule.specs.declared.condition.Condition.{Condition}
use Rattle.dbus_rule.specs.declared.key.Key.{Key}
use Rattle.dbus_rule.specs.declared.key.Key.TheVariants.{Arg, ArgPath}
use Rattle.dbus_rule.specs.declared.rule.Rule.{Rule}
use Rattle.dbus_rule.specs.Rules.{condition_pair, condition_pairs, Pair}
use Rattle.dbus_rule.specs.Keys.{IsKey, rank}
use Rattle.dbus_rule.specs.RuleViews.{rule_pairs}
use Rattle.dbus_rule.proofs.Keys.{rank_same}
use Rattle.dbus_match.specs.Matching.{HoldsAt, Matches, Ownership, text_of}
use Rattle.dbus_rule_set.specs.declared.handle.RuleHandle.{RuleHandle}
use Rattle.dbus_rule_set.specs.Held.{EntryMatches}
use Rattle.dbus_rule_set.specs.Owners.{OwnerSet, owners_in}
use Rattle.dbus_rule_set.specs.Places.{Stands, argument, is_placed, is_under, place_hash}

is_key : (k : Key) → argument k < 64 → IsKey k
is_key (Arg n) l = l
is_key (ArgPath n) l = l
is_key k l = tt

key_is : (k : Key) → IsKey k → argument k < 64
key_is (Arg n) i = i
key_is (ArgPath n) i = i
key_is k i = omega arith

-- under a condition of a rule
pub under : (h : RuleHandle) (p : Pair) → IsKey p.key → h.kind ≡ rank p.key → h.hash ≡ place_hash p.key p.value → is_under h p ≡ true
under h p key kind hash = and_from _ _ (lt-ltb (argument p.key) 64 (key_is p.key key)) (and_from _ _ (eq-eqb h.kind (rank p.key) kind) (eq-eqb h.hash (place_hash p.key p.value) hash))

pub placed_at : {A : Type 0} (h : RuleHandle) (cs : List (Condition A)) (i : ℕ) (c : Condition A) → i < length cs → c ≡ get_or cs i c → is_under h (condition_pair c) ≡ true → is_placed h (condition_pairs cs) ≡ true
placed_at h [] i c l e t = absurd (omega (arith, l))
placed_at h (d ∷ cs) zero c l e t = or_left _ _ (subst (λ x. is_under h (condition_pair x) ≡ true) e t)
placed_at h (d ∷ cs) (suc i) c l e t = or_right _ _ (placed_at h cs i c (omega (arith, l)) e t)

pub under_none : (h : RuleHandle) (ps : List Pair) → h.kind ≡ 136 → is_placed h ps ≡ true
under_none h [] e = eq-eqb h.kind 136 e
under_none h (p ∷ ps) e = or_right _ _ (under_none h ps e)

-- the condition under which a rule stands that matches a message holds of it
record Leads (h : RuleHandle) (m : MessageTree) (os : List Ownership) : Type 0 where
  pub key : Key
  pub value : List ℕ
  pub is_key : IsKey key
  pub kind : h.kind ≡ rank key
  pub hash : h.hash ≡ place_hash key value
  pub holds : HoldsAt key value m os

leads : (h : RuleHandle) (ps : List Pair) (m : MessageTree) (os : List Ownership) → is_placed h ps ≡ true → Matches ps m os → (h.kind ≡ 136) ⊎ Leads h m os
leads h [] m os t all = inl (eqb-true h.kind 136 t)
leads h (p ∷ ps) m os t all =
    ⊎_elim
    (λ u.
    let key = and_parts _ _ u in
    let place = and_parts _ _ key.1 in
    inr (record {
      key = p.key;
      value = p.value;
      is_key = is_key p.key (ltb-true (argument p.key) 64 key.0);
      kind = eqb-true h.kind (rank p.key) place.0;
      hash = eqb-true h.hash (place_hash p.key p.value) place.1;
      holds = all.0;
    }))
    (λ v. leads h ps m os v all.1)
    (or_cases (is_under h p) (is_placed h ps) t)

-- those of a kind that match have hashes of which H holds, as of those that its key leads to
module _ {A : Type 0} (as_bus : Bool) (m : MessageTree) (os : OwnerSet) (key : Key) (kind : ℕ) (H : ℕ → Type 0) (keyed : kind < 136 → IsKey key × (rank key ≡ kind)) (other : kind ≡ 136 → ⊥)
    (met : (v : List ℕ) → HoldsAt key v m (owners_in os) → H (place_hash key v)) where
  one_met : (e : RuleHandle × Rule A) → Stands e → EntryMatches as_bus m os e → e.0.kind ≡ kind → H e.0.hash
  one_met e stands matches is =
      ⊎_elim
      (λ n. absurd (other (sym is ∙ n)))
      (λ l.
      let b : e.0.kind < 137 = stands.0 in
      let below : kind < 136 = ⊎_elim (λ n. absurd (other n)) (λ d. omega (arith, b, is, d)) (cases_eq kind 136) in
      let k = keyed below in
      let same : l.key ≡ key = rank_same l.key key l.is_key k.0 (sym l.kind ∙ is ∙ sym k.1) in
      subst H (sym (l.hash ∙ ap (λ x. place_hash x l.value) same)) (met l.value (subst (λ x. HoldsAt x l.value m (owners_in os)) same l.holds)))
      (leads e.0 (rule_pairs e.1) m (owners_in os) stands.1 matches.1)

  pub have_met : (es : List (RuleHandle × Rule A)) → AllByRecursion Stands es → AllByRecursion (λ e. EntryMatches as_bus m os e → e.0.kind ≡ kind → H e.0.hash) es
  have_met [] all = tt
  have_met (e ∷ es) all = (λ p is. one_met e all.0 p is, have_met es all.1)

-- a text of a message, as it is seen
pub seen_text : {R : Type 0} (f : R → List ℕ) (r : Option R) (o : Option (List ℕ)) → MatchOption r (o ≡ None) (λ s. o ≡ Some (f s)) → option_map f r ≡ o
seen_text f None o h = sym h
seen_text f (Some x) o h = sym h

-- a header field's text, as it is seen
pub seen_field : {R : Type 0} (f : R → List ℕ) (k : TextCode) (r : Option R) (v : Option ValueTree) → MatchOption r (v ≡ None) (λ s. v ≡ Some (TextValue k (f s))) → option_map f r ≡ text_of v
seen_field f k None v h = sym (ap text_of h)
seen_field f k (Some x) v h = sym (ap text_of h)
