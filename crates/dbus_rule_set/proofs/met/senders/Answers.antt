use denote.Ref.{Bor}
use Rattle.std.proofs.Common.{rules, ◌≡◌, ◌⊎◌, ⊎_elim, inl, inr, ℕ, Bool, List, [], ◌∷◌, Option, Some, None, false, true, refl, sym, ap, ◌∙◌, subst, string_bytes}
use Rattle.std.specs.Prelude.{String}
use Rattle.std.specs.BTreeSet.{BTreeSet, contains_text}
use Rattle.std.specs.Cmp.Lexicographic.{slice_cmp}
use Rattle.std.specs.Map.Iter.{deref}
use Rattle.std.specs.Option.{option_map, option_map_or}
use Rattle.std.specs.Ordering.{is_eq, nat_cmp}
use Rattle.std.specs.declared.alloc.Global.{Global}
use Rattle.std.proofs.lemmas.Bool.{false≢true, or_cases}
use Rattle.std.proofs.lemmas.Map.Iter.{rest_all, rest_more}
use Rattle.std.proofs.lemmas.Map.Text.{is_eq-slice_cmp}
use Rattle.std.proofs.lemmas.Slice.Eq.{bytes_eq-Decides}
use Rattle.dbus_match.specs.Matching.{IsOwned, IsThere}
use Rattle.dbus_rule_set.specs.Owners.{owners_in}
use Rattle.dbus_rule_set.specs.Places.{IsAmong}
use Rattle.dbus_rule_set.specs.TextNumbers.{text_hash}
use Rattle.dbus_rule_set.proofs.GroupedTexts.{any_is}
use Rattle.dbus_rule_set.proofs.OwnerSets.{owned_in}
use Rattle.dbus_rule_set.proofs.met.senders.Goals as goal

-- the name is one of these
abbrev is_one : List ℕ → Option (Bor (BTreeSet (String Global))) → Bool
is_one v names = option_map_or (λ n. contains_text n.now v) names false

pub loop-name-init : goal.loop-name-init
loop-name-init c = record { own = c.only-hashes.ensures; owned = λ v o. inr o }

pub loop-name-preserved : goal.loop-name-preserved
loop-name-preserved c =
    let l = c.loop-name in
    let kept = c.note.ensures.kept in
    let rest = c.next.new.self in
    let name = c.in-Some-name.name.now in
    let hash = c.text_hash.ensures ∙ ap text_hash (c.as_bytes.ensures.value ∙ c.as_str.ensures.value) in
    let more = rest_more deref l.name-iterator rest c.next.result c.in-Some-name.name c.in-Some-name.is c.next.ensures.steps in
    record {
      own = λ v is. kept (text_hash v) (l.invariant.own v is);
      owned = λ v o.
          ⊎_elim
          (λ a. inl (kept (text_hash v) a))
          (λ k. ⊎_elim
          (λ e.
          let same : v ≡ string_bytes name = (bytes_eq-Decides v (string_bytes name)).0 (sym (is_eq-slice_cmp v (string_bytes name)) ∙ e) in
          inl (subst (λ h. IsAmong h c.note.new.hashes.items) (hash ∙ ap text_hash (sym same)) (c.in_ok-note.ensures.noted refl)))
          (λ left. inr left)
          (or_cases (is_eq (slice_cmp nat_cmp v (string_bytes name))) (any_is v rest) (subst (λ xs. any_is v xs ≡ true) more k)))
          (l.invariant.owned v o);
    }

pub returns : goal.returns
returns c = λ v there.
    let l = c.loop-name in
    let os = c.args.owners.now in
    let unique = c.in-Some.unique.now in
    let names = c.in-Some-of.names.now in
    let none : l.name-iterator ≡ [] = rest_all deref l.name-iterator c.next.new.self c.next.result c.in-None.is c.next.ensures.steps in
    let all : c.into_iter-name-iterator.result ≡ names.keys = search rules in
    let at : (v ≡ unique) ⊎ IsOwned (owners_in os) v unique =
    subst (λ (o : Option (Bor (List ℕ))). IsThere (option_map (λ s. s.now) o) (λ w. (v ≡ w) ⊎ IsOwned (owners_in os) v w)) c.in-Some.is there in
    ⊎_elim
    (λ e. l.invariant.own v (subst (λ (o : Option (Bor (List ℕ))). IsThere (option_map (λ s. s.now) o) (λ w. v ≡ w)) (sym c.in-Some.is) e))
    (λ o.
    let is : is_one v c.of.result ≡ true = c.of.ensures v ∙ (owned_in os v unique).0 o in
    let one : contains_text names v ≡ true = subst (λ (n : Option (Bor (BTreeSet (String Global)))). is_one v n ≡ true) c.in-Some-of.is is in
    ⊎_elim
    (λ a. a)
    (λ left. absurd (false≢true (subst (λ xs. any_is v xs ≡ true) none left)))
    (l.invariant.owned v (subst (λ xs. any_is v xs ≡ true) (sym all) one)))
    at

pub returns-in_default-of : goal.returns-in_default-of
returns-in_default-of c = λ v there.
    let os = c.args.owners.now in
    let unique = c.in-Some.unique.now in
    let at : (v ≡ unique) ⊎ IsOwned (owners_in os) v unique =
    subst (λ (o : Option (Bor (List ℕ))). IsThere (option_map (λ s. s.now) o) (λ w. (v ≡ w) ⊎ IsOwned (owners_in os) v w)) c.in-Some.is there in
    ⊎_elim
    (λ e. c.only-hashes.ensures v (subst (λ (o : Option (Bor (List ℕ))). IsThere (option_map (λ s. s.now) o) (λ w. v ≡ w)) (sym c.in-Some.is) e))
    (λ o.
    let is : is_one v c.of.result ≡ true = c.of.ensures v ∙ (owned_in os v unique).0 o in
    absurd (false≢true (subst (λ (n : Option (Bor (BTreeSet (String Global)))). is_one v n ≡ true) c.in_default-of.is is)))
    at
