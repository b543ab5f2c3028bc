use denote.Ref.{Bor}
use Rattle.std.proofs.Common.{rules, ◌≡◌, ⊎_elim, ℕ, Bool, List, [], Option, false, true, refl, sym, ◌∙◌, subst, string_bytes}
use Rattle.std.specs.Prelude.{String}
use Rattle.std.specs.BTreeSet.{BTreeSet, contains_text}
use Rattle.std.specs.Map.Iter.{deref}
use Rattle.std.specs.Option.{option_map_or}
use Rattle.std.specs.declared.alloc.Global.{Global}
use Rattle.std.proofs.lemmas.Bool.{false≢true, or_cases, or_left, or_right}
use Rattle.std.proofs.lemmas.Map.Iter.{rest_all, rest_more}
use Rattle.std.proofs.lemmas.Map.Text.{is_eq-slice_cmp}
use Rattle.std.proofs.lemmas.Slice.Eq.{bytes_eq-Decides}
use Rattle.dbus_match.specs.TakenFor.{Names}
use Rattle.dbus_rule_set.specs.Owners.{owners_in}
use Rattle.dbus_rule_set.proofs.GroupedTexts.{any_is}
use Rattle.dbus_rule_set.proofs.OwnerSets.{owned_in}
use Rattle.dbus_rule_set.proofs.known_owners.shares.Goals as goal

-- the owner is one of these
abbrev is_one : List ℕ → Option (Bor (BTreeSet (String Global))) → Bool
is_one u uniques = option_map_or (λ s. contains_text s.now u) uniques false

pub returns-in_default : goal.returns-in_default
returns-in_default c = (
  λ t. absurd (false≢true t),
  λ h. absurd (false≢true (subst (λ (o : Option (Bor (BTreeSet (String Global)))). is_one h.0 o ≡ true) c.in_default.is (c.by.ensures h.0 ∙ (owned_in c.args.owners.now c.args.name.now h.0).0 h.1))),
)

pub loop-unique-init : goal.loop-unique-init
loop-unique-init c =
    let all : c.into_iter-unique-iterator.result ≡ c.in-Some.uniques.now.keys = search rules in
    let owned = owned_in c.args.owners.now c.args.name.now in
    record {
      own = λ u h. (owned u).1 (sym (c.by.ensures u) ∙ subst (λ (o : Option (Bor (BTreeSet (String Global)))). is_one u o ≡ true) (sym c.in-Some.is) (subst (λ xs. any_is u xs ≡ true) all h));
      left = λ u o n. subst (λ xs. any_is u xs ≡ true) (sym all) (subst (λ (o : Option (Bor (BTreeSet (String Global)))). is_one u o ≡ true) c.in-Some.is (c.by.ensures u ∙ (owned u).0 o));
    }

pub returns-then-names : goal.returns-then-names
returns-then-names c =
    let l = c.loop-unique in
    let u = string_bytes c.in-Some-unique.unique.now in
    let more = rest_more deref l.unique-iterator c.next.new.self c.next.result c.in-Some-unique.unique c.in-Some-unique.is c.next.ensures.steps in
    let here = or_left _ _ (is_eq-slice_cmp u u ∙ (bytes_eq-Decides u u).1 refl) in
    (λ t. (u, l.invariant.own u (subst (λ xs. any_is u xs ≡ true) (sym more) here), subst (λ x. Names (owners_in c.args.owners.now) c.args.other.now x) c.as_str.ensures.value (c.names.ensures.0 c.if-names.true)), λ h. refl)

pub loop-unique-preserved : goal.loop-unique-preserved
loop-unique-preserved c =
    let l = c.loop-unique in
    let x = c.in-Some-unique.unique.now in
    let more = rest_more deref l.unique-iterator c.next.new.self c.next.result c.in-Some-unique.unique c.in-Some-unique.is c.next.ensures.steps in
    record {
      own = λ u h. l.invariant.own u (subst (λ xs. any_is u xs ≡ true) (sym more) (or_right _ _ h));
      left = λ u o n.
          ⊎_elim
          (λ e.
          let same : u ≡ string_bytes x = (bytes_eq-Decides u (string_bytes x)).0 (sym (is_eq-slice_cmp u (string_bytes x)) ∙ e) in
          absurd (false≢true (sym c.if-names.false ∙ c.names.ensures.1 (subst (λ w. Names (owners_in c.args.owners.now) c.args.other.now w) (same ∙ sym c.as_str.ensures.value) n))))
          (λ r. r)
          (or_cases _ (any_is u c.next.new.self) (subst (λ xs. any_is u xs ≡ true) more (l.invariant.left u o n)));
    }

pub returns : goal.returns
returns c =
    let l = c.loop-unique in
    let none : l.unique-iterator ≡ [] = rest_all deref l.unique-iterator c.next.new.self c.next.result c.in-None.is c.next.ensures.steps in
    (λ t. absurd (false≢true t), λ h. absurd (false≢true (subst (λ xs. any_is h.0 xs ≡ true) none (l.invariant.left h.0 h.1 h.2))))
