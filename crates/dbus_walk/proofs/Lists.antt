-- Values one after another, and elements of an array: the first of them, and the others.
use Rattle.std.proofs.Common.{◌≡◌, ℕ, ◌+◌, ◌-◌, ◌<◌, ◌≤◌, List, ◌++◌, length, take, drop, true, refl, sym, ap, subst, ◌∙◌, arith, append_assoc}
use Rattle.std.proofs.lemmas.List.{length-append, take_at, drop_at, drop-drop}
use Rattle.dbus_texts.specs.Types.{sig, sigs, IsShaped}
use Rattle.dbus_value_model.specs.declared.order.Order.{Order}
use Rattle.dbus_value_model.specs.Spelling.{spelling, spellings}
use Rattle.dbus_value_model.specs.Values.{ValueTree, ValueTrees, NoValues, MoreValues, type_of, types_of}
use Rattle.dbus_value_laws.proofs.ValueSteps.{shaped_inside}
use Rattle.dbus_types.specs.SignatureCodes.{IsTypeEnd}
use Rattle.dbus_walk.specs.Standing.{Stands, AllStand, ElementsStand}
use Rattle.dbus_walk.proofs.Parts.{there_within, stands_after, stands_positive}

-- the first value of some, and those after it
module _ (order : Order) (place : ℕ) (bytes : List ℕ) (v : ValueTree) (us : ValueTrees) (rest : List ℕ) (spelled : drop place bytes ≡ spellings order place (MoreValues v us) ++ rest) where
  abbrev after : ℕ
  after = place + length (spelling order place v)

  first_spelled : drop place bytes ≡ spelling order place v ++ (spellings order after us ++ rest)
  unfolding spellings
  first_spelled = spelled ∙ append_assoc (spelling order place v) (spellings order after us) rest

  others_spelled : drop after bytes ≡ spellings order after us ++ rest
  others_spelled = stands_after place after (spelling order place v) (spellings order after us ++ rest) bytes first_spelled refl

  first_within : IsShaped true (type_of v) → after ≤ length bytes
  first_within shaped = there_within place (spelling order place v) (spellings order after us ++ rest) bytes first_spelled (stands_positive order v place shaped)

-- ---- elements of an array

pub none_ends : {order : Order} {depth_left : ℕ} {types : List ℕ} {place end : ℕ} {bytes rest : List ℕ} → ElementsStand order depth_left types place end bytes NoValues rest → end ≡ place
unfolding spellings
none_ends e = omega (arith, e.ends)

module _ {order : Order} {depth_left : ℕ} {types : List ℕ} {place end : ℕ} {bytes : List ℕ} {v : ValueTree} {us : ValueTrees} {rest : List ℕ}
    (e : ElementsStand order depth_left types place end bytes (MoreValues v us) rest) where
  pub first_element : Stands order depth_left types place bytes v (spellings order (place + length (spelling order place v)) us ++ rest)
  first_element = record {
    text = ap sig e.all.0 ∙ e.text;
    shaped = subst (IsShaped true) (sym e.all.0) e.shaped;
    formed = e.formed.0;
    array = e.array;
    small = e.small;
    within = e.within.0;
    spelled = first_spelled order place bytes v us rest e.spelled;
  }

  pub other_elements : ElementsStand order depth_left types (place + length (spelling order place v)) end bytes us rest
  unfolding spellings
  other_elements = record {
    type = e.type;
    text = e.text;
    shaped = e.shaped;
    all = e.all.1;
    formed = e.formed.1;
    array = e.array;
    small = e.small;
    within = e.within.1;
    spelled = others_spelled order place bytes v us rest e.spelled;
    ends = omega (arith, e.ends, length-append (spelling order place v) (spellings order (place + length (spelling order place v)) us));
    inside = first_within order place bytes v us rest e.spelled (subst (IsShaped true) (sym e.all.0) e.shaped);
  }

  pub some_ends : place + length (spelling order place v) ≤ end
  unfolding spellings
  some_ends = omega (arith, e.ends, length-append (spelling order place v) (spellings order (place + length (spelling order place v)) us))

-- the first of some elements, and the others
pub record FirstElement (order : Order) (depth_left : ℕ) (types : List ℕ) (place end : ℕ) (bytes rest : List ℕ) (vs : ValueTrees) : Type 0 where
  pub v : ValueTree
  pub us : ValueTrees
  pub begins : vs ≡ MoreValues v us
  pub stands : Stands order depth_left types place bytes v (spellings order (place + length (spelling order place v)) us ++ rest)
  pub some : 0 < length (spelling order place v)
  pub inside : place + length (spelling order place v) ≤ end
  pub others : ElementsStand order depth_left types (place + length (spelling order place v)) end bytes us rest

module _ {order : Order} {depth_left : ℕ} {types : List ℕ} {place end : ℕ} {bytes rest : List ℕ} where
  pub element_of : (vs : ValueTrees) → ElementsStand order depth_left types place end bytes vs rest → (place ≡ end → ⊥) → FirstElement order depth_left types place end bytes rest vs
  element_of NoValues e some = absurd (some (sym (none_ends e)))
  element_of (MoreValues v us) e some =
      let s = first_element e in
      record { v = v; us = us; begins = refl; stands = s; some = stands_positive order v place s.shaped; inside = some_ends e; others = other_elements e }

  pub no_elements : (vs : ValueTrees) → ElementsStand order depth_left types place end bytes vs rest → end ≤ place → vs ≡ NoValues
  no_elements NoValues e le = refl
  no_elements (MoreValues v us) e le = absurd (omega (arith, le, some_ends e, stands_positive order v place (first_element e).shaped))

-- ---- values of some types

module _ {order : Order} {depth_left place : ℕ} {bytes : List ℕ} {v : ValueTree} {us : ValueTrees} {rest : List ℕ} (types : List ℕ) (pos next : ℕ) (is : IsTypeEnd types pos next)
    (a : AllStand order depth_left (drop pos types) place bytes (MoreValues v us) rest) where
  -- the first one's type, and those of the others
  types_apart : (sig (type_of v) ≡ take (next - pos) (drop pos types)) × (sigs (types_of us) ≡ drop next types)
  types_apart =
      let t = sig (type_of v) in
      let there : next ≡ pos + length t = is (type_of v) (sigs (types_of us)) (sym a.text) in
      let long : next - pos ≡ length t = omega (arith, there) in
      let front : take (length t) (drop pos types) ≡ t = ap (take (length t)) (sym a.text) ∙ take_at t (sigs (types_of us)) (length t) refl in
      let left : drop (length t) (drop pos types) ≡ sigs (types_of us) = ap (drop (length t)) (sym a.text) ∙ drop_at t (sigs (types_of us)) (length t) refl in
      (sym front ∙ ap (λ (m : ℕ). take m (drop pos types)) (sym long), sym left ∙ drop-drop (length t) pos types ∙ ap (λ (m : ℕ). drop m types) (sym there))

  pub first_value : Stands order depth_left (take (next - pos) (drop pos types)) place bytes v (spellings order (place + length (spelling order place v)) us ++ rest)
  first_value = record {
    text = types_apart.0;
    shaped = shaped_inside (type_of v) a.shaped.0;
    formed = a.formed.0;
    array = a.array;
    small = a.small;
    within = a.within.0;
    spelled = first_spelled order place bytes v us rest a.spelled;
  }

  pub other_values : AllStand order depth_left (drop next types) (place + length (spelling order place v)) bytes us rest
  other_values = record {
    text = types_apart.1;
    shaped = a.shaped.1;
    formed = a.formed.1;
    array = a.array;
    small = a.small;
    within = a.within.1;
    spelled = others_spelled order place bytes v us rest a.spelled;
    inside = first_within order place bytes v us rest a.spelled (shaped_inside (type_of v) a.shaped.0);
  }
