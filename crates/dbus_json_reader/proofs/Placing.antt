-- Header fields with their places, and the row that they are.
use Rattle.std.proofs.Common.{◌≡◌, ℕ, zero, suc, ◌+◌, ◌<◌, ltb, Bool, not, cond, List, [], ◌∷◌, length, get_or, drop, map, filter, IsTrue, Option, Some, None, inl, inr, refl, sym, ap, ◌∙◌, subst, arith}
use Rattle.std.proofs.lemmas.Bool.{cases_Bool, lt-ltb, le-ltb}
use Rattle.std.proofs.lemmas.Bool.{and_parts, and_from}
use Rattle.std.proofs.lemmas.List.{drop_more, length-map}
use Rattle.std.specs.List.{AllZip, enumerate_from, list_any, insert}
use Rattle.json.specs.Json as json
use Rattle.json.specs.Json.{Json, Items, item, no_items}
use Rattle.json.specs.Value.{items_of, value_view}
use Rattle.json.specs.declared.value.Value.{Value}
use Rattle.dbus_value_model.specs.PackedBytes.{keeps_bytes, keep_bytes}
use Rattle.dbus_message_model.specs.Messages.{FieldTree, is_known}
use Rattle.dbus_message_model.specs.PackedParts.{field_values}
use Rattle.dbus_message_model.specs.PartsViews.{field_tree, field_trees}
use Rattle.dbus_message_model.specs.declared.header_field.HeaderField.{HeaderField}
use Rattle.dbus_json.specs.declared.integers.Integers.{Integers}
use Rattle.dbus_json.specs.JsonMessages.{other_fields, is_before_known}
use Rattle.dbus_json_reader.specs.JsonMessages.{IsOther}
use Rattle.dbus_json_reader.specs.JsonParts.{IsOtherField, AreFormedFields, AreReadFields}
use Rattle.dbus_json_reader.proofs.Merging.{Mixed}
use Rattle.dbus_json_reader.proofs.Shapes.{arrays_same}

abbrev pub Placed : Type 0
Placed = ℕ × FieldTree

abbrev pub field_of : Placed → FieldTree
field_of p = p.1

abbrev is_known_at : Placed → Bool
is_known_at p = is_known p.1.code

abbrev is_other_at : Placed → Bool
is_other_at p = not (is_known p.1.code)

-- the known fields among these, of which the first has this place
abbrev knowns : ℕ → List FieldTree → List FieldTree
knowns n fs = map field_of (filter is_known_at (enumerate_from n fs))

abbrev others : ℕ → List FieldTree → List Placed
others n fs = filter is_other_at (enumerate_from n fs)

abbrev some_known : List FieldTree → Bool
some_known fs = list_any (λ (f : FieldTree). is_known f.code) fs

abbrev AreSpelled : (integers : Integers) → (ℕ → Bool) → List Placed → List Json → Type 0
AreSpelled integers before ps js = AllZip (λ p j. IsOther integers (before p.0) p.0 p.1 j) ps js

-- a known field is among them if it is one of the known ones
some_is : (n m : ℕ) (fs : List FieldTree) → some_known fs ≡ ltb n (n + length (knowns m fs))
some_is n m [] = sym (le-ltb n (n + 0) (omega arith))
some_is n m (f ∷ fs) =
    elim (cases_Bool (is_known f.code)) [
      | inl e ↦ rw (e) (sym (lt-ltb n (n + suc (length (knowns (m + 1) fs))) (omega arith)))
      | inr e ↦ rw (e) (some_is n (m + 1) fs)
    ]

-- the first of two rows
pub record IsFirst (integers : Integers) (before : ℕ → Bool) (p : Placed) (ps : List Placed) (js : List Json) : Type 0 where
  pub j : Json
  pub more : List Json
  pub is : js ≡ j ∷ more
  pub one : IsOther integers (before p.0) p.0 p.1 j
  pub rest : AreSpelled integers before ps more

first_of_them : (integers : Integers) (before : ℕ → Bool) (p : Placed) (ps : List Placed) (js : List Json) → AreSpelled integers before (p ∷ ps) js → IsFirst integers before p ps js
first_of_them integers before p ps [] h = absurd h
first_of_them integers before p ps (j ∷ js) h = record { j = j; more = js; is = refl; one = h.0; rest = h.1 }

no_objects : (integers : Integers) (before : ℕ → Bool) (js : List Json) → AreSpelled integers before [] js → js ≡ []
no_objects integers before [] h = refl
no_objects integers before (j ∷ js) h = absurd h

-- whether a known one is behind each place
abbrev Behind : (ℕ → Bool) → ℕ → List FieldTree → Type 0
Behind before n fs = (k : ℕ) → before (n + k) ≡ some_known (drop (suc k) fs)

behind_more : (before : ℕ → Bool) (n : ℕ) (f : FieldTree) (fs : List FieldTree) → Behind before n (f ∷ fs) → Behind before (n + 1) fs
behind_more before n f fs h k = ap before (omega arith) ∙ h (suc k)

behind_first : (before : ℕ → Bool) (n : ℕ) (f : FieldTree) (fs : List FieldTree) → Behind before n (f ∷ fs) → before n ≡ ltb n (n + length (knowns (n + 1) fs))
behind_first before n f fs h = ap before (omega arith) ∙ h 0 ∙ some_is n (n + 1) fs

-- a row by places is a row one by one
to_mixed : (integers : Integers) (depth : ℕ) (before : ℕ → Bool) (n : ℕ) (fs : List FieldTree) (ks : List FieldTree) (js : List Json) → Behind before n fs → knowns n fs ≡ ks → AreSpelled integers before (others n fs) js → AreFormedFields depth (others n fs) → Mixed integers depth n ks js fs
to_mixed integers depth before n [] ks js behind known spelled formed = (sym known, no_objects integers before js spelled)
to_mixed integers depth before n (f ∷ fs) ks js behind known spelled formed =
    let ps = filter is_known_at (enumerate_from (n + 1) fs) in
    let os = others (n + 1) fs in
    elim (cases_Bool (is_known f.code)) [
      | inl e ↦ (
          let is : ks ≡ f ∷ map field_of ps = sym known ∙ ap (λ (b : Bool). map field_of (cond b ((n, f) ∷ ps) ps)) e in
          let spells = subst (λ (b : Bool). AreSpelled integers before (cond b ((n, f) ∷ os) os) js) (ap not e) spelled in
          let forms = subst (λ (b : Bool). AreFormedFields depth (cond b ((n, f) ∷ os) os)) (ap not e) formed in
          inl (map field_of ps, e, is, to_mixed integers depth before (n + 1) fs (map field_of ps) js (behind_more before n f fs behind) refl spells forms)
          )
      | inr e ↦ (
          let is : map field_of ps ≡ ks = sym (ap (λ (b : Bool). map field_of (cond b ((n, f) ∷ ps) ps)) e) ∙ known in
          let spells : AreSpelled integers before ((n, f) ∷ os) js = subst (λ (b : Bool). AreSpelled integers before (cond b ((n, f) ∷ os) os) js) (ap not e) spelled in
          let forms : AreFormedFields depth ((n, f) ∷ os) = subst (λ (b : Bool). AreFormedFields depth (cond b ((n, f) ∷ os) os)) (ap not e) formed in
          let r = first_of_them integers before (n, f) os js spells in
          let told : before n ≡ ltb n (n + length ks) = behind_first before n f fs behind ∙ ap (λ (gs : List FieldTree). ltb n (n + length gs)) is in
          let one : IsOtherField integers depth (n + length ks) n f r.j = record { unknown = e; within = omega arith; formed = forms.0; spelled = subst (λ (b : Bool). IsOther integers b n f r.j) told r.one } in
          inr (r.j, r.more, r.is, one, to_mixed integers depth before (n + 1) fs ks r.more (behind_more before n f fs behind) is r.rest forms.1)
          )
    ]

-- and back
pub record IsRow (integers : Integers) (depth : ℕ) (before : ℕ → Bool) (n : ℕ) (fs ks : List FieldTree) (js : List Json) : Type 0 where
  pub known : knowns n fs ≡ ks
  pub spelled : AreSpelled integers before (others n fs) js
  pub formed : AreFormedFields depth (others n fs)

from_mixed : (integers : Integers) (depth : ℕ) (before : ℕ → Bool) (n : ℕ) (fs : List FieldTree) (ks : List FieldTree) (js : List Json) → Behind before n fs → Mixed integers depth n ks js fs → IsRow integers depth before n fs ks js
from_mixed integers depth before n [] ks js behind h = record { known = sym h.0; spelled = subst (λ (is : List Json). AreSpelled integers before [] is) (sym h.1) tt; formed = tt }
from_mixed integers depth before n (f ∷ fs) ks js behind (inl h) =
    let ps = filter is_known_at (enumerate_from (n + 1) fs) in
    let os = others (n + 1) fs in
    let e = h.1 in
    let r = from_mixed integers depth before (n + 1) fs h.0 js (behind_more before n f fs behind) h.3 in
    record {
      known = ap (λ (b : Bool). map field_of (cond b ((n, f) ∷ ps) ps)) e ∙ ap (λ (gs : List FieldTree). f ∷ gs) r.known ∙ sym h.2;
      spelled = subst (λ (b : Bool). AreSpelled integers before (cond b ((n, f) ∷ os) os) js) (sym (ap not e)) r.spelled;
      formed = subst (λ (b : Bool). AreFormedFields depth (cond b ((n, f) ∷ os) os)) (sym (ap not e)) r.formed;
    }
from_mixed integers depth before n (f ∷ fs) ks js behind (inr h) =
    let ps = filter is_known_at (enumerate_from (n + 1) fs) in
    let os = others (n + 1) fs in
    let e = h.3.unknown in
    let r = from_mixed integers depth before (n + 1) fs ks h.1 (behind_more before n f fs behind) h.4 in
    let told : before n ≡ ltb n (n + length ks) = behind_first before n f fs behind ∙ ap (λ (gs : List FieldTree). ltb n (n + length gs)) r.known in
    let one : IsOther integers (before n) n f h.0 = subst (λ (b : Bool). IsOther integers b n f h.0) (sym told) h.3.spelled in
    let both : AreSpelled integers before ((n, f) ∷ os) (h.0 ∷ h.1) = (one, r.spelled) in
    record {
      known = ap (λ (b : Bool). map field_of (cond b ((n, f) ∷ ps) ps)) e ∙ r.known;
      spelled = subst (λ (is : List Json). AreSpelled integers before (cond (not (is_known f.code)) ((n, f) ∷ os) os) is) (sym h.2) (subst (λ (b : Bool). AreSpelled integers before (cond b ((n, f) ∷ os) os) (h.0 ∷ h.1)) (sym (ap not e)) both);
      formed = subst (λ (b : Bool). AreFormedFields depth (cond b ((n, f) ∷ os) os)) (sym (ap not e)) (h.3.formed, r.formed);
    }

-- ---- the fields of a message

all_behind : (fs : List FieldTree) → Behind (is_before_known fs) 0 fs
all_behind fs k = ap (is_before_known fs) (omega arith)

one_more : (i j : Json) (is js : Items) → item i is ≡ item j js → (i ≡ j) × (is ≡ js)
one_more i j is js e = (cc, cc)

none_more : (i : Json) (is : Items) → no_items ≡ item i is → ⊥
none_more i is e = cc

pub items_same : (is js : List Json) → items_of is ≡ items_of js → is ≡ js
items_same [] [] e = refl
items_same [] (j ∷ js) e = absurd (none_more _ _ e)
items_same (i ∷ is) [] e = absurd (none_more _ _ (sym e))
items_same (i ∷ is) (j ∷ js) e = let more = one_more _ _ _ _ e in ap (λ (k : Json). k ∷ is) more.0 ∙ ap (λ (ks : List Json). j ∷ ks) (items_same is js more.1)

module _ (integers : Integers) (depth : ℕ) (ks : List FieldTree) (told : Option Json) (j : Json) (js : List Json) (here : told ≡ Some j) (is : j ≡ json.array (items_of js)) where
  pub row_read : (fs : List FieldTree) → Mixed integers depth 0 ks js fs → AreReadFields integers depth ks told fs
  row_read fs h =
      let r = from_mixed integers depth (is_before_known fs) 0 fs ks js (all_behind fs) h in
      subst (λ (o : Option Json). AreReadFields integers depth ks o fs) (sym here) (record { knowns = r.known; others = (js, is, r.spelled); formed = r.formed })

  pub read_row : (fs : List FieldTree) → AreReadFields integers depth ks told fs → Mixed integers depth 0 ks js fs
  read_row fs h =
      let r = subst (λ (o : Option Json). AreReadFields integers depth ks o fs) here h in
      let same = items_same r.others.0 js (arrays_same _ _ (sym r.others.1 ∙ is)) in
      to_mixed integers depth (is_before_known fs) 0 fs ks js (all_behind fs) r.knowns (subst (AreSpelled integers (is_before_known fs) (other_fields fs)) same r.others.2) r.formed

-- no objects are told
module _ (integers : Integers) (depth : ℕ) (ks : List FieldTree) (told : Option Json) (here : told ≡ None) where
  pub read_known : (fs : List FieldTree) → AreReadFields integers depth ks told fs → Mixed integers depth 0 ks [] fs
  read_known fs h =
      let r = subst (λ (o : Option Json). AreReadFields integers depth ks o fs) here h in
      to_mixed integers depth (is_before_known fs) 0 fs ks [] (all_behind fs) r.knowns (subst (λ (ps : List Placed). AreSpelled integers (is_before_known fs) ps []) (sym r.others) tt) r.formed

  -- then there are no others
  none_of : (before : ℕ → Bool) (ps : List Placed) → AreSpelled integers before ps [] → ps ≡ []
  none_of before [] h = refl
  none_of before (p ∷ ps) h = absurd h

  pub known_read : (fs : List FieldTree) → Mixed integers depth 0 ks [] fs → AreReadFields integers depth ks told fs
  known_read fs h =
      let r = from_mixed integers depth (is_before_known fs) 0 fs ks [] (all_behind fs) h in
      subst (λ (o : Option Json). AreReadFields integers depth ks o fs) (sym here) (record { knowns = r.known; others = none_of _ _ r.spelled; formed = r.formed })

-- what is told is no array
pub no_row : (integers : Integers) (depth : ℕ) (ks : List FieldTree) (told : Option Json) (j : Json) → told ≡ Some j → ((js : Items) → json.array js ≡ j → ⊥) → (fs : List FieldTree) → AreReadFields integers depth ks told fs → ⊥
no_row integers depth ks told j here none fs h =
    let r = subst (λ (o : Option Json). AreReadFields integers depth ks o fs) here h in
    none (items_of r.others.0) (sym r.others.1)

-- ---- lists of values and of fields

pub json_at : {A : Type 0} (l : List (Value A)) (i : ℕ) (x : Value A) → i < length l → x ≡ get_or l i x → map value_view (drop i l) ≡ value_view x ∷ map value_view (drop (i + 1) l)
json_at {A} l i x within is = ap (map value_view) (drop_more l i x within) ∙ ap (λ (y : Value A). value_view y ∷ map value_view (drop (i + 1) l)) (sym is)

pub trees_long : {A : Type 0} (fs : List (HeaderField A)) → length (field_trees fs) ≡ length fs
trees_long fs = length-map fs field_tree

pub trees_put : {A : Type 0} (fs : List (HeaderField A)) (p : ℕ) (f : HeaderField A) → field_trees (insert fs p f) ≡ insert (field_trees fs) p (field_tree f)
trees_put fs zero f = refl
trees_put [] (suc p) f = refl
trees_put (g ∷ fs) (suc p) f = ap (λ (gs : List FieldTree). field_tree g ∷ gs) (trees_put fs p f)

pub values_put : {A : Type 0} (fs : List (HeaderField A)) (p : ℕ) (f : HeaderField A) → IsTrue (keep_bytes (field_values fs)) → IsTrue (keeps_bytes f.value) → IsTrue (keep_bytes (field_values (insert fs p f)))
values_put fs zero f h k = and_from _ _ k h
values_put [] (suc p) f h k = and_from _ _ k refl
values_put (g ∷ fs) (suc p) f h k = let both = and_parts _ _ h in and_from _ _ both.0 (values_put fs p f both.1 k)
