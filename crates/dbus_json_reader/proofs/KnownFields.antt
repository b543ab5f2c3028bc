-- Known header fields that are read one after another.
use Rattle.std.proofs.Common.{◌≡◌, ℕ, Bool, true, false, not, ◌||◌, cond, inl, inr, List, [], ◌∷◌, ◌++◌, IsTrue, refl, sym, ap, ◌∙◌, subst, ◌+◌, ◌<◌, length, get_or, take, drop, filter}
use Rattle.std.proofs.lemmas.Bool.{and_from, cases_Bool}
use Rattle.std.proofs.lemmas.List.{append-nil, map-append}
use Rattle.std.proofs.lemmas.List.Elements.{filter-append}
use Rattle.std.specs.List.{AllZip, list_all}
use Rattle.json.specs.Json.{Json, Members, no_members, member}
use Rattle.json.specs.Strict.{keys}
use Rattle.json.specs.Value.{value_view, members_view}
use Rattle.json.specs.declared.value.Value.{Value}
use Rattle.dbus_value_model.specs.PackedBytes.{keeps_bytes, keep_bytes}
use Rattle.dbus_value_model.proofs.Formed.{keep_push}
use Rattle.dbus_message_model.specs.Messages.{FieldTree}
use Rattle.dbus_message_model.specs.PackedParts.{field_values}
use Rattle.dbus_message_model.specs.PartsViews.{field_tree, field_trees}
use Rattle.dbus_message_model.specs.declared.header_field.HeaderField.{HeaderField}
use Rattle.dbus_json.specs.declared.integers.Integers.{Integers}
use Rattle.dbus_json_reader.specs.JsonMessages.{is_among, plain_names, field_members, named_values}
use Rattle.dbus_json_reader.specs.JsonNames.{known_names, message_names}
use Rattle.dbus_json_reader.specs.JsonParts.{IsKnownField, AreAllKnown}
use Rattle.dbus_json_reader.proofs.MemberNames.{parts_at, values_more}
use Rattle.dbus_json_reader.proofs.TokenCounts.{Key}
use Rattle.dbus_json_reader.proofs.KnownNames.{of_message, one_known, some_field}

abbrev pub AreRead : (integers : Integers) → ℕ → List FieldTree → Members → Type 0
AreRead integers depth fs ms = AllZip (IsKnownField integers depth) fs (field_members ms)

record IsFirst (integers : Integers) (depth : ℕ) (fs : List FieldTree) (m : List ℕ × Json) (ms : List (List ℕ × Json)) : Type 0 where
  f : FieldTree
  one : IsKnownField integers depth f m
  gs : List FieldTree
  rest : AllZip (IsKnownField integers depth) gs ms

first_of : (integers : Integers) (depth : ℕ) (fs : List FieldTree) (m : List ℕ × Json) (ms : List (List ℕ × Json)) → AllZip (IsKnownField integers depth) fs (m ∷ ms) → IsFirst integers depth fs m ms
first_of integers depth [] m ms h = absurd h
first_of integers depth (f ∷ fs) m ms h = record { f = f; one = h.0; gs = fs; rest = h.1 }

plain_same : (name : List ℕ) (j : Json) (rest : Members) → is_among plain_names name ≡ true → field_members (member name j rest) ≡ field_members rest
plain_same name j rest e = ap (λ (b : Bool). cond (not b) ((name, j) ∷ field_members rest) (field_members rest)) e

field_next : (name : List ℕ) (j : Json) (rest : Members) → is_among plain_names name ≡ false → field_members (member name j rest) ≡ (name, j) ∷ field_members rest
field_next name j rest e = ap (λ (b : Bool). cond (not b) ((name, j) ∷ field_members rest) (field_members rest)) e

-- each member has a name that a message's may have
pub all_named : (integers : Integers) (depth : ℕ) (fs : List FieldTree) (ms : Members) → AreRead integers depth fs ms → list_all (is_among message_names) (keys ms) ≡ true
all_named integers depth fs no_members h = refl
all_named integers depth fs (member name j ms) h =
    elim (cases_Bool (is_among plain_names name)) [
      | inl e ↦ and_from _ _ (of_message name ∙ ap (λ (b : Bool). b || is_among known_names name) e) (all_named integers depth fs ms (subst (λ (l : List (List ℕ × Json)). AllZip (IsKnownField integers depth) fs l) (plain_same name j ms e) h))
      | inr e ↦ (
          let p = first_of integers depth fs (name, j) (field_members ms) (subst (λ (l : List (List ℕ × Json)). AllZip (IsKnownField integers depth) fs l) (field_next name j ms e) h) in
          and_from _ _ (of_message name ∙ ap (λ (b : Bool). b || is_among known_names name) e ∙ some_field name p.f.code p.one.known p.one.named) (all_named integers depth p.gs ms p.rest)
          )
    ]

-- ---- the members up to an index

pub begins : (integers : Integers) (depth : ℕ) (fs : List FieldTree) → fs ≡ [] → AreRead integers depth fs no_members
begins integers depth fs none = subst (λ (gs : List FieldTree). AreRead integers depth gs no_members) (sym none) tt

zip_push : {A B : Type 0} (R : A → B → Type 0) (xs : List A) (ys : List B) (x : A) (y : B) → AllZip R xs ys → R x y → AllZip R (xs ++ x ∷ []) (ys ++ y ∷ [])
zip_push R [] [] x y h r = (r, tt)
zip_push R [] (b ∷ ys) x y h r = absurd h
zip_push R (a ∷ xs) [] x y h r = absurd h
zip_push R (a ∷ xs) (b ∷ ys) x y h r = (h.0, zip_push R xs ys x y h.1 r)

zip_at : {A B : Type 0} (R : A → B → Type 0) (xs : List A) (before after : List B) (y : B) → AllZip R xs (before ++ y ∷ after) → (x : A) × R x y
zip_at R [] [] after y h = absurd h
zip_at R (x ∷ xs) [] after y h = (x, h.0)
zip_at R [] (b ∷ before) after y h = absurd h
zip_at R (x ∷ xs) (b ∷ before) after y h = zip_at R xs before after y h.1

abbrev is_field_member : List ℕ × Json → Bool
is_field_member m = not (is_among plain_names m.0)

module _ {A : Type 0} (ms : List (Key × Value A)) (i : ℕ) (m : Key × Value A) (within : i < length ms) (is : m ≡ get_or ms i m) where
  abbrev here : List ℕ × Json
  here = (m.0.now, value_view m.1)

  more : (b : Bool) → is_field_member here ≡ b → field_members (members_view (take (i + 1) ms)) ≡ field_members (members_view (take i ms)) ++ cond b (here ∷ []) []
  more b e = ap (filter is_field_member) (values_more ms i m within is) ∙ filter-append is_field_member (named_values (members_view (take i ms))) (here ∷ [])
      ∙ ap (λ (c : Bool). field_members (members_view (take i ms)) ++ cond c (here ∷ []) []) e

  -- a member that is no header field
  pub plain_more : is_among plain_names m.0.now ≡ true → field_members (members_view (take (i + 1) ms)) ≡ field_members (members_view (take i ms))
  plain_more plain = more false (ap not plain) ∙ append-nil _

  module _ (integers : Integers) (depth : ℕ) (other : is_among plain_names m.0.now ≡ false) where
    -- a member that is
    pub field_more : (fs all : List FieldTree) (f : FieldTree) → all ≡ fs ++ f ∷ [] → AreRead integers depth fs (members_view (take i ms)) → IsKnownField integers depth f here → AreRead integers depth all (members_view (take (i + 1) ms))
    field_more fs all f is_all h one =
        subst (λ (gs : List FieldTree). AreRead integers depth gs (members_view (take (i + 1) ms))) (sym is_all)
        (subst (AllZip (IsKnownField integers depth) (fs ++ f ∷ [])) (sym (more true (ap not other))) (zip_push _ fs _ f here h one))

    pub field_at : (fs : List FieldTree) → AreRead integers depth fs (members_view ms) → (f : FieldTree) × IsKnownField integers depth f here
    field_at fs h =
        let rest = named_values (members_view (drop (i + 1) ms)) in
        let parts : field_members (members_view ms) ≡ field_members (members_view (take i ms)) ++ here ∷ filter is_field_member rest =
        ap (filter is_field_member) (parts_at ms i m within is) ∙ filter-append is_field_member (named_values (members_view (take i ms))) (here ∷ rest)
        ∙ ap (λ (c : Bool). field_members (members_view (take i ms)) ++ cond c (here ∷ filter is_field_member rest) (filter is_field_member rest)) (ap not other) in
        zip_at _ fs _ _ here (subst (AllZip (IsKnownField integers depth) fs) parts h)

-- ---- lists of fields

pub values_push : {A : Type 0} (fs : List (HeaderField A)) (f : HeaderField A) (all : List (HeaderField A)) → all ≡ fs ++ f ∷ [] → IsTrue (keep_bytes (field_values fs)) → IsTrue (keeps_bytes f.value) → IsTrue (keep_bytes (field_values all))
values_push fs f all is h k = keep_push (field_values fs) f.value (field_values all) (ap field_values is ∙ map-append (λ (g : HeaderField _). g.value) fs (f ∷ [])) h k

pub trees_push : {A : Type 0} (fs : List (HeaderField A)) (f : HeaderField A) (all : List (HeaderField A)) → all ≡ fs ++ f ∷ [] → field_trees all ≡ field_trees fs ++ field_tree f ∷ []
trees_push fs f all is = ap field_trees is ∙ map-append field_tree fs (f ∷ [])

pub all_known : (integers : Integers) (depth : ℕ) (fs : List FieldTree) (ms : List (List ℕ × Json)) → AllZip (IsKnownField integers depth) fs ms → AreAllKnown fs
all_known integers depth [] ms h = tt
all_known integers depth (f ∷ fs) [] h = absurd h
all_known integers depth (f ∷ fs) (m ∷ ms) h = (h.0.known, all_known integers depth fs ms h.1)

-- no members spell two rows of known fields
pub one_row : (integers : Integers) (depth other : ℕ) (fs gs : List FieldTree) (ms : List (List ℕ × Json)) → AllZip (IsKnownField integers depth) fs ms → AllZip (IsKnownField integers other) gs ms → fs ≡ gs
one_row integers depth other [] [] [] h k = refl
one_row integers depth other [] gs (m ∷ ms) h k = absurd h
one_row integers depth other (f ∷ fs) gs [] h k = absurd h
one_row integers depth other fs [] (m ∷ ms) h k = absurd k
one_row integers depth other fs (g ∷ gs) [] h k = absurd k
one_row integers depth other (f ∷ fs) (g ∷ gs) (m ∷ ms) h k =
    ap (λ (l : FieldTree). l ∷ fs) (one_known integers depth other f g m h.0 k.0) ∙ ap (λ (l : List FieldTree). g ∷ l) (one_row integers depth other fs gs ms h.1 k.1)

pub values_none : {A : Type 0} (fs : List (HeaderField A)) → fs ≡ [] → IsTrue (keep_bytes (field_values fs))
values_none {A} fs none = subst (λ (gs : List (HeaderField A)). IsTrue (keep_bytes (field_values gs))) (sym none) refl
