-- Putting a field among others, in the order of their codes.
use Rattle.std.proofs.Common.{◌≡◌, ℕ, ◌+◌, ◌<◌, ◌≤◌, List, [], ◌∷◌, ◌++◌, length, get_or, take, drop, set, insert, refl, sym, ap, ◌∙◌, arith, Option, Some, None, Result, Ok, Err, option_map, option_to_list, MatchOption, inr, subst}
use Rattle.std.proofs.lemmas.Bool.{eq-eqb, ne_eqb, lt-ltb, le-ltb}
use Rattle.std.proofs.lemmas.List.{append_assoc, map-append, take_more, take_all, take-append-drop, take-set, drop-set}
use Rattle.dbus_message_model.specs.Messages.{FieldTree, MessageTree}
use Rattle.dbus_message_model.specs.PartsViews.{field_tree, field_trees, parts_tree}
use Rattle.dbus_message_model.specs.declared.header_field.HeaderField.{HeaderField}
use Rattle.dbus_message_model.proofs.FieldLists.{fields_from, no_fields_from}
use Rattle.dbus_texts.specs.Types.{UINT32, STRING, SIGNATURE, sigs}
use Rattle.dbus_value_model.specs.Specification.{specification}
use Rattle.dbus_value_model.specs.Values.{ValueTree, NumberValue, TextValue, types_of}
use Rattle.dbus_value_model.specs.ValueViews.{value_trees_of}
use Rattle.dbus_value_model.specs.declared.value.Value.{Value}
use Rattle.dbus_message_model.specs.KnownFields.{field_value}
use Rattle.dbus_message_model.specs.declared.parts.Parts.{Parts}
use Rattle.dbus_build.specs.BuildFaults.{IsFirstFault}
use Rattle.dbus_build.specs.declared.build_fault.BuildFault.{BuildFault}
use Rattle.dbus_compose.specs.Drafts.{put, IsComposed, Draft, Becomes, IsDraft, begun, draft_in, draft_of, draft_tree, field_of, fields_to, name_field, reply_fields, signed}

-- ---- at the first of some fields

put_after : (f g : FieldTree) (gs : List FieldTree) → g.code < f.code → put f (g ∷ gs) ≡ g ∷ put f gs
put_after f g gs h = rw (ne_eqb f.code g.code (λ e. omega (arith, e, h)), le-ltb f.code g.code (omega (arith, h))) refl

put_in_place : (f g : FieldTree) (gs : List FieldTree) → f.code ≡ g.code → put f (g ∷ gs) ≡ f ∷ gs
put_in_place f g gs e = rw (eq-eqb f.code g.code e) refl

put_in_front : (f g : FieldTree) (gs : List FieldTree) → f.code < g.code → put f (g ∷ gs) ≡ f ∷ g ∷ gs
put_in_front f g gs h = rw (ne_eqb f.code g.code (λ e. omega (arith, e, h)), lt-ltb f.code g.code h) refl

-- ---- from place i on

module _ {A : Type 0} (fields : List (HeaderField A)) (field : HeaderField A) where
  -- the field goes to place i or behind it
  abbrev pub IsFrom : ℕ → Type 0
  IsFrom i = put (field_tree field) (field_trees fields) ≡ field_trees (take i fields) ++ put (field_tree field) (field_trees (drop i fields))

  joined : (i : ℕ) (after : List (HeaderField A)) → field_trees (take i fields ++ field ∷ after) ≡ field_trees (take i fields) ++ field_tree field ∷ field_trees after
  joined i after = map-append field_tree (take i fields) (field ∷ after)

  module _ (i : ℕ) (g : HeaderField A) (h : i < length fields) (is : g ≡ get_or fields i g) (from : IsFrom i) where
    -- what is left to do, with the field at place i at hand
    here : put (field_tree field) (field_trees fields) ≡ field_trees (take i fields) ++ put (field_tree field) (field_tree g ∷ field_trees (drop (i + 1) fields))
    here = from ∙ ap (λ (fs : List FieldTree). field_trees (take i fields) ++ put (field_tree field) fs) (fields_from fields i g h is)

    one_more : field_trees (take (i + 1) fields) ≡ field_trees (take i fields) ++ field_tree g ∷ []
    one_more = ap field_trees (take_more fields i g h) ∙ map-append field_tree (take i fields) (get_or fields i g ∷ []) ∙ ap (λ (u : HeaderField A). field_trees (take i fields) ++ field_tree u ∷ []) (sym is)

    pub put_later : g.code < field.code → IsFrom (i + 1)
    put_later lt =
        let rest = put (field_tree field) (field_trees (drop (i + 1) fields)) in
        here ∙ ap (λ (fs : List FieldTree). field_trees (take i fields) ++ fs) (put_after (field_tree field) (field_tree g) _ lt)
        ∙ sym (append_assoc (field_trees (take i fields)) (field_tree g ∷ []) rest) ∙ ap (λ (fs : List FieldTree). fs ++ rest) (sym one_more)

    pub put_here : field.code ≡ g.code → field_trees (set fields i field) ≡ put (field_tree field) (field_trees fields)
    put_here e =
        let parts : set fields i field ≡ take i fields ++ field ∷ drop (i + 1) fields = sym (take-append-drop i (set fields i field)) ∙ rw (take-set fields i field, drop-set fields i field h) refl in
        ap field_trees parts ∙ joined i (drop (i + 1) fields) ∙ sym (here ∙ ap (λ (fs : List FieldTree). field_trees (take i fields) ++ fs) (put_in_place (field_tree field) (field_tree g) _ e))

    pub put_before : field.code < g.code → field_trees (insert fields i field) ≡ put (field_tree field) (field_trees fields)
    put_before lt =
        joined i (drop i fields) ∙ ap (λ (fs : List FieldTree). field_trees (take i fields) ++ field_tree field ∷ fs) (fields_from fields i g h is)
        ∙ sym (here ∙ ap (λ (fs : List FieldTree). field_trees (take i fields) ++ fs) (put_in_front (field_tree field) (field_tree g) _ lt))

  pub put_last : (i : ℕ) → length fields ≤ i → IsFrom i → field_trees (fields ++ field ∷ []) ≡ put (field_tree field) (field_trees fields)
  put_last i h from =
      map-append field_tree fields (field ∷ [])
      ∙ sym (from ∙ rw (take_all i fields h, no_fields_from fields i h) refl)

-- a reply to a message, by its serial and its sender
pub replied : {S : Type 0} (text : S → List ℕ) (m : MessageTree) (serial : ℕ) (sender : Option S) → serial ≡ m.serial
    → MatchOption sender (field_value 7 m.fields ≡ None) (λ s. field_value 7 m.fields ≡ Some (TextValue STRING (text s)))
    → fields_to serial (option_map text sender) ≡ reply_fields m
replied text m serial None is none =
    ap (λ (n : ℕ). field_of 5 (NumberValue UINT32 n) ∷ []) is ∙ ap (λ (v : Option ValueTree). field_of 5 (NumberValue UINT32 m.serial) ∷ option_to_list (option_map (field_of 6) v)) (sym none)
replied text m serial (Some s) is there =
    ap (λ (n : ℕ). field_of 5 (NumberValue UINT32 n) ∷ name_field 6 (text s) ∷ []) is
    ∙ ap (λ (v : Option ValueTree). field_of 5 (NumberValue UINT32 m.serial) ∷ option_to_list (option_map (field_of 6) v)) (sym there)

-- One call of a builder after another.

module _ {A : Type 0} where
  -- ---- calls

  pub next_step : (d : Draft A) (change : Draft A → Draft A) (before after : Option (Draft A)) → IsDraft d before → Becomes before change after → IsDraft (change d) after
  next_step d change before None h k = tt
  next_step d change None (Some e) h k = absurd k
  next_step d change (Some b) (Some e) h k = k ∙ ap change h

  pub first_step : (d : Draft A) (change : Draft A → Draft A) (before after : Option (Draft A)) → before ≡ Some d → Becomes before change after → IsDraft (change d) after
  first_step d change before after is k = next_step d change before after (subst (IsDraft d) (sym is) refl) k

  -- ---- the SIGNATURE field

  pub signed-some : (vs : List (Value A)) (fs : List FieldTree) → (length vs ≡ 0 → ⊥) → signed vs fs ≡ put (field_of 8 (TextValue SIGNATURE (sigs (types_of (value_trees_of vs))))) fs
  signed-some [] fs h = absurd (h refl)
  signed-some (v ∷ vs) fs h = refl

  -- ---- the fault

  pub refused : {E : Type 0} (parts : Result (Parts A) E) (p q : Parts A) (f : BuildFault) → parts ≡ Ok p → parts_tree q ≡ draft_tree (draft_of p) → q.body.items ≡ p.body.items → IsFirstFault specification q f
      → IsComposed (draft_in parts) (Err f)
  refused {E} parts p q f is tree body first = subst (λ (r : Result (Parts A) E). IsComposed (draft_in r) (Err f)) (sym is) (inr (q, tree, body, first))
