-- Going over a list of header fields.
use Rattle.std.proofs.Common.{◌≡◌, ℕ, ◌+◌, ◌<◌, ◌≤◌, List, [], ◌∷◌, length, get_or, drop, true, false, cond, None, Some, IsTrue, refl, sym, ap, ◌∙◌, map, subst, ◌++◌, reverse, Bool, ◌||◌, eqb, arith}
use Rattle.std.proofs.lemmas.Bool.{and_parts, eq-eqb, ne_eqb}
use Rattle.std.proofs.lemmas.List.{drop_more, drop_all, reverse-append, length-append}
use Rattle.dbus_value_model.specs.PackedBytes.{keeps_bytes, keep_bytes}
use Rattle.dbus_value_model.specs.ValueViews.{value_tree}
use Rattle.dbus_value_model.specs.declared.fault.Reason.TheVariants.{FieldMissing}
use Rattle.dbus_value_model.proofs.ValueRows.{item_of}
use Rattle.dbus_value_model.specs.Sizes.{HasShortSignatures, HaveShortSignatures}
use Rattle.dbus_value_model.specs.Values.{ValueTrees, MoreValues, value_trees}
use Rattle.dbus_texts.specs.Types.{TypeTrees, NoTypes, MoreTypes, AreComplete, sig, sigs}
use Rattle.dbus_message_model.specs.KnownFields.{field_value}
use Rattle.dbus_message_model.specs.Messages.{has_code, lacks, text_in, body_signature, number_in, fd_count, FieldTree, field_struct}
use Rattle.dbus_message_model.specs.PackedParts.{field_values}
use Rattle.dbus_message_model.specs.PartsViews.{field_tree, field_trees}
use Rattle.dbus_message_model.specs.declared.header_field.HeaderField.{HeaderField}
use Rattle.dbus_message_model.specs.SingleTypes.{AreSingleTypes}

module _ {A : Type 0} (fields : List (HeaderField A)) (i : ℕ) where
  -- the fields from i on
  pub fields_from : (f : HeaderField A) → i < length fields → f ≡ get_or fields i f → field_trees (drop i fields) ≡ field_tree f ∷ field_trees (drop (i + 1) fields)
  fields_from f h is = ap field_trees (drop_more fields i f h) ∙ ap (λ (u : HeaderField A). field_tree u ∷ field_trees (drop (i + 1) fields)) (sym is)

  pub no_fields_from : length fields ≤ i → field_trees (drop i fields) ≡ []
  no_fields_from h = ap field_trees (drop_all i fields h)

  pub has_here : (c : ℕ) (f : HeaderField A) → i < length fields → f ≡ get_or fields i f → f.code ≡ c → has_code c (field_trees (drop i fields)) ≡ true
  has_here c f h is e = rw (fields_from f h is, eq-eqb f.code c e) refl

  pub has_later : (c : ℕ) (f : HeaderField A) → i < length fields → f ≡ get_or fields i f → (f.code ≡ c → ⊥) → has_code c (field_trees (drop i fields)) ≡ has_code c (field_trees (drop (i + 1) fields))
  has_later c f h is e = rw (fields_from f h is, ne_eqb f.code c e) refl

  pub has_no_more : (c : ℕ) → length fields ≤ i → has_code c (field_trees (drop i fields)) ≡ false
  has_no_more c h = rw (no_fields_from h) refl

  -- the SIGNATURE field stands at i, or after it
  pub signature_here : (f : HeaderField A) → i < length fields → f ≡ get_or fields i f → f.code ≡ 8 → body_signature (field_trees (drop i fields)) ≡ text_in (value_tree f.value)
  signature_here f h is e = rw (fields_from f h is, eq-eqb f.code 8 e) refl

  pub signature_later : (f : HeaderField A) → i < length fields → f ≡ get_or fields i f → (f.code ≡ 8 → ⊥) → body_signature (field_trees (drop i fields)) ≡ body_signature (field_trees (drop (i + 1) fields))
  signature_later f h is e = rw (fields_from f h is, ne_eqb f.code 8 e) refl

  -- the UNIX_FDS field stands at i, or after it
  pub count_here : (f : HeaderField A) → i < length fields → f ≡ get_or fields i f → f.code ≡ 9 → fd_count (field_trees (drop i fields)) ≡ number_in (value_tree f.value)
  count_here f h is e = rw (fields_from f h is, eq-eqb f.code 9 e) refl

  pub count_later : (f : HeaderField A) → i < length fields → f ≡ get_or fields i f → (f.code ≡ 9 → ⊥) → fd_count (field_trees (drop i fields)) ≡ fd_count (field_trees (drop (i + 1) fields))
  count_later f h is e = rw (fields_from f h is, ne_eqb f.code 9 e) refl

  -- the first field of a code stands at i
  pub value_here : (c : ℕ) (f : HeaderField A) → i < length fields → f ≡ get_or fields i f → f.code ≡ c → field_value c (field_trees (drop i fields)) ≡ Some (value_tree f.value)
  value_here c f h is e = rw (fields_from f h is, eq-eqb f.code c e) refl

-- the first code that is missing stands at i, or after it
module _ (fs : List FieldTree) (codes : List ℕ) (i : ℕ) where
  lacks_from : i < length codes → lacks (drop i codes) fs ≡ cond (has_code (get_or codes i 0) fs) (lacks (drop (i + 1) codes) fs) (Some (FieldMissing (get_or codes i 0)))
  lacks_from h = ap (λ cs. lacks cs fs) (drop_more codes i 0 h)

  pub lacks_here : i < length codes → has_code (get_or codes i 0) fs ≡ false → lacks (drop i codes) fs ≡ Some (FieldMissing (get_or codes i 0))
  lacks_here h none = lacks_from h ∙ ap (λ b. cond b (lacks (drop (i + 1) codes) fs) (Some (FieldMissing (get_or codes i 0)))) none

  pub lacks_later : i < length codes → has_code (get_or codes i 0) fs ≡ true → lacks (drop i codes) fs ≡ lacks (drop (i + 1) codes) fs
  lacks_later h there = lacks_from h ∙ ap (λ b. cond b (lacks (drop (i + 1) codes) fs) (Some (FieldMissing (get_or codes i 0)))) there

  pub lacks_no_more : length codes ≤ i → lacks (drop i codes) fs ≡ None
  lacks_no_more h = ap (λ cs. lacks cs fs) (drop_all i codes h)

pub field_kept : {A : Type 0} (fields : List (HeaderField A)) (i : ℕ) (f : HeaderField A) → i < length fields → f ≡ get_or fields i f → IsTrue (keep_bytes (field_values fields)) → IsTrue (keeps_bytes f.value)
field_kept fields i f h is kept = item_of (λ fs. IsTrue (keep_bytes (field_values fs))) (λ u. IsTrue (keeps_bytes u.value)) (λ u fs k. and_parts _ _ k) fields i f h is kept

-- The fields of a header as structs, one after the other.

abbrev pub structs : {A : Type 0} → List (HeaderField A) → ValueTrees
structs fields = value_trees (map field_struct (field_trees fields))

module _ {A : Type 0} (fields : List (HeaderField A)) (i : ℕ) where
  pub structs_from : (f : HeaderField A) → i < length fields → f ≡ get_or fields i f → structs (drop i fields) ≡ MoreValues (field_struct (field_tree f)) (structs (drop (i + 1) fields))
  structs_from f h is = ap (λ (fs : List FieldTree). value_trees (map field_struct fs)) (fields_from fields i f h is)

module _ {A : Type 0} where
  pub fields_short : (fields : List (HeaderField A)) (i : ℕ) (f : HeaderField A) → i < length fields → f ≡ get_or fields i f → HaveShortSignatures (structs (drop i fields)) → HasShortSignatures (field_struct (field_tree f)) × HaveShortSignatures (structs (drop (i + 1) fields))
  fields_short fields i f h is all = subst (λ (fs : List FieldTree). HaveShortSignatures (value_trees (map field_struct fs))) (fields_from fields i f h is) all

-- Whether a code stands among fields: after others, and in the other order.

pub or_comm : (a b : Bool) → (a || b) ≡ (b || a)
or_comm true true = refl
or_comm true false = refl
or_comm false true = refl
or_comm false false = refl

or_assoc : (a b c : Bool) → ((a || b) || c) ≡ (a || (b || c))
or_assoc true b c = refl
or_assoc false b c = refl

pub has_append : (c : ℕ) (xs ys : List FieldTree) → has_code c (xs ++ ys) ≡ (has_code c xs || has_code c ys)
has_append c [] ys = refl
has_append c (x ∷ xs) ys = ap (λ (b : Bool). eqb x.code c || b) (has_append c xs ys) ∙ sym (or_assoc (eqb x.code c) (has_code c xs) (has_code c ys))

pub or_false : (b : Bool) → (b || false) ≡ b
or_false true = refl
or_false false = refl

pub has_reversed : (c : ℕ) (xs : List FieldTree) → has_code c (reverse xs) ≡ has_code c xs
has_reversed c [] = refl
has_reversed c (x ∷ xs) =
    ap (has_code c) (reverse-append (x ∷ []) xs) ∙ has_append c (reverse xs) (x ∷ []) ∙ ap (λ (b : Bool). b || (eqb x.code c || false)) (has_reversed c xs)
    ∙ or_comm (has_code c xs) (eqb x.code c || false) ∙ ap (λ (b : Bool). b || has_code c xs) (or_false (eqb x.code c))

-- Types that a signature spells.

-- each of some types that have a signature has one
pub each_single : (ts : TypeTrees) → AreComplete ts 0 0 → length (sigs ts) < 256 → AreSingleTypes ts
each_single NoTypes complete short = tt
each_single (MoreTypes t ts) complete short =
    let both = length-append (sig t) (sigs ts) in
    ((complete.0, omega (arith, both)), each_single ts complete.1 (omega (arith, both)))
