-- The objects of fields that are not known, and bodies.
use Rattle.std.proofs.Common.{◌≡◌, ℕ, ◌<◌, ◌≤◌, ltb, List, [], ◌∷◌, length, Option, Some, None, Result, Ok, Err, IfOk, refl, sym, ap, ◌∙◌, subst, arith, codes}
use Rattle.std.proofs.lemmas.Bool.{le-ltb}
use Rattle.std.proofs.lemmas.Option.{same_Some}
use Rattle.json.specs.Find.{get}
use Rattle.json.specs.Json as json
use Rattle.json.specs.Json.{Json, Items, no_items, item}
use Rattle.json.specs.Value.{items_of}
use Rattle.dbus_texts.specs.Types.{IsSingleType, TypeTree, TypeTrees, NoTypes, MoreTypes, sig, sigs}
use Rattle.dbus_types.specs.SigTypes.{type_trees_of}
use Rattle.dbus_types.specs.declared.sig_type.SigType.{SigType}
use Rattle.dbus_texts.proofs.TypeTexts.{sigs_same}
use Rattle.dbus_message_model.specs.Messages.{FieldTree}
use Rattle.dbus_value_model.specs.Values.{ValueTree, ValueTrees, NoValues, type_of, types_of, AreWellFormed}
use Rattle.dbus_json.specs.declared.integers.Integers.{Integers}
use Rattle.dbus_json_reader.specs.JsonMessages.{SpellsOr, SpellsPlace, AreBody}
use Rattle.dbus_json_reader.specs.JsonParts.{IsOtherObject, IsOtherField, IsReadBody}
use Rattle.dbus_json_reader.specs.JsonValues.{Spells, AllSpell, IsRead, AreRead}
use Rattle.dbus_json_reader.proofs.Merging.{not_below}
use Rattle.dbus_json_reader.proofs.Shapes.{strings_same, one_type}

-- ---- places

place_or : (p e : ℕ) (told : Option Json) → p ≤ e → SpellsPlace (ltb p e) p told → SpellsOr e p told
place_or p e None within h = not_below p e within h
place_or p e (Some j) within h = h

or_place : (p e : ℕ) (told : Option Json) → SpellsOr e p told → SpellsPlace (ltb p e) p told
or_place p e None h = le-ltb p e (omega (arith, h))
or_place p e (Some j) h = h

-- ---- objects and fields

pub object_of : (integers : Integers) (depth e p : ℕ) (f : FieldTree) (j : Json) → (h : IsOtherField integers depth e p f j) → IsOtherObject e p f.code (sig (type_of f.value)) h.spelled.value j
object_of integers depth e p f j h = record {
  named = record { ms = h.spelled.ms; is = h.spelled.is; are = record { named = h.spelled.named; distinct = h.spelled.distinct } };
  coded = h.spelled.code;
  unknown = h.unknown;
  typed = h.spelled.type;
  held = h.spelled.held;
  placed = place_or p e (get (codes "place") j) h.within h.spelled.placed;
  within = h.within;
}

pub field_in : (integers : Integers) (depth e p code : ℕ) (t : TypeTree) (text : List ℕ) (v : ValueTree) (value j : Json) → IsOtherObject e p code text value j → code < 256 → IsSingleType t → sig t ≡ text → IsRead integers depth t v value
    → IsOtherField integers depth e p (record { code = code; value = v }) j
field_in integers depth e p code t text v value j o fits single spelled read = record {
  unknown = o.unknown;
  within = o.within;
  formed = record { code = fits; single = subst IsSingleType (sym read.typed) single; formed = read.formed };
  spelled = record {
    ms = o.named.ms;
    is = o.named.is;
    named = o.named.are.named;
    distinct = o.named.are.distinct;
    code = o.coded;
    type = o.typed ∙ ap (λ (s : List ℕ). Some (json.string s)) (sym spelled ∙ ap sig (sym read.typed));
    value = value;
    held = o.held;
    spelled = read.spelled;
    placed = or_place p e (get (codes "place") j) o.placed;
  };
}

-- the value of the field, as it is in the object
pub value_in : (integers : Integers) (depth e p place code : ℕ) (text : List ℕ) (t : TypeTree) (value j : Json) (f : FieldTree) → IsOtherObject e place code text value j → sig t ≡ text → IsOtherField integers depth e p f j → IsRead integers depth t f.value value
value_in integers depth e p place code text t value j f o spelled h =
    let type : type_of f.value ≡ t = one_type _ _ (strings_same _ _ (same_Some _ _ (sym h.spelled.type ∙ o.typed)) ∙ sym spelled) in
    let same : h.spelled.value ≡ value = same_Some _ _ (sym h.spelled.held ∙ o.held) in
    record { spelled = subst (λ (i : Json). Spells integers f.value i) same h.spelled.spelled; typed = type; formed = h.formed.formed }

-- its signature
pub text_in : (integers : Integers) (depth e p place code : ℕ) (text : List ℕ) (value j : Json) (f : FieldTree) → IsOtherObject e place code text value j → IsOtherField integers depth e p f j → sig (type_of f.value) ≡ text
text_in integers depth e p place code text value j f o h = strings_same _ _ (same_Some _ _ (sym h.spelled.type ∙ o.typed))

-- ---- bodies

list_of : Items → List Json
list_of no_items = []
list_of (item j js) = j ∷ list_of js

items_back : (js : Items) → items_of (list_of js) ≡ js
unfolding list_of
items_back no_items = refl
items_back (item j js) = ap (item j) (items_back js)

module _ (integers : Integers) (depth : ℕ) (w : List ℕ) (told : Option Json) where
  pub body_made : (j : Json) (ts : TypeTrees) (xs : ValueTrees) (js : Items) → told ≡ Some j → sigs ts ≡ w → j ≡ json.array js → AreRead integers depth ts xs js → IsReadBody integers depth w told xs
  body_made j ts xs js here spelled is h =
      let back = items_back js in
      let all : AreBody integers xs (Some j) = (list_of js, is ∙ ap json.array (sym back), subst (AllSpell integers xs) (sym back) h.spelled) in
      record { spelled = subst (AreBody integers xs) (sym here) all; typed = ap sigs h.typed ∙ spelled; formed = h.formed }

  pub body_read : (j : Json) (ts : TypeTrees) (xs : ValueTrees) → told ≡ Some j → sigs ts ≡ w → IsReadBody integers depth w told xs → (js : Items) × (j ≡ json.array js) × AreRead integers depth ts xs js
  body_read j ts xs here spelled h =
      let all = subst (AreBody integers xs) here h.spelled in
      (items_of all.0, all.1, record { spelled = all.2; typed = sigs_same _ _ (h.typed ∙ sym spelled); formed = h.formed })

  pub none_made : told ≡ None → (xs : ValueTrees) → xs ≡ NoValues → sigs NoTypes ≡ w → IsReadBody integers depth w told xs
  none_made here xs none spelled = record {
    spelled = subst (AreBody integers xs) (sym here) none;
    typed = ap (λ (ys : ValueTrees). sigs (types_of ys)) none ∙ spelled;
    formed = subst (AreWellFormed depth) (sym none) tt;
  }

  pub none_read : told ≡ None → (ts : TypeTrees) (xs : ValueTrees) → sigs ts ≡ w → IsReadBody integers depth w told xs → ts ≡ NoTypes
  none_read here ts xs spelled h =
      let none = subst (AreBody integers xs) here h.spelled in
      sigs_same _ _ (spelled ∙ sym h.typed ∙ ap (λ (ys : ValueTrees). sigs (types_of ys)) none)

no_more_types : (t : TypeTree) (ts : TypeTrees) → MoreTypes t ts ≡ NoTypes → ⊥
no_more_types t ts e = cc

pub no_types : {A : Type 0} (ts : List (SigType A)) → type_trees_of ts ≡ NoTypes → length ts ≡ 0
no_types [] e = refl
no_types (t ∷ ts) e = absurd (no_more_types _ _ e)

pub types_none : {A : Type 0} (ts : List (SigType A)) → length ts ≡ 0 → type_trees_of ts ≡ NoTypes
types_none [] e = refl
types_none (t ∷ ts) e = absurd (omega (arith, e))

pub if_ok : {T E : Type 0} (P Q : T → Type 0) (r : Result T E) → IfOk r P → ((v : T) → P v → Q v) → IfOk r Q
if_ok P Q (Ok v) h f = f v h
if_ok P Q (Err e) h f = tt
