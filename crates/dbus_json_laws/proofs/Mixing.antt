-- Header fields, of those that are known and what a line tells of the others.
use Rattle.std.proofs.Common.{◌≡◌, ℕ, suc, ◌+◌, ◌≤◌, Bool, true, false, not, cond, List, [], ◌∷◌, drop, map, filter, Option, Some, None, refl, sym, ap, ◌∙◌, subst, arith, inl, inr}
use Rattle.std.proofs.lemmas.Bool.{cases_Bool}
use Rattle.std.specs.List.{enumerate_from, list_any}
use Rattle.dbus_message_model.specs.Messages.{FieldTree, is_known}
use Rattle.dbus_json.specs.JsonMessages.{known_fields, other_fields, is_before_known}

abbrev pub Placed : Type 0
Placed = ℕ × FieldTree

abbrev pub field_of : Placed → FieldTree
field_of p = p.1

-- what a line tells of a field that is not known: the field, and its place if a known one stands
-- after it
abbrev pub told : (is_before : ℕ → Bool) → Placed → FieldTree × Option ℕ
told is_before p = (p.1, cond (is_before p.0) (Some p.0) None)

-- the fields that are known, from the fields alone
abbrev knowns : List FieldTree → List FieldTree
knowns [] = []
knowns (f ∷ fs) = cond (is_known f.code) (f ∷ knowns fs) (knowns fs)

-- whether one is known
abbrev some_known : List FieldTree → Bool
some_known fs = list_any (λ (f : FieldTree). is_known f.code) fs

-- what a line tells of the others, of which the first has this place or a later one
abbrev tolds : ℕ → List FieldTree → List (FieldTree × Option ℕ)
tolds n [] = []
tolds n (f ∷ fs) = cond (is_known f.code) (tolds (n + 1) fs) ((f, cond (some_known fs) (Some n) None) ∷ tolds (n + 1) fs)

-- ---- both are what the definitions say

knowns_are : (n : ℕ) (fs : List FieldTree) → map field_of (filter (λ (p : Placed). is_known p.1.code) (enumerate_from n fs)) ≡ knowns fs
knowns_are n [] = refl
knowns_are n (f ∷ fs) =
    elim (cases_Bool (is_known f.code)) [
      | inl e ↦ rw (e) (ap (λ (gs : List FieldTree). f ∷ gs) (knowns_are (n + 1) fs))
      | inr e ↦ rw (e) (knowns_are (n + 1) fs)
    ]

tolds_are : (is_before : ℕ → Bool) (n : ℕ) (fs : List FieldTree) → ((k : ℕ) → is_before (n + k) ≡ some_known (drop (suc k) fs))
    → map (told is_before) (filter (λ (p : Placed). not (is_known p.1.code)) (enumerate_from n fs)) ≡ tolds n fs
tolds_are is_before n [] h = refl
tolds_are is_before n (f ∷ fs) h =
    let rest = tolds_are is_before (n + 1) fs (λ k. ap is_before (omega arith) ∙ h (suc k)) in
    let here : is_before n ≡ some_known fs = ap is_before (omega arith) ∙ h 0 in
    elim (cases_Bool (is_known f.code)) [
      | inl e ↦ rw (e) rest
      | inr e ↦ rw (e) (ap (λ (b : Bool). (f, cond b (Some n) None) ∷ map (told is_before) (filter (λ (p : Placed). not (is_known p.1.code)) (enumerate_from (n + 1) fs))) here
          ∙ ap (λ (ps : List (FieldTree × Option ℕ)). (f, cond (some_known fs) (Some n) None) ∷ ps) rest)
    ]

-- ---- one row of fields alone

-- whether a place is told, and it is below n
abbrev IsFrom : ℕ → Option ℕ → Type 0
IsFrom n None = Unit {0}
IsFrom n (Some k) = n ≤ k

-- the first of these has a place from n on, if it tells one
abbrev FirstFrom : ℕ → List (FieldTree × Option ℕ) → Type 0
FirstFrom n [] = Unit {0}
FirstFrom n (p ∷ ps) = IsFrom n p.1

from_either : (n : ℕ) (b : Bool) → IsFrom n (cond b (Some n) None)
from_either n true = omega arith
from_either n false = tt

from_less : (n : ℕ) (ps : List (FieldTree × Option ℕ)) → FirstFrom (n + 1) ps → FirstFrom n ps
from_less n [] h = tt
from_less n (p ∷ ps) h = less p.1 h
  where
    less : (o : Option ℕ) → IsFrom (n + 1) o → IsFrom n o
    less None h = tt
    less (Some k) h = omega (arith, h)

first_from : (n : ℕ) (fs : List FieldTree) → FirstFrom n (tolds n fs)
first_from n [] = tt
first_from n (f ∷ fs) =
    elim (cases_Bool (is_known f.code)) [
      | inl e ↦ subst (λ (b : Bool). FirstFrom n (cond b (tolds (n + 1) fs) ((f, cond (some_known fs) (Some n) None) ∷ tolds (n + 1) fs))) (sym e) (from_less n (tolds (n + 1) fs) (first_from (n + 1) fs))
      | inr e ↦ subst (λ (b : Bool). FirstFrom n (cond b (tolds (n + 1) fs) ((f, cond (some_known fs) (Some n) None) ∷ tolds (n + 1) fs))) (sym e) (from_either n (some_known fs))
    ]

-- a known field is among those that are
known_some : (g : FieldTree) (fs : List FieldTree) (ks : List FieldTree) → knowns fs ≡ g ∷ ks → some_known fs ≡ true
known_some g [] ks e = absurd (cc)
known_some g (f ∷ fs) ks e =
    elim (cases_Bool (is_known f.code)) [
      | inl k ↦ rw (k) refl
      | inr k ↦ rw (k) (known_some g fs ks (sym (ap (λ (b : Bool). cond b (f ∷ knowns fs) (knowns fs)) k) ∙ e))
    ]

cons_parts : {A : Type 0} (a b : A) (s t : List A) → a ∷ s ≡ b ∷ t → (a ≡ b) × (s ≡ t)
cons_parts a b s t e = (cc, cc)

known_head : (f : FieldTree) (fs : List FieldTree) → is_known f.code ≡ true → knowns (f ∷ fs) ≡ f ∷ knowns fs
known_head f fs e = rw (e) refl

other_head : (f : FieldTree) (fs : List FieldTree) → is_known f.code ≡ false → knowns (f ∷ fs) ≡ knowns fs
other_head f fs e = rw (e) refl

known_told : (n : ℕ) (f : FieldTree) (fs : List FieldTree) → is_known f.code ≡ true → tolds n (f ∷ fs) ≡ tolds (n + 1) fs
known_told n f fs e = rw (e) refl

other_told : (n : ℕ) (f : FieldTree) (fs : List FieldTree) → is_known f.code ≡ false → tolds n (f ∷ fs) ≡ (f, cond (some_known fs) (Some n) None) ∷ tolds (n + 1) fs
other_told n f fs e = rw (e) refl

-- a known field stands first in one row, and another one in the other: its place is told, and none
-- of the first row is as low
no_swap : (n : ℕ) (f g : FieldTree) (fs gs : List FieldTree) → is_known f.code ≡ true → is_known g.code ≡ false → knowns (f ∷ fs) ≡ knowns (g ∷ gs) → tolds n (f ∷ fs) ≡ tolds n (g ∷ gs) → ⊥
no_swap n f g fs gs k o same tells =
    let some = known_some f gs (knowns fs) (sym (sym (known_head f fs k) ∙ same ∙ other_head g gs o)) in
    let all : tolds (n + 1) fs ≡ (g, Some n) ∷ tolds (n + 1) gs =
    sym (known_told n f fs k) ∙ tells ∙ other_told n g gs o ∙ ap (λ (b : Bool). (g, cond b (Some n) None) ∷ tolds (n + 1) gs) some in
    let low : n + 1 ≤ n = subst (FirstFrom (n + 1)) all (first_from (n + 1) fs) in
    omega (arith, low)

one_row : (n : ℕ) (fs gs : List FieldTree) → knowns fs ≡ knowns gs → tolds n fs ≡ tolds n gs → fs ≡ gs
one_row n [] [] same tells = refl
one_row n [] (g ∷ gs) same tells =
    elim (cases_Bool (is_known g.code)) [
      | inl k ↦ absurd (let e : [] ≡ g ∷ knowns gs = same ∙ known_head g gs k in cc)
      | inr o ↦ absurd (let e : [] ≡ (g, cond (some_known gs) (Some n) None) ∷ tolds (n + 1) gs = tells ∙ other_told n g gs o in cc)
    ]
one_row n (f ∷ fs) [] same tells =
    elim (cases_Bool (is_known f.code)) [
      | inl k ↦ absurd (let e : [] ≡ f ∷ knowns fs = sym same ∙ known_head f fs k in cc)
      | inr o ↦ absurd (let e : [] ≡ (f, cond (some_known fs) (Some n) None) ∷ tolds (n + 1) fs = sym tells ∙ other_told n f fs o in cc)
    ]
one_row n (f ∷ fs) (g ∷ gs) same tells =
    elim (cases_Bool (is_known f.code)) [
      | inl k ↦ elim (cases_Bool (is_known g.code)) [
        | inl j ↦ (
            let parts = cons_parts f g (knowns fs) (knowns gs) (sym (known_head f fs k) ∙ same ∙ known_head g gs j) in
            let rest = one_row (n + 1) fs gs parts.1 (sym (known_told n f fs k) ∙ tells ∙ known_told n g gs j) in
            ap (λ (h : FieldTree). h ∷ fs) parts.0 ∙ ap (λ (hs : List FieldTree). g ∷ hs) rest
            )
        | inr j ↦ absurd (no_swap n f g fs gs k j same tells)
      ]
      | inr k ↦ elim (cases_Bool (is_known g.code)) [
        | inl j ↦ absurd (no_swap n g f gs fs j k (sym same) (sym tells))
        | inr j ↦ (
            let parts = cons_parts _ _ (tolds (n + 1) fs) (tolds (n + 1) gs) (sym (other_told n f fs k) ∙ tells ∙ other_told n g gs j) in
            let first : f ≡ g = ap (λ (p : FieldTree × Option ℕ). p.0) parts.0 in
            let rest = one_row (n + 1) fs gs (sym (other_head f fs k) ∙ same ∙ other_head g gs j) parts.1 in
            ap (λ (h : FieldTree). h ∷ fs) first ∙ ap (λ (hs : List FieldTree). g ∷ hs) rest
            )
      ]
    ]

pub mixing_kept : (fs gs : List FieldTree) → map field_of (known_fields fs) ≡ map field_of (known_fields gs)
    → map (told (is_before_known fs)) (other_fields fs) ≡ map (told (is_before_known gs)) (other_fields gs) → fs ≡ gs
mixing_kept fs gs same tells =
    one_row 0 fs gs (sym (knowns_are 0 fs) ∙ same ∙ knowns_are 0 gs)
    (sym (tolds_are (is_before_known fs) 0 fs (λ k. ap (is_before_known fs) (omega arith))) ∙ tells ∙ tolds_are (is_before_known gs) 0 gs (λ k. ap (is_before_known gs) (omega arith)))
