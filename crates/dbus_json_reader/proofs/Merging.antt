-- Known header fields and others in one row: what is read of it from a place on.
use Rattle.std.proofs.Common.{◌≡◌, ◌⊎◌, ℕ, zero, suc, ◌+◌, ◌^◌, ◌<◌, ◌≤◌, ltb, true, false, List, [], ◌∷◌, ◌++◌, length, take, drop, Option, Some, None, inl, inr, codes, refl, sym, ap, ◌∙◌, subst, arith, append_assoc, length-drop}
use Rattle.std.proofs.lemmas.Bool.{cases_lt, lt-ltb, true≢false}
use Rattle.std.proofs.lemmas.Fmt.{decimal_injective}
use Rattle.std.proofs.lemmas.Option.{same_Some}
use Rattle.std.proofs.lemmas.List.{take-append-drop}
use Rattle.std.specs.List.{insert}
use Rattle.json.specs.Find.{get}
use Rattle.json.specs.Json.{Json}
use Rattle.dbus_texts.specs.Types.{TypeTree}
use Rattle.dbus_message_model.specs.Messages.{FieldTree, is_known}
use Rattle.dbus_value_model.specs.Values.{type_of}
use Rattle.dbus_json.specs.declared.integers.Integers.{Integers}
use Rattle.dbus_json_reader.specs.JsonMessages.{SpellsPlace}
use Rattle.dbus_json_reader.specs.JsonParts.{IsOtherField, AreAllKnown}
use Rattle.dbus_json_reader.specs.JsonValues.{IsRead}
use Rattle.dbus_json_reader.proofs.KnownNames.{same_field}
use Rattle.dbus_json_reader.proofs.OneValue.{numbers_same, one_value}
use Rattle.dbus_json_reader.proofs.Shapes.{strings_same, one_type}

-- These fields, of which the first has this place among all, are the known ones and those of these
-- objects.
abbrev pub Mixed : (integers : Integers) (depth n : ℕ) (ks : List FieldTree) (js : List Json) (fs : List FieldTree) → Type 0
Mixed integers depth n ks js [] = (ks ≡ []) × (js ≡ [])
Mixed integers depth n ks js (f ∷ fs) =
    ((more : List FieldTree) × (is_known f.code ≡ true) × (ks ≡ f ∷ more) × Mixed integers depth (n + 1) more js fs)
    ⊎ ((j : Json) × (more : List Json) × (js ≡ j ∷ more) × IsOtherField integers depth (n + length ks) n f j × Mixed integers depth (n + 1) ks more fs)

-- ---- one object is of one field

pub not_below : (p e : ℕ) → p ≤ e → ltb p e ≡ false → p ≡ e
not_below p e within none = elim (cases_lt p e) [ inl lt ↦ absurd (true≢false (sym (lt-ltb p e lt) ∙ none)) | inr le ↦ omega (arith, within, le) ]

one_place : (e p q : ℕ) (told : Option Json) → e < 2 ^ 64 → p ≤ e → q ≤ e → SpellsPlace (ltb p e) p told → SpellsPlace (ltb q e) q told → p ≡ q
one_place e p q None most h k a b = not_below p e h a ∙ sym (not_below q e k b)
one_place e p q (Some j) most h k a b = decimal_injective p q (omega (arith, most, h)) (omega (arith, most, k)) (numbers_same _ _ j a b)

pub one_other : (integers : Integers) (depth e p q : ℕ) (f g : FieldTree) (j : Json) → e < 2 ^ 64 → IsOtherField integers depth e p f j → IsOtherField integers depth e q g j → (p ≡ q) × (f ≡ g)
one_other integers depth e p q f g j most a b =
    let place = one_place e p q (get (codes "place") j) most a.within b.within a.spelled.placed b.spelled.placed in
    let coded = a.formed.code in
    let other = b.formed.code in
    let code : f.code ≡ g.code = decimal_injective f.code g.code (omega (arith, coded)) (omega (arith, other)) (numbers_same _ _ _ refl (same_Some _ _ (sym a.spelled.code ∙ b.spelled.code))) in
    let type : type_of f.value ≡ type_of g.value = one_type _ _ (strings_same _ _ (same_Some _ _ (sym a.spelled.type ∙ b.spelled.type))) in
    let value : a.spelled.value ≡ b.spelled.value = same_Some _ _ (sym a.spelled.held ∙ b.spelled.held) in
    let first : IsRead integers depth (type_of f.value) f.value a.spelled.value = record { spelled = a.spelled.spelled; typed = refl; formed = a.formed.formed } in
    let second : IsRead integers depth (type_of g.value) g.value b.spelled.value = record { spelled = b.spelled.spelled; typed = refl; formed = b.formed.formed } in
    let typed = subst (λ (t : TypeTree). IsRead integers depth t f.value a.spelled.value) type first in
    (place, same_field f g code (one_value integers depth depth (type_of g.value) f.value g.value b.spelled.value (subst (λ (i : Json). IsRead integers depth (type_of g.value) f.value i) value typed) second))

-- ---- from a place on

known_rest : (n : ℕ) (fs : List FieldTree) → AreAllKnown fs → AreAllKnown (drop n fs)
known_rest zero fs h = h
known_rest (suc n) [] h = h
known_rest (suc n) (f ∷ fs) h = known_rest n fs h.1

known_after : (ahead behind : List FieldTree) → AreAllKnown (ahead ++ behind) → AreAllKnown ahead × AreAllKnown behind
known_after [] behind h = (tt, h)
known_after (a ∷ ahead) behind h = let more = known_after ahead behind h.1 in ((h.0, more.0), more.1)

-- no object is left
pub all_known : (integers : Integers) (depth n : ℕ) (ks : List FieldTree) → AreAllKnown ks → Mixed integers depth n ks [] ks
all_known integers depth n [] h = (refl, refl)
all_known integers depth n (k ∷ ks) h = inl (ks, h.0, refl, all_known integers depth (n + 1) ks h.1)

none_left : (j : Json) (js : List Json) → [] ≡ j ∷ js → ⊥
none_left j js e = cc

pub only_known : (integers : Integers) (depth n : ℕ) (ks fs : List FieldTree) → Mixed integers depth n ks [] fs → fs ≡ ks
only_known integers depth n ks [] h = sym h.0
only_known integers depth n ks (f ∷ fs) (inl h) = ap (λ (gs : List FieldTree). f ∷ gs) (only_known integers depth (n + 1) h.0 fs h.3) ∙ sym h.2
only_known integers depth n ks (f ∷ fs) (inr h) = absurd (none_left _ _ h.2)

-- the next object is of a field behind some known ones
through : (integers : Integers) (depth n e : ℕ) (ahead behind : List FieldTree) (f : FieldTree) (j : Json) (js : List Json) (fs : List FieldTree) → AreAllKnown ahead → n + length (ahead ++ behind) ≡ e → IsOtherField integers depth e (n + length ahead) f j
    → Mixed integers depth (n + length ahead + 1) behind js fs → Mixed integers depth n (ahead ++ behind) (j ∷ js) (ahead ++ f ∷ fs)
through integers depth n e [] behind f j js fs known end one h =
    let at : n + 0 ≡ n = omega arith in
    inr (j, js, refl, subst (λ (k : ℕ). IsOtherField integers depth k n f j) (sym end) (subst (λ (k : ℕ). IsOtherField integers depth e k f j) at one), subst (λ (k : ℕ). Mixed integers depth (k + 1) behind js fs) at h)
through integers depth n e (a ∷ ahead) behind f j js fs known end one h =
    let at : n + suc (length ahead) ≡ n + 1 + length ahead = omega arith in
    let long : n + suc (length (ahead ++ behind)) ≡ e = end in
    inl (ahead ++ behind, known.0, refl, through integers depth (n + 1) e ahead behind f j js fs known.1 (omega (arith, long)) (subst (λ (k : ℕ). IsOtherField integers depth e k f j) at one) (subst (λ (k : ℕ). Mixed integers depth (k + 1) behind js fs) at h))

-- where the field of the next object is
pub record IsNext (integers : Integers) (depth n : ℕ) (ks : List FieldTree) (j : Json) (js : List Json) (fs : List FieldTree) : Type 0 where
  pub ahead : List FieldTree
  pub behind : List FieldTree
  pub f : FieldTree
  pub more : List FieldTree
  pub known : ks ≡ ahead ++ behind
  pub all : fs ≡ ahead ++ f ∷ more
  pub one : IsOtherField integers depth (n + length ks) (n + length ahead) f j
  pub rest : Mixed integers depth (n + length ahead + 1) behind js more

same_next : (i j : Json) (is js : List Json) → i ∷ is ≡ j ∷ js → (i ≡ j) × (is ≡ js)
same_next i j is js e = (cc, cc)

pub next_object : (integers : Integers) (depth n : ℕ) (ks : List FieldTree) (j : Json) (js : List Json) (fs : List FieldTree) → Mixed integers depth n ks (j ∷ js) fs → IsNext integers depth n ks j js fs
next_object integers depth n ks j js [] h = absurd (none_left _ _ (sym h.1))
next_object integers depth n ks j js (f ∷ fs) (inl h) =
    let r = next_object integers depth (n + 1) h.0 j js fs h.3 in
    let long : length ks ≡ suc (length h.0) = ap length h.2 in
    let at : n + 1 + length r.ahead ≡ n + suc (length r.ahead) = omega arith in
    let end : n + 1 + length h.0 ≡ n + length ks = omega (arith, long) in
    record {
      ahead = f ∷ r.ahead;
      behind = r.behind;
      f = r.f;
      more = r.more;
      known = h.2 ∙ ap (λ (gs : List FieldTree). f ∷ gs) r.known;
      all = ap (λ (gs : List FieldTree). f ∷ gs) r.all;
      one = subst (λ (k : ℕ). IsOtherField integers depth (n + length ks) k r.f j) at (subst (λ (k : ℕ). IsOtherField integers depth k (n + 1 + length r.ahead) r.f j) end r.one);
      rest = subst (λ (k : ℕ). Mixed integers depth (k + 1) r.behind js r.more) at r.rest;
    }
next_object integers depth n ks j js (f ∷ fs) (inr h) =
    let same = same_next j h.0 js h.1 h.2 in
    let at : n ≡ n + 0 = omega arith in
    record {
      ahead = [];
      behind = ks;
      f = f;
      more = fs;
      known = refl;
      all = refl;
      one = subst (λ (k : ℕ). IsOtherField integers depth (n + length ks) k f j) at (subst (λ (i : Json). IsOtherField integers depth (n + length ks) n f i) (sym same.0) h.3);
      rest = subst (λ (k : ℕ). Mixed integers depth (k + 1) ks js fs) at (subst (λ (is : List Json). Mixed integers depth (n + 1) ks is fs) (sym same.1) h.4);
    }

-- ---- ahead far ahead the objects have been read

-- Of all fields of these known ones and these objects, the first `next` are those of `fs`; what is
-- left are known ones, and the fields of the rest of the objects.
pub record IsMerging (integers : Integers) (depth : ℕ) (known : List FieldTree) (js : List Json) (next : ℕ) (fs : List FieldTree) (rest : List Json) : Type 0 where
  pub left : AreAllKnown (drop next fs)
  pub within : next ≤ length fs
  pub fits : (gs : List FieldTree) → Mixed integers depth next (drop next fs) rest gs → Mixed integers depth 0 known js (take next fs ++ gs)
  pub only : (gs : List FieldTree) → Mixed integers depth 0 known js gs → (hs : List FieldTree) × (gs ≡ take next fs ++ hs) × Mixed integers depth next (drop next fs) rest hs

pub begins : (integers : Integers) (depth : ℕ) (known : List FieldTree) (js : List Json) → AreAllKnown known → IsMerging integers depth known js 0 known js
begins integers depth known js h = record { left = h; within = omega arith; fits = λ gs m. m; only = λ gs m. (gs, refl, m) }

-- a row cut at a place from which on some are known
record IsCut (n p : ℕ) (fs : List FieldTree) : Type 0 where
  ahead : List FieldTree
  behind : List FieldTree
  long : n + length ahead ≡ p
  front : take p fs ≡ take n fs ++ ahead
  back : drop p fs ≡ behind
  all : drop n fs ≡ ahead ++ behind

cut_at : (n p : ℕ) (fs : List FieldTree) → n ≤ p → p ≤ length fs → IsCut n p fs
cut_at zero zero fs le within = record { ahead = []; behind = fs; long = omega arith; front = refl; back = refl; all = refl }
cut_at zero (suc p) [] le within = absurd (omega (arith, within))
cut_at zero (suc p) (f ∷ fs) le within =
    let r = cut_at zero p fs (omega arith) (omega (arith, within)) in
    let long = r.long in
    record {
      ahead = f ∷ r.ahead;
      behind = r.behind;
      long = omega (arith, long);
      front = ap (λ (gs : List FieldTree). f ∷ gs) r.front;
      back = r.back;
      all = ap (λ (gs : List FieldTree). f ∷ gs) r.all;
    }
cut_at (suc n) zero fs le within = absurd (omega (arith, le))
cut_at (suc n) (suc p) [] le within = absurd (omega (arith, within))
cut_at (suc n) (suc p) (f ∷ fs) le within =
    let r = cut_at n p fs (omega (arith, le)) (omega (arith, within)) in
    let long = r.long in
    record { ahead = r.ahead; behind = r.behind; long = omega (arith, long); front = ap (λ (gs : List FieldTree). f ∷ gs) r.front; back = r.back; all = r.all }

take_put : (p : ℕ) (fs : List FieldTree) (f : FieldTree) → p ≤ length fs → take (p + 1) (insert fs p f) ≡ take p fs ++ f ∷ []
take_put zero fs f h = refl
take_put (suc p) [] f h = absurd (omega (arith, h))
take_put (suc p) (g ∷ fs) f h = let at : suc p + 1 ≡ suc (p + 1) = omega arith in rw (at) (ap (λ (gs : List FieldTree). g ∷ gs) (take_put p fs f (omega (arith, h))))

drop_put : (p : ℕ) (fs : List FieldTree) (f : FieldTree) → p ≤ length fs → drop (p + 1) (insert fs p f) ≡ drop p fs
drop_put zero fs f h = refl
drop_put (suc p) [] f h = absurd (omega (arith, h))
drop_put (suc p) (g ∷ fs) f h = let at : suc p + 1 ≡ suc (p + 1) = omega arith in rw (at) (drop_put p fs f (omega (arith, h)))

long_put : (p : ℕ) (fs : List FieldTree) (f : FieldTree) → p ≤ length fs → length (insert fs p f) ≡ suc (length fs)
long_put zero fs f h = refl
long_put (suc p) [] f h = absurd (omega (arith, h))
long_put (suc p) (g ∷ fs) f h = ap suc (long_put p fs f (omega (arith, h)))

same_length : (ahead cs : List FieldTree) (behind ds : List FieldTree) → length ahead ≡ length cs → ahead ++ behind ≡ cs ++ ds → (ahead ≡ cs) × (behind ≡ ds)
same_length [] [] behind ds h e = (refl, e)
same_length [] (c ∷ cs) behind ds h e = absurd (omega (arith, h))
same_length (a ∷ ahead) [] behind ds h e = absurd (omega (arith, h))
same_length (a ∷ ahead) (c ∷ cs) behind ds h e =
    let first : a ≡ c = cc in
    let later : ahead ++ behind ≡ cs ++ ds = cc in
    let more = same_length ahead cs behind ds (omega (arith, h)) later in
    (ap (λ (k : FieldTree). k ∷ ahead) first ∙ ap (λ (gs : List FieldTree). c ∷ gs) more.0, more.1)

module _ (integers : Integers) (depth : ℕ) (known : List FieldTree) (js : List Json) (next : ℕ) (fs : List FieldTree) (j : Json) (rest : List Json) (going : IsMerging integers depth known js next fs (j ∷ rest)) where
  ends_at : next + length (drop next fs) ≡ length fs
  ends_at = let within = going.within in omega (arith, within, length-drop next fs)

  next_of : (gs : List FieldTree) → Mixed integers depth 0 known js gs → (hs : List FieldTree) × (gs ≡ take next fs ++ hs) × IsNext integers depth next (drop next fs) j rest hs
  next_of gs h = let r = going.only gs h in (r.0, r.1, next_object integers depth next (drop next fs) j rest r.0 r.2)

  -- the object is of no field
  pub no_field : ((place : ℕ) (f : FieldTree) → IsOtherField integers depth (length fs) place f j → ⊥) → (gs : List FieldTree) → Mixed integers depth 0 known js gs → ⊥
  no_field none gs h =
      let r = (next_of gs h).2 in
      none (next + length r.ahead) r.f (subst (λ (e : ℕ). IsOtherField integers depth e (next + length r.ahead) r.f j) ends_at r.one)

  module _ (p : ℕ) (f : FieldTree) (few : length fs < 2 ^ 64) (one : IsOtherField integers depth (length fs) p f j) where
    -- it is of this field
    placed : (gs : List FieldTree) → Mixed integers depth 0 known js gs → (hs : List FieldTree) × (gs ≡ take next fs ++ hs) × (r : IsNext integers depth next (drop next fs) j rest hs) × (next + length r.ahead ≡ p) × (r.f ≡ f)
    placed gs h =
        let r = next_of gs h in
        let same = one_other integers depth (length fs) (next + length r.2.ahead) p r.2.f f j few (subst (λ (e : ℕ). IsOtherField integers depth e (next + length r.2.ahead) r.2.f j) ends_at r.2.one) one in
        (r.0, r.1, r.2, same.0, same.1)

    -- and that has a place before others that are read
    pub too_low : p < next → (gs : List FieldTree) → Mixed integers depth 0 known js gs → ⊥
    too_low low gs h = let r = placed gs h in let at = r.3 in omega (arith, low, at)

    pub goes_on : next ≤ p → IsMerging integers depth known js (p + 1) (insert fs p f) rest
    goes_on le =
        let within = one.within in
        let c = cut_at next p fs le within in
        let long = c.long in
        let taken = take_put p fs f within in
        let dropped = drop_put p fs f within ∙ c.back in
        let known_parts = known_after c.ahead c.behind (subst AreAllKnown c.all going.left) in
        let size = long_put p fs f within in
        let full : next + length (c.ahead ++ c.behind) ≡ length fs = ap (λ (gs : List FieldTree). next + length gs) (sym c.all) ∙ ends_at in
        record {
          left = subst AreAllKnown (sym dropped) known_parts.1;
          within = omega (arith, within, size);
          fits = λ gs h.
              let here : Mixed integers depth (next + length c.ahead + 1) c.behind rest gs = subst (λ (n : ℕ). Mixed integers depth (n + 1) c.behind rest gs) (sym long) (subst (λ (ks : List FieldTree). Mixed integers depth (p + 1) ks rest gs) dropped h) in
              let at : IsOtherField integers depth (length fs) (next + length c.ahead) f j = subst (λ (n : ℕ). IsOtherField integers depth (length fs) n f j) (sym long) one in
              let all = going.fits (c.ahead ++ f ∷ gs) (subst (λ (ks : List FieldTree). Mixed integers depth next ks (j ∷ rest) (c.ahead ++ f ∷ gs)) (sym c.all) (through integers depth next (length fs) c.ahead c.behind f j rest gs known_parts.0 full at here)) in
              let is : take next fs ++ (c.ahead ++ f ∷ gs) ≡ take (p + 1) (insert fs p f) ++ gs = sym (append_assoc (take next fs) c.ahead (f ∷ gs)) ∙ ap (λ (ks : List FieldTree). ks ++ f ∷ gs) (sym c.front) ∙ sym (append_assoc (take p fs) (f ∷ []) gs) ∙ ap (λ (ks : List FieldTree). ks ++ gs) (sym taken) in
              subst (Mixed integers depth 0 known js) is all;
          only = λ gs h.
              let r = placed gs h in
              let at = r.3 in
              let parts = same_length r.2.ahead c.ahead r.2.behind c.behind (omega (arith, at, long)) (sym r.2.known ∙ c.all) in
              let is : gs ≡ take (p + 1) (insert fs p f) ++ r.2.more =
              r.1 ∙ ap (λ (ks : List FieldTree). take next fs ++ ks) (r.2.all ∙ ap (λ (ks : List FieldTree). ks ++ r.2.f ∷ r.2.more) parts.0 ∙ ap (λ (k : FieldTree). c.ahead ++ k ∷ r.2.more) r.4)
              ∙ sym (append_assoc (take next fs) c.ahead (f ∷ r.2.more)) ∙ ap (λ (ks : List FieldTree). ks ++ f ∷ r.2.more) (sym c.front) ∙ sym (append_assoc (take p fs) (f ∷ []) r.2.more) ∙ ap (λ (ks : List FieldTree). ks ++ r.2.more) (sym taken) in
              let here = subst (λ (n : ℕ). Mixed integers depth (n + 1) r.2.behind rest r.2.more) at r.2.rest in
              (r.2.more, is, subst (λ (ks : List FieldTree). Mixed integers depth (p + 1) ks rest r.2.more) (parts.1 ∙ sym dropped) here);
        }

-- all objects have been read
module _ (integers : Integers) (depth : ℕ) (known : List FieldTree) (js : List Json) (next : ℕ) (fs : List FieldTree) (going : IsMerging integers depth known js next fs []) where
  pub merged : Mixed integers depth 0 known js fs
  merged = subst (Mixed integers depth 0 known js) (take-append-drop next fs) (going.fits (drop next fs) (all_known integers depth next (drop next fs) going.left))

  pub alone : (gs : List FieldTree) → Mixed integers depth 0 known js gs → gs ≡ fs
  alone gs h =
      let r = going.only gs h in
      r.1 ∙ ap (λ (ks : List FieldTree). take next fs ++ ks) (only_known integers depth next (drop next fs) r.0 r.2) ∙ take-append-drop next fs
