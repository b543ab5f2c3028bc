-- Values of one type that have one text in JSON are one value.
use Rattle.std.proofs.Common.{◌≡◌, ℕ, List, [], ◌∷◌, ◌++◌, drop, inl, inr, codes, refl, sym, ap, ◌∙◌, subst, arith, append_assoc}
use Rattle.std.proofs.lemmas.Bool.{cases_Bool}
use Rattle.std.proofs.lemmas.List.{append-nil, append_cancel_left}
use Rattle.std.specs.List.{flat_map}
use Rattle.dbus_texts.specs.Types.{NumberCode, TextCode, TypeTree, sig}
use Rattle.dbus_texts.specs.PlainTypes.{is_byte}
use Rattle.dbus_types.proofs.PrefixSteps.{text_same}
use Rattle.dbus_value_model.specs.Values as values
use Rattle.dbus_value_model.specs.Values.{ValueTree, ValueTrees, NumberValue, TextValue, VariantValue, ArrayValue, StructValue, EntryValue, NoValues, MoreValues, type_of, AllOf}
use Rattle.dbus_show.specs.ShownValues.{bytes_in}
use Rattle.dbus_json.specs.declared.integers.Integers.{Integers}
use Rattle.dbus_json.specs.JsonValues.{plain, listed, array, member, object, IsJson, AreJson, IsNumber}
use Rattle.dbus_json_laws.proofs.Strings.{same_string}
use Rattle.dbus_json_laws.proofs.Numbers.{Ends, NoBracket, plain_hex_same, number_same, number_first}
use Rattle.dbus_json_reader.proofs.NumberTexts.{same_head}
use Rattle.dbus_json_reader.proofs.SoundValues.{Sound, AreSound, Alike, alike_all, alike_types, bytes_of, are_bytes, bytes_same, element, parts_of, key_of, held_by}

-- ---- texts one after another

abbrev pub more : List (List ℕ) → List ℕ
more texts = flat_map (λ (t : List ℕ). codes "," ++ t) texts

-- a text that begins with a byte that ends a value
pub record Stop (u : List ℕ) : Type 0 where
  pub first : ℕ
  pub rest : List ℕ
  pub is : u ≡ first ∷ rest
  pub ends : Ends first

pub comma_ends : Ends 44
comma_ends = record { bare = λ b. b.comma refl; other = λ e. omega (arith, e) }

pub bracket_ends : Ends 93
bracket_ends = record { bare = λ b. b.bracket refl; other = λ e. omega (arith, e) }

pub brace_ends : Ends 125
brace_ends = record { bare = λ b. b.brace refl; other = λ e. omega (arith, e) }

-- what stands after an item of an array, or after a member
pub after_item : (ts : List (List ℕ)) (x : ℕ) (r : List ℕ) → Ends x → Stop (more ts ++ x ∷ r)
after_item [] x r ends = record { first = x; rest = r; is = refl; ends = ends }
after_item (t ∷ ts) x r ends = record { first = 44; rest = (t ++ more ts) ++ x ∷ r; is = refl; ends = comma_ends }

-- ---- the first byte of a value

json_first : (integers : Integers) (v : ValueTree) (text : List ℕ) → Sound v → IsJson integers v text → NoBracket text
json_first integers (NumberValue k n) text h is = number_first integers k n h text is
json_first integers (TextValue k t) text h is = subst NoBracket (sym is) (λ e. omega (arith, e))
json_first integers (ArrayValue t xs) text h is =
    elim (cases_Bool (is_byte t)) [
      | inl byte ↦ subst NoBracket (sym (is.0 byte)) (λ e. omega (arith, e))
      | inr other ↦ subst NoBracket (sym (is.1 other).2) (λ e. omega (arith, e))
    ]
json_first integers (StructValue xs) text h is = subst NoBracket (sym is.2) (λ e. omega (arith, e))
json_first integers (EntryValue x y) text h is = subst NoBracket (sym is.4) (λ e. omega (arith, e))
json_first integers (VariantValue x) text h is = subst NoBracket (sym is.2) (λ e. omega (arith, e))

pub not_bracket : (t r q : List ℕ) → NoBracket t → t ++ r ≡ 93 ∷ q → ⊥
not_bracket [] r q h e = absurd h
not_bracket (c ∷ t) r q h e = h (same_head c 93 (t ++ r) q e).0

-- ---- containers, cut at their brackets

array_cut : (ss : List (List ℕ)) (r : List ℕ) → array ss ++ r ≡ 91 ∷ (listed ss ++ 93 ∷ r)
array_cut ss r = ap (λ (u : List ℕ). 91 ∷ u) (append_assoc (listed ss) (93 ∷ []) r)

-- two texts that begin with an array
pub arrays_inside : (ss ts : List (List ℕ)) (s t r q : List ℕ) → s ≡ array ss → t ≡ array ts → s ++ r ≡ t ++ q → listed ss ++ 93 ∷ r ≡ listed ts ++ 93 ∷ q
arrays_inside ss ts s t r q a b e =
    ap (λ (u : List ℕ). drop 1 u) (sym (array_cut ss r) ∙ ap (λ (u : List ℕ). u ++ r) (sym a) ∙ e ∙ ap (λ (u : List ℕ). u ++ q) b ∙ array_cut ts q)

more_one : (t r : List ℕ) → more (t ∷ []) ++ r ≡ 44 ∷ (t ++ r)
more_one t r = ap (λ (u : List ℕ). 44 ∷ (u ++ r)) (append-nil t)

-- two texts that begin with a signature
pub same_signature : (a b : TypeTree) (r q : List ℕ) → plain (sig a) ++ r ≡ plain (sig b) ++ q → (a ≡ b) × (r ≡ q)
same_signature a b r q e =
    let inside : sig a ++ 34 ∷ r ≡ sig b ++ 34 ∷ q = sym (append_assoc (sig a) (34 ∷ []) r) ∙ ap (λ (u : List ℕ). drop 1 u) e ∙ append_assoc (sig b) (34 ∷ []) q in
    let parts = text_same a b (34 ∷ r) (34 ∷ q) inside in
    (parts.0, (same_head 34 34 r q parts.1).1)

-- a variant
abbrev typed : (t : TypeTree) → (value : List ℕ) → List ℕ
typed t value = object (member (codes "type") (plain (sig t)) ∷ member (codes "value") value ∷ [])

typed_cut : (t : TypeTree) (value r : List ℕ) → typed t value ++ r ≡ codes "{\"type\":" ++ (plain (sig t) ++ (codes ",\"value\":" ++ (value ++ 125 ∷ r)))
typed_cut t value r = simp (append_assoc, append-nil)

typed_inside : (a b : TypeTree) (x y s t r q : List ℕ) → s ≡ typed a x → t ≡ typed b y → s ++ r ≡ t ++ q → (a ≡ b) × (x ++ 125 ∷ r ≡ y ++ 125 ∷ q)
typed_inside a b x y s t r q f g e =
    let all = sym (typed_cut a x r) ∙ ap (λ (u : List ℕ). u ++ r) (sym f) ∙ e ∙ ap (λ (u : List ℕ). u ++ q) g ∙ typed_cut b y q in
    let types = same_signature a b (codes ",\"value\":" ++ (x ++ 125 ∷ r)) (codes ",\"value\":" ++ (y ++ 125 ∷ q)) (append_cancel_left (codes "{\"type\":") _ _ all) in
    (types.0, append_cancel_left (codes ",\"value\":") (x ++ 125 ∷ r) (y ++ 125 ∷ q) types.1)

pub bracket_stop : (r : List ℕ) → Stop (93 ∷ r)
bracket_stop r = record { first = 93; rest = r; is = refl; ends = bracket_ends }

pub brace_stop : (r : List ℕ) → Stop (125 ∷ r)
brace_stop r = record { first = 125; rest = r; is = refl; ends = brace_ends }

-- the first item of two arrays, and what follows it
items_apart : (s t : List ℕ) (ss ts : List (List ℕ)) (r q : List ℕ) → (s ++ more ss) ++ 93 ∷ r ≡ (t ++ more ts) ++ 93 ∷ q → s ++ (more ss ++ 93 ∷ r) ≡ t ++ (more ts ++ 93 ∷ q)
items_apart s t ss ts r q e = sym (append_assoc s (more ss) (93 ∷ r)) ∙ e ∙ append_assoc t (more ts) (93 ∷ q)

-- ---- values

mutual
  pub same_json : (integers : Integers) (v w : ValueTree) → Sound v → Sound w → type_of v ≡ type_of w → (s t : List ℕ) → IsJson integers v s → IsJson integers w t → (r q : List ℕ) → Stop r → Stop q → s ++ r ≡ t ++ q → (v ≡ w) × (r ≡ q)
  same_json integers (NumberValue k m) (NumberValue j n) h l e s t a b r q p o eq =
      let same : j ≡ k = cc in
      let joined : s ++ p.first ∷ p.rest ≡ t ++ o.first ∷ o.rest = ap (λ (u : List ℕ). s ++ u) (sym p.is) ∙ eq ∙ ap (λ (u : List ℕ). t ++ u) o.is in
      let parts = number_same integers k m n h (subst (λ (c : NumberCode). values.IsNumber c n) same l) s t a (subst (λ (c : NumberCode). IsNumber integers c n t) same b) p.first o.first p.rest o.rest p.ends o.ends joined in
      (ap (NumberValue k) parts.0 ∙ ap (λ (c : NumberCode). NumberValue c n) (sym same), p.is ∙ parts.1 ∙ sym o.is)
  same_json integers (TextValue k x) (TextValue j y) h l e s t a b r q p o eq =
      let same : k ≡ j = cc in
      let parts = same_string x y r q h l (ap (λ (u : List ℕ). u ++ r) (sym a) ∙ eq ∙ ap (λ (u : List ℕ). u ++ q) b) in
      (ap (TextValue k) parts.0 ∙ ap (λ (c : TextCode). TextValue c y) same, parts.1)
  same_json integers (VariantValue x) (VariantValue y) h l e s t a b r q p o eq =
      let inside = typed_inside (type_of x) (type_of y) a.0 b.0 s t r q a.2 b.2 eq in
      let parts = same_json integers x y h l inside.0 a.0 b.0 a.1 b.1 (125 ∷ r) (125 ∷ q) (brace_stop r) (brace_stop q) inside.1 in
      (ap VariantValue parts.0, (same_head 125 125 r q parts.1).1)
  same_json integers (ArrayValue t xs) (ArrayValue u ys) h l e s z a b r q p o eq =
      let same : u ≡ t = sym (ap element e) in
      let all : AllOf t ys = subst (λ (c : TypeTree). AllOf c ys) same l.0 in
      let json : IsJson integers (ArrayValue t ys) z = subst (λ (c : TypeTree). IsJson integers (ArrayValue c ys) z) same b in
      let parts : (xs ≡ ys) × (r ≡ q) = elim (cases_Bool (is_byte t)) [
        | inl byte ↦ (
            let first = bytes_of t xs byte h.0 in
            let second = bytes_of t ys byte all in
            let texts = plain_hex_same (bytes_in xs) (bytes_in ys) r q (are_bytes xs first h.1) (are_bytes ys second l.1) (ap (λ (c : List ℕ). c ++ r) (sym (a.0 byte)) ∙ eq ∙ ap (λ (c : List ℕ). c ++ q) (json.0 byte)) in
            (bytes_same xs ys first second h.1 l.1 texts.0, texts.1)
            )
        | inr other ↦ (
            let first = a.1 other in
            let second = json.1 other in
            same_listed integers xs ys h.1 l.1 (alike_all t xs ys h.0 all) first.0 second.0 first.1 second.1 r q (arrays_inside first.0 second.0 s z r q first.2 second.2 eq)
            )
      ] in
      (ap (ArrayValue t) parts.0 ∙ ap (λ (c : TypeTree). ArrayValue c ys) (sym same), parts.1)
  same_json integers (StructValue xs) (StructValue ys) h l e s t a b r q p o eq =
      let parts = same_listed integers xs ys h l (alike_types xs ys (ap parts_of e)) a.0 b.0 a.1 b.1 r q (arrays_inside a.0 b.0 s t r q a.2 b.2 eq) in
      (ap StructValue parts.0, parts.1)
  same_json integers (EntryValue k v) (EntryValue j w) h l e s t a b r q p o eq =
      let inside = items_apart a.0 b.0 (a.1 ∷ []) (b.1 ∷ []) r q (arrays_inside (a.0 ∷ a.1 ∷ []) (b.0 ∷ b.1 ∷ []) s t r q a.4 b.4 eq) in
      let keys = same_json integers k j h.0 l.0 (ap key_of e) a.0 b.0 a.2 b.2 _ _ (after_item (a.1 ∷ []) 93 r bracket_ends) (after_item (b.1 ∷ []) 93 q bracket_ends) inside in
      let rest : a.1 ++ 93 ∷ r ≡ b.1 ++ 93 ∷ q = ap (λ (u : List ℕ). drop 1 u) (sym (more_one a.1 (93 ∷ r)) ∙ keys.1 ∙ more_one b.1 (93 ∷ q)) in
      let values = same_json integers v w h.1 l.1 (ap held_by e) a.1 b.1 a.3 b.3 (93 ∷ r) (93 ∷ q) (bracket_stop r) (bracket_stop q) rest in
      (ap (λ (c : ValueTree). EntryValue c v) keys.0 ∙ ap (EntryValue j) values.0, (same_head 93 93 r q values.1).1)
  same_json integers v w h l e s t a b r q p o eq = absurd (cc)

  -- the items of two arrays
  pub same_listed : (integers : Integers) (xs ys : ValueTrees) → AreSound xs → AreSound ys → Alike xs ys → (ss ts : List (List ℕ)) → AreJson integers xs ss → AreJson integers ys ts → (r q : List ℕ) → listed ss ++ 93 ∷ r ≡ listed ts ++ 93 ∷ q → (xs ≡ ys) × (r ≡ q)
  same_listed integers NoValues NoValues h l e [] [] a b r q eq = (refl, (same_head 93 93 r q eq).1)
  same_listed integers NoValues (MoreValues y ys) h l e [] (t ∷ ts) a b r q eq = absurd (not_bracket t (more ts ++ 93 ∷ q) r (json_first integers y t l.0 b.0) (sym (eq ∙ append_assoc t (more ts) (93 ∷ q))))
  same_listed integers (MoreValues x xs) NoValues h l e (s ∷ ss) [] a b r q eq = absurd (not_bracket s (more ss ++ 93 ∷ r) q (json_first integers x s h.0 a.0) (sym (append_assoc s (more ss) (93 ∷ r)) ∙ eq))
  same_listed integers (MoreValues x xs) (MoreValues y ys) h l e (s ∷ ss) (t ∷ ts) a b r q eq =
      let one = same_json integers x y h.0 l.0 e.0 s t a.0 b.0 (more ss ++ 93 ∷ r) (more ts ++ 93 ∷ q) (after_item ss 93 r bracket_ends) (after_item ts 93 q bracket_ends) (items_apart s t ss ts r q eq) in
      let others = same_more integers xs ys h.1 l.1 e.1 ss ts a.1 b.1 r q one.1 in
      (ap (λ (c : ValueTree). MoreValues c xs) one.0 ∙ ap (MoreValues y) others.0, others.1)
  same_listed integers NoValues ys h l e (s ∷ ss) ts a b r q eq = absurd a
  same_listed integers xs NoValues h l e ss (t ∷ ts) a b r q eq = absurd b
  same_listed integers (MoreValues x xs) ys h l e [] ts a b r q eq = absurd a
  same_listed integers xs (MoreValues y ys) h l e ss [] a b r q eq = absurd b

  -- those after the first
  same_more : (integers : Integers) (xs ys : ValueTrees) → AreSound xs → AreSound ys → Alike xs ys → (ss ts : List (List ℕ)) → AreJson integers xs ss → AreJson integers ys ts → (r q : List ℕ) → more ss ++ 93 ∷ r ≡ more ts ++ 93 ∷ q → (xs ≡ ys) × (r ≡ q)
  same_more integers NoValues NoValues h l e [] [] a b r q eq = (refl, (same_head 93 93 r q eq).1)
  same_more integers NoValues (MoreValues y ys) h l e [] (t ∷ ts) a b r q eq = absurd (let first : 93 ≡ 44 = (same_head 93 44 r ((t ++ more ts) ++ 93 ∷ q) eq).0 in omega (arith, first))
  same_more integers (MoreValues x xs) NoValues h l e (s ∷ ss) [] a b r q eq = absurd (let first : 44 ≡ 93 = (same_head 44 93 ((s ++ more ss) ++ 93 ∷ r) q eq).0 in omega (arith, first))
  same_more integers (MoreValues x xs) (MoreValues y ys) h l e (s ∷ ss) (t ∷ ts) a b r q eq =
      let inside : (s ++ more ss) ++ 93 ∷ r ≡ (t ++ more ts) ++ 93 ∷ q = (same_head 44 44 ((s ++ more ss) ++ 93 ∷ r) ((t ++ more ts) ++ 93 ∷ q) eq).1 in
      let one = same_json integers x y h.0 l.0 e.0 s t a.0 b.0 (more ss ++ 93 ∷ r) (more ts ++ 93 ∷ q) (after_item ss 93 r bracket_ends) (after_item ts 93 q bracket_ends) (items_apart s t ss ts r q inside) in
      let others = same_more integers xs ys h.1 l.1 e.1 ss ts a.1 b.1 r q one.1 in
      (ap (λ (c : ValueTree). MoreValues c xs) one.0 ∙ ap (MoreValues y) others.0, others.1)
  same_more integers NoValues ys h l e (s ∷ ss) ts a b r q eq = absurd a
  same_more integers xs NoValues h l e ss (t ∷ ts) a b r q eq = absurd b
  same_more integers (MoreValues x xs) ys h l e [] ts a b r q eq = absurd a
  same_more integers xs (MoreValues y ys) h l e ss [] a b r q eq = absurd b
