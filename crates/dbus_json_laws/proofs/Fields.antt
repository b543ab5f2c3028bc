-- Header fields that have one text in JSON are one row of fields.
use Rattle.std.proofs.Common.{◌≡◌, ℕ, ◌+◌, ◌^◌, ◌<◌, ◌≤◌, Bool, true, false, cond, eqb, List, [], ◌∷◌, ◌++◌, length, get_or, map, filter, Option, Some, None, inl, inr, codes, decimal, refl, sym, ap, ◌∙◌, subst, arith, append_assoc}
use Rattle.std.proofs.lemmas.Bool.{cases_Bool, eq-eqb, eqb-true, true≢false}
use Rattle.std.proofs.lemmas.Fmt.{decimal_injective}
use Rattle.std.proofs.lemmas.List.{append-nil, append_cancel_left, length-append}
use Rattle.std.specs.List.{enumerate_from}
use Rattle.dbus_texts.specs.Types.{sig}
use Rattle.dbus_value_model.specs.Spelling.{spelling, spellings}
use Rattle.dbus_value_model.specs.declared.order.Order.{Order}
use Rattle.dbus_value_model.specs.Values.{ValueTree, value_trees, type_of}
use Rattle.dbus_walk.proofs.Parts.{stands_positive}
use Rattle.dbus_message_model.specs.Messages.{FieldTree, field_struct, want, is_known, is_particular, Want, Anything, OfType, Name, Serial, Suits, AreFields}
use Rattle.dbus_show.specs.ShownMessages.{field_name}
use Rattle.dbus_value_text.specs.Forms.{AreFieldTexts}
use Rattle.dbus_json.specs.declared.integers.Integers.{Integers}
use Rattle.dbus_json.specs.JsonValues.{plain, member, object, listed}
use Rattle.dbus_json.specs.JsonMessages.{IsKnown, IsOther, place_members, end_text}
use Rattle.dbus_json.proofs.FieldTexts.{other_text}
use Rattle.dbus_json_laws.proofs.Numbers.{Bare, AreAll, cut, decimal_bare, bare_literal, plain_same}
use Rattle.dbus_json_reader.proofs.KnownNames.{code_in, unknown}
use Rattle.dbus_json_reader.proofs.NumberTexts.{same_head}
use Rattle.dbus_json_reader.proofs.SoundValues.{Sound, AreSound}
use Rattle.dbus_json_laws.proofs.Values.{Stop, more, comma_ends, after_item, brace_stop, same_json, same_signature}
use Rattle.dbus_json_laws.proofs.Mixing.{Placed, field_of, told}

-- ---- what is known of a message's fields

-- a field at its place
pub record Fit (p : Placed) : Type 0 where
  pub place : p.0 < 2 ^ 64
  pub code : p.1.code < 256
  pub suits : Suits (want p.1.code) p.1.value
  pub sound : Sound p.1.value

abbrev pub AllFit : List Placed → Type 0
AllFit [] = Unit {0}
AllFit (p ∷ ps) = Fit p × AllFit ps

pub all_fit : (before fs : List FieldTree) (n : ℕ) → n + length fs < 2 ^ 64 → AreFields before fs → AreSound (value_trees (map field_struct fs)) → AllFit (enumerate_from n fs)
all_fit before [] n few are sound = tt
all_fit before (f ∷ fs) n few are sound =
    (record { place = omega (arith, few); code = sound.0.0; suits = are.0.suits; sound = sound.0.1.0 }, all_fit (f ∷ before) fs (n + 1) (omega (arith, few)) are.1 sound.1)

-- those that pass a test
abbrev pub AllPass : (Placed → Bool) → List Placed → Type 0
AllPass test [] = Unit {0}
AllPass test (p ∷ ps) = (Fit p × (test p ≡ true)) × AllPass test ps

pub all_pass : (test : Placed → Bool) (ps : List Placed) → AllFit ps → AllPass test (filter test ps)
all_pass test [] h = tt
all_pass test (p ∷ ps) h =
    elim (cases_Bool (test p)) [
      | inl e ↦ subst (λ (b : Bool). AllPass test (cond b (p ∷ filter test ps) (filter test ps))) (sym e) ((h.0, e), all_pass test ps h.1)
      | inr e ↦ subst (λ (b : Bool). AllPass test (cond b (p ∷ filter test ps) (filter test ps))) (sym e) (all_pass test ps h.1)
    ]

pub passing : (test : Placed → Bool) (ps : List Placed) → AllPass test ps → AllFit ps
passing test [] h = tt
passing test (p ∷ ps) h = (h.0.0, passing test ps h.1)

-- each field takes a byte at least
pub few_fields : (order : Order) (o : ℕ) (fs : List FieldTree) → length fs ≤ length (spellings order o (value_trees (map field_struct fs)))
unfolding spellings
few_fields order o [] = omega arith
few_fields order o (f ∷ fs) =
    let one = spelling order o (field_struct f) in
    let some = stands_positive order (field_struct f) o (tt, (tt, tt)) in
    let more = few_fields order (o + length one) fs in
    omega (arith, some, more, length-append one (spellings order (o + length one) (value_trees (map field_struct fs))))

-- ---- known fields

-- the name of a known code, read back
abbrev Named : ℕ → Type 0
Named code = (code_in (field_name code) ≡ code) × AreAll Bare (field_name code)

named_if : (b : Bool) (code k : ℕ) (name rest : List ℕ) → eqb code k ≡ b → code_in name ≡ k → AreAll Bare name → ((code ≡ k → ⊥) → (code_in rest ≡ code) × AreAll Bare rest) → (code_in (cond b name rest) ≡ code) × AreAll Bare (cond b name rest)
named_if true code k name rest e is bare other = (is ∙ sym (eqb-true code k e), bare)
named_if false code k name rest e is bare other = other (λ same. true≢false (sym (eq-eqb code k same) ∙ e))

named : (code : ℕ) → is_known code ≡ true → Named code
named code known =
    named_if (eqb code 1) code 1 _ _ refl refl (bare_literal (codes "path") refl) (λ a.
    named_if (eqb code 2) code 2 _ _ refl refl (bare_literal (codes "interface") refl) (λ b.
    named_if (eqb code 3) code 3 _ _ refl refl (bare_literal (codes "member") refl) (λ c.
    named_if (eqb code 4) code 4 _ _ refl refl (bare_literal (codes "error_name") refl) (λ d.
    named_if (eqb code 5) code 5 _ _ refl refl (bare_literal (codes "reply_serial") refl) (λ e.
    named_if (eqb code 6) code 6 _ _ refl refl (bare_literal (codes "destination") refl) (λ f.
    named_if (eqb code 7) code 7 _ _ refl refl (bare_literal (codes "sender") refl) (λ g.
    named_if (eqb code 8) code 8 _ _ refl refl (bare_literal (codes "signature") refl) (λ h.
    named_if (eqb code 9) code 9 _ _ refl refl (bare_literal (codes "unix_fds") refl) (λ i.
    absurd (true≢false (sym known ∙ unknown code a b c d e f g h i)))))))))))

-- what a known field holds is of one type
one_type : (w : Want) (v u : ValueTree) → is_particular w ≡ true → Suits w v → Suits w u → type_of v ≡ type_of u
one_type Anything v u known a b = absurd (true≢false (sym known))
one_type (OfType t) v u known a b = a ∙ sym b
one_type (Name k) v u known a b = ap type_of a.1 ∙ sym (ap type_of b.1)
one_type Serial v u known a b = ap type_of a.1 ∙ sym (ap type_of b.1)

abbrev is_known_at : Placed → Bool
is_known_at p = is_known p.1.code

abbrev pub AreKnownTexts : (integers : Integers) → List Placed → List (List ℕ) → Type 0
AreKnownTexts integers ps texts = AreFieldTexts (λ _ code v text. IsKnown integers code v text) ps texts

-- a member, cut behind its name
member_cut : (name value r : List ℕ) → member name value ++ r ≡ plain name ++ 58 ∷ (value ++ r)
member_cut name value r = append_assoc (plain name) (58 ∷ value) r

-- the members of known fields, before one of another name
module _ (integers : Integers) (end r q : List ℕ) (bare : AreAll Bare end) (other : code_in end ≡ 0) where
  abbrev tail : List ℕ → List ℕ
  tail r = 44 ∷ (plain end ++ r)

  no_end : (q : Placed) (value u v : List ℕ) → is_known_at q ≡ true → plain end ++ u ≡ plain (field_name q.1.code) ++ v → ⊥
  no_end q value u v known e =
      let name = named q.1.code known in
      let parts = plain_same end (field_name q.1.code) u v bare name.1 e in
      let none : q.1.code ≡ 0 = sym name.0 ∙ sym (ap code_in parts.0) ∙ other in
      true≢false (sym known ∙ ap is_known none)

  pub same_known : (ps qs : List Placed) → AllPass is_known_at ps → AllPass is_known_at qs → (ss ts : List (List ℕ)) → AreKnownTexts integers ps ss → AreKnownTexts integers qs ts → more ss ++ tail r ≡ more ts ++ tail q
      → (map field_of ps ≡ map field_of qs) × (r ≡ q)
  same_known [] [] h l [] [] a b e = (refl, append_cancel_left (44 ∷ plain end) r q e)
  same_known [] (p ∷ ps) h l [] (t ∷ ts) a b e =
      let text = ap (λ (u : List ℕ). u ++ (more ts ++ tail q)) b.0.is ∙ member_cut (field_name p.1.code) b.0.value (more ts ++ tail q) in
      absurd (no_end p b.0.value r (58 ∷ (b.0.value ++ (more ts ++ tail q))) l.0.1 ((same_head 44 44 (plain end ++ r) ((t ++ more ts) ++ tail q) e).1 ∙ append_assoc t (more ts) (tail q) ∙ text))
  same_known (p ∷ ps) [] h l (s ∷ ss) [] a b e =
      let text = ap (λ (u : List ℕ). u ++ (more ss ++ tail r)) a.0.is ∙ member_cut (field_name p.1.code) a.0.value (more ss ++ tail r) in
      absurd (no_end p a.0.value q (58 ∷ (a.0.value ++ (more ss ++ tail r))) h.0.1 (sym (same_head 44 44 ((s ++ more ss) ++ tail r) (plain end ++ q) e).1 ∙ append_assoc s (more ss) (tail r) ∙ text))
  same_known (p ∷ ps) (o ∷ qs) h l (s ∷ ss) (t ∷ ts) a b e =
      let left = append_assoc s (more ss) (tail r) ∙ ap (λ (u : List ℕ). u ++ (more ss ++ tail r)) a.0.is ∙ member_cut (field_name p.1.code) a.0.value (more ss ++ tail r) in
      let right = append_assoc t (more ts) (tail q) ∙ ap (λ (u : List ℕ). u ++ (more ts ++ tail q)) b.0.is ∙ member_cut (field_name o.1.code) b.0.value (more ts ++ tail q) in
      let first = named p.1.code h.0.1 in
      let second = named o.1.code l.0.1 in
      let names = plain_same (field_name p.1.code) (field_name o.1.code) (58 ∷ (a.0.value ++ (more ss ++ tail r))) (58 ∷ (b.0.value ++ (more ts ++ tail q))) first.1 second.1
      (sym left ∙ (same_head 44 44 ((s ++ more ss) ++ tail r) ((t ++ more ts) ++ tail q) e).1 ∙ right) in
      let code : p.1.code ≡ o.1.code = sym first.0 ∙ ap code_in names.0 ∙ second.0 in
      let suits : Suits (want p.1.code) o.1.value = subst (λ (c : ℕ). Suits (want c) o.1.value) (sym code) l.0.0.suits in
      let types = one_type (want p.1.code) p.1.value o.1.value h.0.1 h.0.0.suits suits in
      let values = same_json integers p.1.value o.1.value h.0.0.sound l.0.0.sound types a.0.value b.0.value a.0.json b.0.json (more ss ++ tail r) (more ts ++ tail q) (after_item ss 44 (plain end ++ r) comma_ends) (after_item ts 44 (plain end ++ q) comma_ends)
      (same_head 58 58 (a.0.value ++ (more ss ++ tail r)) (b.0.value ++ (more ts ++ tail q)) names.1).1 in
      let rest = same_known ps qs h.1 l.1 ss ts a.1 b.1 values.1 in
      let field : p.1 ≡ o.1 = ap (λ (c : ℕ). record { code = c; value = p.1.value }) code ∙ ap (λ (v : ValueTree). record { code = o.1.code; value = v }) values.0 in
      (ap (λ (f : FieldTree). f ∷ map field_of ps) field ∙ ap (λ (fs : List FieldTree). o.1 ∷ fs) rest.0, rest.1)
  same_known [] qs h l (s ∷ ss) ts a b e = absurd a
  same_known ps [] h l ss (t ∷ ts) a b e = absurd b
  same_known (p ∷ ps) qs h l [] ts a b e = absurd a
  same_known ps (o ∷ qs) h l ss [] a b e = absurd b

-- ---- fields that are not known

abbrev end_of : Bool → (place : ℕ) → List ℕ → List ℕ
end_of true place r = codes ",\"place\":" ++ (decimal place ++ 125 ∷ r)
end_of false place r = 125 ∷ r

end_is : (b : Bool) (place : ℕ) (r : List ℕ) → end_text b place ++ r ≡ end_of b place r
end_is true place r =
    append_assoc (codes "," ++ (member (codes "place") (decimal place) ++ [])) (codes "}") r ∙ ap (λ (u : List ℕ). (codes "," ++ u) ++ 125 ∷ r) (append-nil (member (codes "place") (decimal place)))
end_is false place r = refl

parts_cut : (code type value end r : List ℕ)
    → (codes "{\"code\":" ++ (code ++ (codes ",\"type\":\"" ++ (type ++ (codes "\",\"value\":" ++ (value ++ end)))))) ++ r
    ≡ codes "{\"code\":" ++ (code ++ 44 ∷ (codes "\"type\":" ++ (plain type ++ (codes ",\"value\":" ++ (value ++ (end ++ r))))))
parts_cut code type value end r =
    let inner = append_assoc type (codes "\",\"value\":" ++ (value ++ end)) r ∙ ap (λ (u : List ℕ). type ++ (codes "\",\"value\":" ++ u)) (append_assoc value end r) in
    ap (λ (u : List ℕ). codes "{\"code\":" ++ u)
    (append_assoc code (codes ",\"type\":\"" ++ (type ++ (codes "\",\"value\":" ++ (value ++ end)))) r
    ∙ ap (λ (u : List ℕ). code ++ (codes ",\"type\":\"" ++ u)) (inner ∙ sym (append_assoc type (34 ∷ []) (codes ",\"value\":" ++ (value ++ (end ++ r))))))

other_cut : (b : Bool) (place code : ℕ) (v : ValueTree) (value r : List ℕ)
    → object (member (codes "code") (decimal code) ∷ member (codes "type") (plain (sig (type_of v))) ∷ member (codes "value") value ∷ place_members b place) ++ r
    ≡ codes "{\"code\":" ++ (decimal code ++ 44 ∷ (codes "\"type\":" ++ (plain (sig (type_of v)) ++ (codes ",\"value\":" ++ (value ++ end_of b place r)))))
other_cut b place code v value r =
    ap (λ (u : List ℕ). u ++ r) (sym (other_text b place code v value (sig (type_of v)) refl))
    ∙ parts_cut (decimal code) (sig (type_of v)) value (end_text b place) r
    ∙ ap (λ (u : List ℕ). codes "{\"code\":" ++ (decimal code ++ 44 ∷ (codes "\"type\":" ++ (plain (sig (type_of v)) ++ (codes ",\"value\":" ++ (value ++ u)))))) (end_is b place r)

end_stop : (b : Bool) (place : ℕ) (r : List ℕ) → Stop (end_of b place r)
end_stop true place r = record { first = 44; rest = codes "\"place\":" ++ (decimal place ++ 125 ∷ r); is = refl; ends = comma_ends }
end_stop false place r = brace_stop r

-- what is told of a place
same_end : (b c : Bool) (n m : ℕ) (r q : List ℕ) → n < 2 ^ 64 → m < 2 ^ 64 → end_of b n r ≡ end_of c m q → (cond b (Some n) None ≡ cond c (Some m) None) × (r ≡ q)
same_end true true n m r q h k e =
    let parts = cut Bare (decimal n) (decimal m) 125 125 r q (decimal_bare n) (decimal_bare m) (λ b. b.brace refl) (λ b. b.brace refl) (append_cancel_left (codes ",\"place\":") _ _ e) in
    (ap Some (decimal_injective n m h k parts.0), (same_head 125 125 r q parts.1).1)
same_end true false n m r q h k e = absurd (let first : 44 ≡ 125 = ap (λ (u : List ℕ). get_or u 0 0) e in omega (arith, first))
same_end false true n m r q h k e = absurd (let first : 125 ≡ 44 = ap (λ (u : List ℕ). get_or u 0 0) e in omega (arith, first))
same_end false false n m r q h k e = (refl, (same_head 125 125 r q e).1)

-- two texts that begin with an object of `fields`
same_other : (integers : Integers) (b c : Bool) (p o : Placed) → Fit p → Fit o → (s t : List ℕ) → IsOther integers b p.0 p.1.code p.1.value s → IsOther integers c o.0 o.1.code o.1.value t → (r q : List ℕ) → s ++ r ≡ t ++ q
    → (p.1 ≡ o.1) × (cond b (Some p.0) None ≡ cond c (Some o.0) None) × (r ≡ q)
same_other integers b c p o h l s t a d r q e =
    let left = ap (λ (u : List ℕ). u ++ r) a.is ∙ other_cut b p.0 p.1.code p.1.value a.value r in
    let right = ap (λ (u : List ℕ). u ++ q) d.is ∙ other_cut c o.0 o.1.code o.1.value d.value q in
    let coded = cut Bare (decimal p.1.code) (decimal o.1.code) 44 44 _ _ (decimal_bare p.1.code) (decimal_bare o.1.code) (λ x. x.comma refl) (λ x. x.comma refl) (append_cancel_left (codes "{\"code\":") _ _ (sym left ∙ e ∙ right)) in
    let code : p.1.code ≡ o.1.code = decimal_injective p.1.code o.1.code (omega (arith, h.code)) (omega (arith, l.code)) coded.0 in
    let typed = same_signature (type_of p.1.value) (type_of o.1.value) _ _ (append_cancel_left (codes ",\"type\":") _ _ coded.1) in
    let valued = same_json integers p.1.value o.1.value h.sound l.sound typed.0 a.value d.value a.json d.json (end_of b p.0 r) (end_of c o.0 q) (end_stop b p.0 r) (end_stop c o.0 q) (append_cancel_left (codes ",\"value\":") _ _ typed.1) in
    let placed = same_end b c p.0 o.0 r q h.place l.place valued.1 in
    let field : p.1 ≡ o.1 = ap (λ (k : ℕ). record { code = k; value = p.1.value }) code ∙ ap (λ (v : ValueTree). record { code = o.1.code; value = v }) valued.0 in
    (field, placed.0, placed.1)

abbrev pub AreOtherTexts : (integers : Integers) → (ℕ → Bool) → List Placed → List (List ℕ) → Type 0
AreOtherTexts integers is_before ps texts = AreFieldTexts (λ place code v text. IsOther integers (is_before place) place code v text) ps texts

-- an object does not begin with a bracket
no_object : (integers : Integers) (b : Bool) (p : Placed) (t : List ℕ) → IsOther integers b p.0 p.1.code p.1.value t → (r q : List ℕ) → t ++ r ≡ 93 ∷ q → ⊥
no_object integers b p t a r q e = let first : 123 ≡ 93 = ap (λ (u : List ℕ). get_or u 0 0) (ap (λ (u : List ℕ). u ++ r) (sym a.is) ∙ e) in omega (arith, first)

module _ (integers : Integers) (f g : ℕ → Bool) (r q : List ℕ) where
  -- after the first
  same_others : (ps qs : List Placed) → AllFit ps → AllFit qs → (ss ts : List (List ℕ)) → AreOtherTexts integers f ps ss → AreOtherTexts integers g qs ts → more ss ++ 93 ∷ r ≡ more ts ++ 93 ∷ q → (map (told f) ps ≡ map (told g) qs) × (r ≡ q)
  same_others [] [] h l [] [] a b e = (refl, (same_head 93 93 r q e).1)
  same_others [] (o ∷ qs) h l [] (t ∷ ts) a b e = absurd (let first : 93 ≡ 44 = ap (λ (u : List ℕ). get_or u 0 0) e in omega (arith, first))
  same_others (p ∷ ps) [] h l (s ∷ ss) [] a b e = absurd (let first : 44 ≡ 93 = ap (λ (u : List ℕ). get_or u 0 0) e in omega (arith, first))
  same_others (p ∷ ps) (o ∷ qs) h l (s ∷ ss) (t ∷ ts) a b e =
      let inside = sym (append_assoc s (more ss) (93 ∷ r)) ∙ (same_head 44 44 ((s ++ more ss) ++ 93 ∷ r) ((t ++ more ts) ++ 93 ∷ q) e).1 ∙ append_assoc t (more ts) (93 ∷ q) in
      let one = same_other integers (f p.0) (g o.0) p o h.0 l.0 s t a.0 b.0 (more ss ++ 93 ∷ r) (more ts ++ 93 ∷ q) inside in
      let rest = same_others ps qs h.1 l.1 ss ts a.1 b.1 one.2 in
      (ap (λ (k : FieldTree). (k, cond (f p.0) (Some p.0) None) ∷ map (told f) ps) one.0 ∙ ap (λ (k : Option ℕ). (o.1, k) ∷ map (told f) ps) one.1 ∙ ap (λ (ks : List (FieldTree × Option ℕ)). told g o ∷ ks) rest.0, rest.1)
  same_others [] qs h l (s ∷ ss) ts a b e = absurd a
  same_others ps [] h l ss (t ∷ ts) a b e = absurd b
  same_others (p ∷ ps) qs h l [] ts a b e = absurd a
  same_others ps (o ∷ qs) h l ss [] a b e = absurd b

  -- the objects of two arrays
  pub same_objects : (ps qs : List Placed) → AllFit ps → AllFit qs → (ss ts : List (List ℕ)) → AreOtherTexts integers f ps ss → AreOtherTexts integers g qs ts → listed ss ++ 93 ∷ r ≡ listed ts ++ 93 ∷ q → (map (told f) ps ≡ map (told g) qs) × (r ≡ q)
  same_objects [] [] h l [] [] a b e = (refl, (same_head 93 93 r q e).1)
  same_objects [] (o ∷ qs) h l [] (t ∷ ts) a b e = absurd (no_object integers (g o.0) o t b.0 (more ts ++ 93 ∷ q) r (sym (e ∙ append_assoc t (more ts) (93 ∷ q))))
  same_objects (p ∷ ps) [] h l (s ∷ ss) [] a b e = absurd (no_object integers (f p.0) p s a.0 (more ss ++ 93 ∷ r) q (sym (append_assoc s (more ss) (93 ∷ r)) ∙ e))
  same_objects (p ∷ ps) (o ∷ qs) h l (s ∷ ss) (t ∷ ts) a b e =
      same_others (p ∷ ps) (o ∷ qs) h l (s ∷ ss) (t ∷ ts) a b (ap (λ (u : List ℕ). 44 ∷ u) e)
  same_objects [] qs h l (s ∷ ss) ts a b e = absurd a
  same_objects ps [] h l ss (t ∷ ts) a b e = absurd b
  same_objects (p ∷ ps) qs h l [] ts a b e = absurd a
  same_objects ps (o ∷ qs) h l ss [] a b e = absurd b
