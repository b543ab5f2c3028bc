-- A field of the header: what its items pass is a field that is spelled, and its reader agrees.
use Rattle.std.proofs.Common.{◌≡◌, ℕ, zero, suc, ◌+◌, ◌-◌, ◌<◌, ◌≤◌, List, [], ◌∷◌, ◌++◌, length, replicate, false, ltb, eqb, ◌&&◌, None, refl, sym, ap, subst, ◌∙◌, arith, inl, inr, append_assoc, reverse}
use Rattle.std.proofs.lemmas.Bool.{le-ltb, eqb-false, ne_eqb, lt-ltb, eq-eqb}
use Rattle.std.proofs.lemmas.List.{length-append, length-replicate, append-nil, reverse-append}
use Rattle.dbus_texts.specs.Types.{UINT32, STRING, TypeTree, NumberType, TextType, sig, IsSingleType}
use Rattle.dbus_texts.proofs.KindFacts.{shaped_of}
use Rattle.dbus_value_model.specs.WantedTexts.{WantedText, IsWanted}
use Rattle.dbus_texts.specs.ComputedKinds.{type_spelled}
use Rattle.dbus_value_model.specs.declared.limits.Bounds.{Bounds}
use Rattle.dbus_value_model.specs.declared.limits.Limits.{Limits}
use Rattle.dbus_value_model.specs.Bounds.{bounds_of}
use Rattle.dbus_value_model.specs.declared.order.Order.{Order}
use Rattle.dbus_value_model.specs.Bytes.{num, gap_to, pad}
use Rattle.dbus_value_model.specs.Spelling.{ended_text, spelling, Spelled}
use Rattle.dbus_value_model.specs.Values.{ValueTree, NumberValue, TextValue, type_of, IsWellFormed}
use Rattle.dbus_value_model.specs.declared.fault.Reason.{Reason}
use Rattle.dbus_value_model.specs.SizeLimits.{coded}
use Rattle.dbus_value_model.specs.Items as items
use Rattle.dbus_value_model.specs.ValueItems.{text_row, value}
use Rattle.dbus_value_model.specs.Reading as reading
use Rattle.dbus_message_model.specs.Messages.{FieldTree, Want, Anything, OfType, Name, Serial, want, Suits, field_type, field_struct, is_known, has_code}
use Rattle.dbus_message_model.proofs.KnownValues.{WantOk, want_ok, name_is_text}
use Rattle.dbus_value_model.proofs.Numbers.{length-num}
use Rattle.dbus_value_laws.proofs.KindLaws.{spelled_sig, only_is, only_same, text_single}
use Rattle.dbus_value_laws.proofs.Agreement.{Agrees, Agrees-then, Agrees-before, Agrees-as}
use Rattle.dbus_value_laws.proofs.OwnItems.{chosen, IsOfSingles, Agrees-pure, Agrees-refuse, Agrees-padding, Agrees-number, Agrees-text, Agrees-nul, Agrees-signature}
use Rattle.dbus_value_laws.proofs.ReadSteps.{text_fits}
use Rattle.dbus_value_laws.proofs.Composition.{number_to, number_from, text_to, text_from}
use Rattle.dbus_value_laws.proofs.ValueItemLaws.{Agrees-value, value_inside, positive}
use Rattle.dbus_value_model.specs.declared.fault.Reason.TheVariants as reasons
use Rattle.dbus_value_model.proofs.Periods.{no_gap}
use Rattle.dbus_value_model.specs.Reading.{Reader, Outcome, Done, Faulty, Partial, after, pure, up_to, contents}
use Rattle.dbus_header.specs.HeaderReading.{wanted_signature, wanted_value, field_read}
use Rattle.dbus_header.specs.MessageItems.{name_row, not_zero_row, code_row, kind_wanted, opening, value_wanted, signature_wanted, signed_value, field_items, field}
use Rattle.dbus_header.specs.HeaderReading as reads

-- ---- what is wanted of a code

-- two types with one signature are one
pub sig_injective : (t u : TypeTree) → sig t ≡ sig u → t ≡ u
sig_injective t u e = sym (spelled_sig t) ∙ ap type_spelled e ∙ spelled_sig u

single_kinds : (w : Want) → WantOk w → IsOfSingles (kind_wanted w)
single_kinds Anything ok t h = h
single_kinds (OfType u) ok t h = rw (← only_is (sig u) t h) (text_single u ok.0).0
single_kinds (Name k) ok t h = rw (← only_is (sig (TextType STRING)) t h) (text_single (TextType STRING) (tt, omega arith)).0
single_kinds Serial ok t h = rw (← only_is (sig (NumberType UINT32)) t h) (text_single (NumberType UINT32) (tt, omega arith)).0

name_row_fits : (end p n : ℕ) → name_row end p n ≡ None → text_row end p n ≡ None
name_row_fits end p n e = elim (chosen (ltb 255 n) _ _ _ e) [
  | inl h ↦ absurd (cc (h.1))
  | inr h ↦ h.1
]

fits_name_row : (end p n : ℕ) → n < 256 → text_row end p n ≡ None → name_row end p n ≡ None
fits_name_row end p n h e = let small : ltb 255 n ≡ false = le-ltb _ _ (omega arith) in rw (small, e) refl

pub not_zero_fits : (why : Reason) (p n : ℕ) → not_zero_row why p n ≡ None → 0 < n
not_zero_fits why p n e = elim (chosen (eqb n 0) _ _ _ e) [
  | inl h ↦ absurd (cc (h.1))
  | inr h ↦ let ne = eqb-false _ _ h.0 in omega arith
]

pub fits_not_zero : (why : Reason) (p n : ℕ) → 0 < n → not_zero_row why p n ≡ None
fits_not_zero why p n h = let other : eqb n 0 ≡ false = ne_eqb n 0 (omega arith) in rw other refl

module _ (bounds : Bounds) (order : Order) (inner end : ℕ) where
  wanted_to : (w : Want) (t : TypeTree) (o : ℕ) (s : List ℕ) (x : ValueTree) (q : ℕ) (r : List ℕ) → WantOk w → IsWanted (kind_wanted w) (sig t) → (value_wanted bounds order inner end w t).Passed o s x q r → Spelled bounds order inner end t o s x q r × Suits w x
  wanted_to Anything t o s x q r ok is h = ((value_inside bounds order inner end t o s x q r).0 h, tt)
  wanted_to (OfType u) t o s x q r ok is h =
      let spelled = (value_inside bounds order inner end t o s x q r).0 h in
      (spelled, spelled.has_type ∙ sym (sig_injective u t (only_is (sig u) (sig t) is)))
  wanted_to (Name k) t o s x q r ok is h =
      let same : TextType STRING ≡ t = sig_injective (TextType STRING) t (only_is (sig (TextType STRING)) (sig t) is) in
      let a = h.4 in
      let b = a.4 in
      let rows = name_row_fits end a.1 a.0 a.3.4 in
      let spelled = text_to bounds order inner (value bounds order inner) end STRING o s x q r
      (h.0, h.1, h.2, h.3, (a.0, a.1, a.2, (a.3.0, a.3.1, a.3.2, a.3.3, rows), (b.0, b.1, b.2, (b.3.0, b.3.1, name_is_text k b.0 ok.0 b.3.2, b.3.3), b.4))) in
      (subst (λ (u : TypeTree). Spelled bounds order inner end u o s x q r) same spelled, (b.0, b.4.4.0, b.3.2))
  wanted_to Serial t o s x q r ok is h =
      let same : NumberType UINT32 ≡ t = sig_injective (NumberType UINT32) t (only_is (sig (NumberType UINT32)) (sig t) is) in
      let a = h.4 in
      let spelled = number_to bounds order inner (value bounds order inner) end UINT32 o s x q r
      (h.0, h.1, h.2, h.3, (a.0, a.1, a.2, (a.3.0, a.3.1, a.3.2, a.3.3, refl), a.4)) in
      (subst (λ (u : TypeTree). Spelled bounds order inner end u o s x q r) same spelled, (a.0, a.4.0, not_zero_fits reasons.ZeroSerial a.1 a.0 a.3.4))

  name_from : (k : WantedText) (o : ℕ) (s name : List ℕ) (q : ℕ) (r : List ℕ) → Spelled bounds order inner end (TextType STRING) o s (TextValue STRING name) q r → IsWanted k name → length name < 256 → (value_wanted bounds order inner end (Name k) (TextType STRING)).Passed o s (TextValue STRING name) q r
  name_from k o s name q r spelled is short =
      let h = text_from bounds order inner (value bounds order inner) end STRING o s name q r spelled in
      let a = h.4 in
      let b = a.4 in
      let same : name ≡ b.0 = cc (b.4.4.0) in
      let few : a.0 < 256 = omega (arith, b.3.1, ap length same) in
      (h.0, h.1, h.2, h.3, (a.0, a.1, a.2, (a.3.0, a.3.1, a.3.2, a.3.3, fits_name_row end a.1 a.0 few a.3.4), (b.0, b.1, b.2, (b.3.0, b.3.1, rw (← same) is, b.3.3), b.4)))

  serial_from : (o : ℕ) (s : List ℕ) (n q : ℕ) (r : List ℕ) → Spelled bounds order inner end (NumberType UINT32) o s (NumberValue UINT32 n) q r → 0 < n → (value_wanted bounds order inner end Serial (NumberType UINT32)).Passed o s (NumberValue UINT32 n) q r
  serial_from o s n q r spelled positive =
      let h = number_from bounds order inner (value bounds order inner) end UINT32 o s n q r spelled in
      let a = h.4 in
      let same : n ≡ a.0 = cc (a.4.0) in
      (h.0, h.1, h.2, h.3, (a.0, a.1, a.2, (a.3.0, a.3.1, a.3.2, a.3.3, fits_not_zero reasons.ZeroSerial a.1 a.0 (omega (arith, same))), a.4))

  wanted_from : (w : Want) (t : TypeTree) (o : ℕ) (s : List ℕ) (x : ValueTree) (q : ℕ) (r : List ℕ) → WantOk w → IsSingleType t → Spelled bounds order inner end t o s x q r → Suits w x → (IsWanted (kind_wanted w) (sig t)) × (value_wanted bounds order inner end w t).Passed o s x q r
  wanted_from Anything t o s x q r ok single spelled suits = ((text_single t single).0, (value_inside bounds order inner end t o s x q r).1 spelled)
  wanted_from (OfType u) t o s x q r ok single spelled suits =
      let same : t ≡ u = sym spelled.has_type ∙ suits in
      (rw same (only_same (sig u)), (value_inside bounds order inner end t o s x q r).1 spelled)
  wanted_from (Name k) t o s x q r ok single spelled suits =
      let name = suits.0 in
      let same : t ≡ TextType STRING = sym spelled.has_type ∙ ap type_of suits.1 in
      let spelled' : Spelled bounds order inner end (TextType STRING) o s (TextValue STRING name) q r = subst (λ (v : ValueTree). Spelled bounds order inner end (TextType STRING) o s v q r) suits.1 (subst (λ (u : TypeTree). Spelled bounds order inner end u o s x q r) same spelled) in
      (rw same (only_same (sig (TextType STRING))), subst (λ (v : ValueTree). (value_wanted bounds order inner end (Name k) t).Passed o s v q r) (sym suits.1) (name_from k o s name q r spelled' suits.2 (ok.1 name suits.2)))
  wanted_from Serial t o s x q r ok single spelled suits =
      let n = suits.0 in
      let same : t ≡ NumberType UINT32 = sym spelled.has_type ∙ ap type_of suits.1 in
      let spelled' : Spelled bounds order inner end (NumberType UINT32) o s (NumberValue UINT32 n) q r = subst (λ (v : ValueTree). Spelled bounds order inner end (NumberType UINT32) o s v q r) suits.1 (subst (λ (u : TypeTree). Spelled bounds order inner end u o s x q r) same spelled) in
      (rw same (only_same (sig (NumberType UINT32))), subst (λ (v : ValueTree). (value_wanted bounds order inner end Serial t).Passed o s v q r) (sym suits.1) (serial_from o s n q r spelled' suits.2))

-- ---- the code

code_row_fits : (before : List FieldTree) (p n : ℕ) → code_row before p n ≡ None → (0 < n) × (is_known n && has_code n before ≡ false)
code_row_fits before p n e = elim (chosen (eqb n 0) _ _ _ e) [
  | inl h ↦ absurd (cc (h.1))
  | inr h ↦ elim (chosen (is_known n && has_code n before) _ _ _ h.1) [
    | inl k ↦ absurd (cc (k.1))
    | inr k ↦ (let ne = eqb-false _ _ h.0 in omega arith, k.0)
  ]
]

fits_code_row : (before : List FieldTree) (p n : ℕ) → 0 < n → is_known n && has_code n before ≡ false → code_row before p n ≡ None
fits_code_row before p n h e = let other : eqb n 0 ≡ false = ne_eqb n 0 (omega arith) in rw (other, e) refl

-- ---- opening

pub open_to : (depth_left o : ℕ) (s : List ℕ) (x q : ℕ) (r : List ℕ) → (opening depth_left).Passed o s x q r → (depth_left ≡ suc x) × (q ≡ o) × (r ≡ s)
open_to zero o s x q r h = absurd h
open_to (suc depth_left) o s x q r h = (omega (arith, h.0), h.1, h.2)

pub opens : (depth_left within o : ℕ) (s : List ℕ) → depth_left ≡ suc within → (opening depth_left).Passed o s within o s
opens zero within o s e = absurd cc
opens (suc depth_left) within o s e = (omega arith, refl, refl)

pub Agrees-opening : (depth_left : ℕ) → Agrees (opening depth_left) (reads.opening depth_left)
Agrees-opening zero = Agrees-refuse reasons.TooDeep
Agrees-opening (suc depth_left) = Agrees-pure (suc depth_left - 1)

-- ---- the signature

signature_to : (order : Order) (end : ℕ) (k : WantedText) (o : ℕ) (s : List ℕ) (t : TypeTree) (q : ℕ) (r : List ℕ) → (signature_wanted order end k).Passed o s t q r
    → IsSingleType t × IsWanted k (sig t) × (s ≡ num order 1 (length (sig t)) ++ (sig t ++ 0 ∷ r)) × (q ≡ o + 1 + length (sig t) + 1)
signature_to order end k o s t q r w =
    let a = w.4 in
    let b = a.4 in
    let len : length (sig a.0) ≡ w.0 = a.3.3 in
    rw (b.4.0, b.4.1, b.4.2) (a.3.0, a.3.1, w.3.1 ∙ ap (λ (n : ℕ). num order 1 n ++ w.2) (sym len) ∙ ap (λ (u : List ℕ). num order 1 (length (sig a.0)) ++ u) (a.3.2 ∙ ap (λ (u : List ℕ). sig a.0 ++ u) b.3.0), omega (arith, b.3.1, a.3.4, w.3.2, len))

signature_from : (order : Order) (end : ℕ) (k : WantedText) (o : ℕ) (t : TypeTree) (r : List ℕ) → IsSingleType t → IsWanted k (sig t) → o + 1 + length (sig t) + 1 ≤ end
    → (signature_wanted order end k).Passed o (num order 1 (length (sig t)) ++ (sig t ++ 0 ∷ r)) t (o + 1 + length (sig t) + 1) r
signature_from order end k o t r single is fits =
    let n = length (sig t) in (
      n,
      o + 1,
      sig t ++ 0 ∷ r,
      (omega (arith, single.1), refl, refl, omega (arith, fits), text_fits end (o + 1) n (omega (arith, fits))),
      (t, o + 1 + n, 0 ∷ r, (single, is, refl, refl, refl), (tt, o + 1 + n + 1, r, (refl, refl), (refl, refl, refl))),
    )

-- ---- the field

regrouped : (a none c n t v r : List ℕ) → none ≡ [] → (a ++ ((none ++ c) ++ (((n ++ (t ++ 0 ∷ [])) ++ v) ++ []))) ++ r ≡ a ++ (c ++ (n ++ (t ++ 0 ∷ (v ++ r))))
regrouped a none c n t v r is = rw is (simp append_assoc)

-- where the value of a field at o stands
abbrev value_place : ℕ → ValueTree → ℕ
value_place o x = o + gap_to 8 o + 1 + 1 + length (sig (type_of x)) + 1

-- the padding, the code, the signature and a zero, and the value, one after another
record FieldParts (bounds : Bounds) (order : Order) (inner end o : ℕ) (s : List ℕ) (code : ℕ) (x : ValueTree) (q : ℕ) (r : List ℕ) : Type 0 where
  code_fits : code < 256
  single : IsSingleType (type_of x)
  rest : List ℕ
  bytes : s ≡ pad 8 o ++ (num order 1 code ++ (num order 1 (length (sig (type_of x))) ++ (sig (type_of x) ++ 0 ∷ rest)))
  value : Spelled bounds order inner end (type_of x) (value_place o x) rest x q r

module _ (bounds : Bounds) (order : Order) (inner end o : ℕ) (s : List ℕ) (code : ℕ) (x : ValueTree) (q : ℕ) (r : List ℕ) where
  -- where it stands as the struct is spelled
  abbrev spelled_place : ℕ
  spelled_place = o + gap_to 8 o + length (pad 1 (o + gap_to 8 o) ++ num order 1 code) + length (ended_text order 1 (sig (type_of x)))

  same_place : spelled_place ≡ value_place o x
  same_place = simp (length-append, length-num, length-replicate) (omega (arith, no_gap (o + gap_to 8 o)))

  grouped : (v : List ℕ) → (pad 8 o ++ ((pad 1 (o + gap_to 8 o) ++ num order 1 code) ++ ((ended_text order 1 (sig (type_of x)) ++ v) ++ []))) ++ r ≡ pad 8 o ++ (num order 1 code ++ (num order 1 (length (sig (type_of x))) ++ (sig (type_of x) ++ 0 ∷ (v ++ r))))
  grouped v = regrouped (pad 8 o) (pad 1 (o + gap_to 8 o)) (num order 1 code) (num order 1 (length (sig (type_of x)))) (sig (type_of x)) v r (ap (λ (n : ℕ). replicate n 0) (no_gap (o + gap_to 8 o)))

  parts_of : Spelled bounds order (suc (suc inner)) end field_type o s (coded code x) q r → FieldParts bounds order inner end o s code x q r
  unfolding spelling
  parts_of h =
      let last = spelling order spelled_place x in
      let ends : q ≡ spelled_place + length last = simp (length-append, length-num, length-replicate) at h.place ∙ simp (length-append, length-num, length-replicate) (omega arith) in
      record {
        code_fits = h.formed.0;
        single = h.formed.1.0.0;
        rest = last ++ r;
        bytes = h.bytes ∙ grouped last;
        value = subst (λ (p : ℕ). Spelled bounds order inner end (type_of x) p (last ++ r) x q r) same_place (record { has_type = refl; formed = h.formed.1.0.1; within = h.within.1.0; indexes = h.indexes.1.0; bytes = refl; place = ends; bound = h.bound });
      }

  spelled_of : FieldParts bounds order inner end o s code x q r → Spelled bounds order (suc (suc inner)) end field_type o s (coded code x) q r
  unfolding spelling
  spelled_of h =
      let value : Spelled bounds order inner end (type_of x) spelled_place h.rest x q r = subst (λ (p : ℕ). Spelled bounds order inner end (type_of x) p h.rest x q r) (sym same_place) h.value in
      record {
        has_type = refl;
        formed = (h.code_fits, ((h.single, value.formed), tt));
        within = (tt, (value.within, tt));
        indexes = (tt, (value.indexes, tt));
        bytes = h.bytes ∙ ap (λ (u : List ℕ). pad 8 o ++ (num order 1 code ++ (num order 1 (length (sig (type_of x))) ++ (sig (type_of x) ++ 0 ∷ u)))) value.bytes ∙ sym (grouped (spelling order spelled_place x));
        place = simp (length-append, length-num, length-replicate) (omega (arith, value.place, simp (length-append, length-num, length-replicate) at value.place));
        bound = value.bound;
      }

-- a field's struct and its variant are two containers
pub two_rooms : (depth_left : ℕ) (f : FieldTree) → IsWellFormed depth_left (field_struct f) → (inner : ℕ) × (depth_left ≡ suc (suc inner))
two_rooms zero f h = absurd h
two_rooms (suc zero) f h = absurd h.1.0
two_rooms (suc (suc inner)) f h = (inner, refl)

module _ (bounds : Bounds) (order : Order) (depth_left end : ℕ) (before : List FieldTree) where
  field_to : (o : ℕ) (s : List ℕ) (f : FieldTree) (q : ℕ) (r : List ℕ) → (field_items bounds order depth_left end before).Passed o s f q r → (field bounds order depth_left end before).Passed o s f q r
  field_to o s f q r w =
      let padded = w.3 in
      let struct = w.4 in
      let a = struct.4 in
      let variant = a.4 in
      let e = variant.4 in
      let held = e.3 in
      let code = a.0 in
      let x = e.0 in
      let inner = variant.0 in
      let within = open_to depth_left w.1 w.2 struct.0 struct.1 struct.2 struct.3 in
      let deeper = open_to struct.0 a.1 a.2 inner variant.1 variant.2 variant.3 in
      let rows = code_row_fits before a.1 code a.3.4 in
      let signed = signature_to order end (kind_wanted (want code)) variant.1 variant.2 held.0 held.1 held.2 held.3 in
      let wanted = wanted_to bounds order inner end (want code) held.0 held.1 held.2 x e.1 e.2 (want_ok code) signed.1 held.4 in
      let same : held.0 ≡ type_of x = sym wanted.0.has_type in
      let place : held.1 ≡ o + gap_to 8 o + 1 + 1 + length (sig held.0) + 1 = omega (arith, signed.3, deeper.1, a.3.2, within.1, padded.1) in
      let there = sym deeper.2 ∙ signed.2 in
      let whole = spelled_of bounds order inner end o s code x e.1 e.2 (record {
        code_fits = a.3.0;
        single = subst IsSingleType same signed.0;
        rest = held.2;
        bytes = padded.0 ∙ ap (λ (t : List ℕ). pad 8 o ++ t) (sym within.2 ∙ a.3.1 ∙ ap (λ (t : List ℕ). num order 1 code ++ t) (rw same at there));
        value = rw (place, same) at wanted.0;
      }) in
      let deep : suc (suc inner) ≡ depth_left = sym (within.0 ∙ ap suc deeper.0) in
      rw (e.4.0, e.4.1, e.4.2) (subst (λ (u : ℕ). Spelled bounds order u end field_type o s (coded code x) e.1 e.2) deep whole, record { not_zero = rows.0; not_again = rows.1; suits = wanted.1 })

  field_from : (o : ℕ) (s : List ℕ) (f : FieldTree) (q : ℕ) (r : List ℕ) → (field bounds order depth_left end before).Passed o s f q r → (field_items bounds order depth_left end before).Passed o s f q r
  field_from o s f q r h =
      let two = two_rooms depth_left f h.0.formed in
      let inner = two.0 in
      let x = f.value in
      let v = parts_of bounds order inner end o s f.code x q r (subst (λ (u : ℕ). Spelled bounds order u end field_type o s (field_struct f) q r) two.1 h.0) in
      let wanted = wanted_from bounds order inner end (want f.code) (type_of x) (value_place o x) v.rest x q r (want_ok f.code) v.single v.value h.1.suits in
      let p = o + gap_to 8 o in
      let signed = num order 1 (length (sig (type_of x))) ++ (sig (type_of x) ++ 0 ∷ v.rest) in
      let fits : value_place o x ≤ end = omega (arith, v.value.place, v.value.bound) in (
        tt,
        p,
        num order 1 f.code ++ signed,
        (v.bytes, refl, omega (arith, fits)),
        (
          suc inner,
          p,
          num order 1 f.code ++ signed,
          opens depth_left (suc inner) p (num order 1 f.code ++ signed) two.1,
          (
            f.code,
            p + 1,
            signed,
            (v.code_fits, refl, refl, omega (arith, fits), fits_code_row before (p + 1) f.code h.1.not_zero h.1.not_again),
            (
              inner,
              p + 1,
              signed,
              opens (suc inner) inner (p + 1) signed refl,
              (x, q, r, (type_of x, value_place o x, v.rest, signature_from order end (kind_wanted (want f.code)) (p + 1) (type_of x) v.rest v.single wanted.0 fits, wanted.1), (refl, refl, refl)),
            ),
          ),
        ),
      )

  pub field_moves : (o : ℕ) (s : List ℕ) (f : FieldTree) (q : ℕ) (r : List ℕ) → (field bounds order depth_left end before).Passed o s f q r → o < q
  field_moves o s f q r h = omega (arith, h.0.place, positive bounds order (field_struct f) false o (tt, (tt, tt)))

agrees_wanted : (bounds : Bounds) (order : Order) (inner end : ℕ) (w : Want) (t : TypeTree) → WantOk w → IsSingleType t → IsWanted (kind_wanted w) (sig t) → Agrees (value_wanted bounds order inner end w t) (reads.value_wanted bounds order inner end w t)
agrees_wanted bounds order inner end Anything t ok single is = Agrees-value bounds order inner end false t (shaped_of t false 0 0 single.0)
agrees_wanted bounds order inner end (OfType u) t ok single is = Agrees-value bounds order inner end false t (shaped_of t false 0 0 single.0)
agrees_wanted bounds order inner end (Name k) t ok single is =
    Agrees-before (items.padding 4 end) (reading.padding 4 end) _ _ (Agrees-padding 4 end) (λ _.
    Agrees-before (items.number order 4 end (name_row end)) (reading.number order 4 end (name_row end)) _ _ (Agrees-number order 4 end (name_row end)) (λ n.
    Agrees-before (items.text k n) (reading.text k n) _ _ (Agrees-text k n) (λ name.
    Agrees-before items.nul reading.nul _ _ Agrees-nul (λ _.
    Agrees-pure (TextValue STRING name)))))
agrees_wanted bounds order inner end Serial t ok single is =
    Agrees-before (items.padding 4 end) (reading.padding 4 end) _ _ (Agrees-padding 4 end) (λ _.
    Agrees-before (items.number order 4 end (not_zero_row reasons.ZeroSerial)) (reading.number order 4 end (not_zero_row reasons.ZeroSerial)) _ _ (Agrees-number order 4 end (not_zero_row reasons.ZeroSerial)) (λ n.
    Agrees-pure (NumberValue UINT32 n)))

module _ (limits : Limits) (order : Order) (depth_left end : ℕ) (opened : limits.depth ≡ suc depth_left) (before : List FieldTree) where
  agrees_signature : (code : ℕ) → Agrees (signature_wanted order end (kind_wanted (want code))) (wanted_signature order end (kind_wanted (want code)))
  unfolding wanted_signature
  agrees_signature code =
      Agrees-before (items.number order 1 end (text_row end)) (reading.number order 1 end (text_row end)) _ _ (Agrees-number order 1 end (text_row end)) (λ n.
      Agrees-before (items.signature (kind_wanted (want code)) n) (reading.signature (kind_wanted (want code)) n) _ _ (Agrees-signature (kind_wanted (want code)) (single_kinds (want code) (want_ok code)) n) (λ held.
      Agrees-before items.nul reading.nul _ _ Agrees-nul (λ _.
      Agrees-pure held)))

  agrees_signed : (inner code : ℕ) → limits.depth - 3 ≡ inner → Agrees (signed_value (bounds_of limits) order inner end (want code)) (wanted_value limits order end (want code))
  unfolding wanted_value
  agrees_signed inner code deep =
      rw deep (Agrees-then (signature_wanted order end (kind_wanted (want code))) (wanted_signature order end (kind_wanted (want code))) _ _ (agrees_signature code) (λ held o s q r was.
      let signed = signature_to order end (kind_wanted (want code)) o s held q r was in
      agrees_wanted (bounds_of limits) order inner end (want code) held (want_ok code) signed.0 signed.1))

  agrees_field_items : Agrees (field_items (bounds_of limits) order depth_left end before) (field_read limits order end before)
  unfolding field_read
  agrees_field_items =
      let array : limits.depth - 1 ≡ depth_left = omega (arith, opened) in
      rw array (Agrees-before (items.padding 8 end) (reading.padding 8 end) _ _ (Agrees-padding 8 end) (λ _.
      Agrees-then (opening depth_left) (reads.opening depth_left) _ _ (Agrees-opening depth_left) (λ within o s q r struct.
      let deep = (open_to depth_left o s within q r struct).0 in
      Agrees-before (items.number order 1 end (code_row before)) (reading.number order 1 end (code_row before)) _ _ (Agrees-number order 1 end (code_row before)) (λ code.
      let two : limits.depth - 2 ≡ within = omega (arith, opened, deep) in
      rw two (Agrees-then (opening within) (reads.opening within) _ _ (Agrees-opening within) (λ inner o s q r variant.
      let deeper = (open_to within o s inner q r variant).0 in
      Agrees-before (signed_value (bounds_of limits) order inner end (want code)) (wanted_value limits order end (want code)) _ _ (agrees_signed inner code (omega (arith, opened, deep, deeper))) (λ x.
      Agrees-pure (record { code = code; value = x }))))))))

  pub Agrees-field : Agrees (field (bounds_of limits) order depth_left end before) (field_read limits order end before)
  Agrees-field =
      Agrees-as (field_items (bounds_of limits) order depth_left end before) (field (bounds_of limits) order depth_left end before).Passed (field_read limits order end before) agrees_field_items
      (λ o s f q r. (field_to (bounds_of limits) order depth_left end before o s f q r, field_from (bounds_of limits) order depth_left end before o s f q r))

-- The loop over a header's fields, each of which sees those before it, the last first.

abbrev pub with_front : {A : Type 0} → List A → Outcome (List A) → Outcome (List A)
with_front front read = after read (λ us. pure (front ++ us))

module _ {A : Type 0} (part : List A → Reader A) (end : ℕ) where
  front_more : (front : List A) (v : A) (r : Outcome (List A)) → with_front front (after r (λ vs. pure (v ∷ vs))) ≡ with_front (front ++ v ∷ []) r
  front_more front v (Done vs p t) = ap (λ (u : List A). Done u p t) (sym (append_assoc front (v ∷ []) vs))
  front_more front v (Faulty f) = refl
  front_more front v Partial = refl

  -- a part is read: what is left is read after it
  pub goes_on : (front : List A) (turns rest : ℕ) (o : ℕ) (s : List ℕ) (v : A) (q : ℕ) (r : List ℕ) → turns ≡ suc rest → o < end → part (reverse front) o s ≡ Done v q r
      → with_front front (up_to turns end part (reverse front) o s) ≡ with_front (front ++ v ∷ []) (up_to rest end part (reverse (front ++ v ∷ [])) q r)
  goes_on front turns rest o s v q r more on e =
      let go : up_to (suc rest) end part (reverse front) o s ≡ after (up_to rest end part (v ∷ reverse front) q r) (λ vs. pure (v ∷ vs)) = rw (lt-ltb _ _ on, e) refl in
      ap (λ (k : ℕ). with_front front (up_to k end part (reverse front) o s)) more ∙ ap (with_front front) go ∙ front_more front v (up_to rest end part (v ∷ reverse front) q r)
      ∙ ap (λ (before : List A). with_front (front ++ v ∷ []) (up_to rest end part before q r)) (sym (reverse-append front (v ∷ [])))

  pub is_done : (front : List A) (turns : ℕ) (o : ℕ) (s : List ℕ) → o ≡ end → with_front front (up_to turns end part (reverse front) o s) ≡ Done front o s
  is_done front zero o s e = rw (eq-eqb o end e) (ap (λ (u : List A). Done u o s) (append-nil front))
  is_done front (suc turns) o s e =
      let no_more : ltb o end ≡ false = le-ltb _ _ (omega arith) in
      rw (no_more, eq-eqb o end e) (ap (λ (u : List A). Done u o s) (append-nil front))

-- ---- codes

with_nothing : {A : Type 0} (r : Outcome (List A)) → with_front [] r ≡ r
with_nothing (Done vs p t) = refl
with_nothing (Faulty f) = refl
with_nothing Partial = refl

pub starts : {A : Type 0} (part : ℕ → List A → Reader A) (n o : ℕ) (s : List ℕ) → with_front [] (up_to (n - 0) (o + n) (part (o + n)) [] o s) ≡ contents n part o s
starts part n o s = with_nothing _ ∙ ap (λ (k : ℕ). up_to k (o + n) (part (o + n)) [] o s) (omega arith)
