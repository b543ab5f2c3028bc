-- A message, and what is read of the parts of its JSON.
use Rattle.std.proofs.Common.{◌≡◌, ℕ, zero, suc, ◌+◌, ◌-◌, ◌^◌, ◌<◌, Bool, true, false, cond, not, eqb, List, [], ◌∷◌, length, map, filter, Option, Some, None, Ok, Err, inl, inr, codes, refl, sym, ap, ◌∙◌, subst, arith}
use Rattle.std.proofs.lemmas.Bool.{cases_Bool, eqb-true, true≢false}
use Rattle.std.proofs.lemmas.Fmt.{decimal_injective}
use Rattle.std.proofs.lemmas.Option.{same_Some}
use Rattle.std.specs.List.{AllZip, enumerate_from}
use Rattle.json.specs.Find.{get}
use Rattle.json.specs.Json as json
use Rattle.json.specs.Json.{Json, Members}
use Rattle.json.specs.Strict.{AreDistinct, keys}
use Rattle.json.specs.Value.{items_of}
use Rattle.dbus_texts.specs.Types.{SIGNATURE, TextCode, NumberType, TextType, NoTypes}
use Rattle.dbus_texts.specs.Kinds.{IsKind}
use Rattle.dbus_texts.specs.declared.text_kind.TextKind.TheVariants.{Signature}
use Rattle.dbus_texts.proofs.TypeTexts.{sigs_same}
use Rattle.dbus_value_model.specs.declared.limits.Limits.{Limits}
use Rattle.dbus_value_model.specs.declared.order.Order.{Order}
use Rattle.dbus_value_model.specs.declared.order.Order.TheVariants.{Little}
use Rattle.dbus_value_model.specs.Values.{ValueTree, ValueTrees, NumberValue, TextValue, VariantValue, ArrayValue, StructValue, EntryValue, NoValues, MoreValues, value_trees, type_of, IsWellFormed, AreWellFormed}
use Rattle.dbus_value_model.specs.Verdicts.{HoldsNumbers, HoldNumbers}
use Rattle.dbus_message_model.specs.Messages.{FieldTree, MessageTree, want, is_known, Suits, AreFields, field_array, field_struct, body_signature, text_in, IsValidMessage}
use Rattle.dbus_message_model.specs.MessageTypes.{type_name}
use Rattle.dbus_message_model.specs.MessageViews.{message_tree}
use Rattle.dbus_message_model.specs.PackedParts.{PartsKeepBytes}
use Rattle.dbus_message_model.specs.PartsViews.{parts_tree}
use Rattle.dbus_message_model.specs.declared.message.Message.{Message}
use Rattle.dbus_message_model.specs.declared.parts.Parts.{Parts}
use Rattle.dbus_message_model.proofs.Widening.{kept_valid}
use Rattle.dbus_build.specs.BuildFaults.{HoldFieldNumbers, HoldTheirNumbers, IsBuilt, IsTaken, IsFirstFault}
use Rattle.dbus_build.specs.declared.build_fault.BuildFault.{BuildFault}
use Rattle.dbus_build.proofs.Built.{valid}
use Rattle.dbus_json.specs.declared.integers.Integers.{Integers}
use Rattle.dbus_json.specs.JsonMessages.{known_fields}
use Rattle.dbus_json_reader.specs.JsonMembers.{SpellsKind}
use Rattle.dbus_json_reader.specs.JsonMessages.{SpellsOr, IsKnown, SpellsMessage, IsReadMessage, field_members}
use Rattle.dbus_json_reader.specs.JsonNames.{AreNamed, message_names}
use Rattle.dbus_json_reader.specs.JsonParts.{IsHead, IsKnownField, IsFormedField, AreFormedFields, AreReadFields, IsReadBody}
use Rattle.dbus_json_reader.specs.JsonValues.{AllSpell}
use Rattle.dbus_json_reader.proofs.KnownFields.{all_named, one_row}
use Rattle.dbus_json_reader.proofs.KnownNames.{known_codes}
use Rattle.dbus_json_reader.proofs.OneValue.{numbers_same, same_values}
use Rattle.dbus_json_reader.proofs.Placing.{Placed, field_of, items_same}
use Rattle.dbus_json_reader.proofs.Shapes.{strings_same, arrays_same, objects_same}
use Rattle.dbus_json_reader.proofs.SoundValues.{are_sound, alike_types}

-- ---- the fields of a valid message

pub record Fit (depth : ℕ) (f : FieldTree) : Type 0 where
  pub formed : IsFormedField depth f
  pub suits : Suits (want f.code) f.value

abbrev pub AllFit : ℕ → List FieldTree → Type 0
AllFit depth [] = Unit {0}
AllFit depth (f ∷ fs) = Fit depth f × AllFit depth fs

structs_fit : (depth : ℕ) (before fs : List FieldTree) → AreFields before fs → AreWellFormed depth (value_trees (map field_struct fs)) → AllFit (depth - 2) fs
structs_fit depth before [] are formed = tt
structs_fit zero before (f ∷ fs) are formed = absurd formed.0
structs_fit (suc zero) before (f ∷ fs) are formed = absurd formed.0.1.0
structs_fit (suc (suc depth)) before (f ∷ fs) are formed =
    let less : depth ≡ suc (suc depth) - 2 = omega arith in (
      record { formed = record { code = formed.0.0; single = formed.0.1.0.0; formed = subst (λ (n : ℕ). IsWellFormed n f.value) less formed.0.1.0.1 }; suits = are.0.suits },
      structs_fit (suc (suc depth)) (f ∷ before) fs are.1 formed.1,
    )

all_fit : (depth : ℕ) (fs : List FieldTree) → AreFields [] fs → IsWellFormed depth (field_array fs) → AllFit (depth - 3) fs
all_fit zero fs are formed = absurd formed
all_fit (suc depth) fs are formed = let less : depth - 2 ≡ suc depth - 3 = omega arith in subst (λ (n : ℕ). AllFit n fs) less (structs_fit depth [] fs are formed.1)

known_field : (integers : Integers) (depth : ℕ) (p : Placed) (m : List ℕ × Json) → Fit depth p.1 → is_known p.1.code ≡ true → IsKnown integers p m → IsKnownField integers depth p.1 m
known_field integers depth p m fit known h = record { known = known; named = h.0; held = record { suits = fit.suits; spelled = h.1; formed = fit.formed.formed } }

abbrev is_known_at : Placed → Bool
is_known_at p = is_known p.1.code

abbrev knowns : ℕ → List FieldTree → List Placed
knowns n fs = filter is_known_at (enumerate_from n fs)

abbrev others : ℕ → List FieldTree → List Placed
others n fs = filter (λ (p : Placed). not (is_known p.1.code)) (enumerate_from n fs)

known_cons : (integers : Integers) (depth : ℕ) (p : Placed) (ps : List Placed) (ms : List (List ℕ × Json)) → Fit depth p.1 → is_known p.1.code ≡ true → AllZip (IsKnown integers) (p ∷ ps) ms → ((ns : List (List ℕ × Json)) → AllZip (IsKnown integers) ps ns → AllZip (IsKnownField integers depth) (map field_of ps) ns)
    → AllZip (IsKnownField integers depth) (p.1 ∷ map field_of ps) ms
known_cons integers depth p ps [] fit known h more = absurd h
known_cons integers depth p ps (m ∷ ms) fit known h more = (known_field integers depth p m fit known h.0, more ms h.1)

known_zip : (integers : Integers) (depth n : ℕ) (fs : List FieldTree) (ms : List (List ℕ × Json)) → AllFit depth fs → AllZip (IsKnown integers) (knowns n fs) ms → AllZip (IsKnownField integers depth) (map field_of (knowns n fs)) ms
known_zip integers depth n [] [] fit h = tt
known_zip integers depth n [] (m ∷ ms) fit h = absurd h
known_zip integers depth n (f ∷ fs) ms fit h =
    let ps = knowns (n + 1) fs in
    elim (cases_Bool (is_known f.code)) [
      | inl e ↦ (
          let zip : AllZip (IsKnown integers) ((n, f) ∷ ps) ms = subst (λ (b : Bool). AllZip (IsKnown integers) (cond b ((n, f) ∷ ps) ps) ms) e h in
          subst (λ (b : Bool). AllZip (IsKnownField integers depth) (map field_of (cond b ((n, f) ∷ ps) ps)) ms) (sym e) (known_cons integers depth (n, f) ps ms fit.0 e zip (λ ns k. known_zip integers depth (n + 1) fs ns fit.1 k))
          )
      | inr e ↦ (
          let zip : AllZip (IsKnown integers) ps ms = subst (λ (b : Bool). AllZip (IsKnown integers) (cond b ((n, f) ∷ ps) ps) ms) e h in
          subst (λ (b : Bool). AllZip (IsKnownField integers depth) (map field_of (cond b ((n, f) ∷ ps) ps)) ms) (sym e) (known_zip integers depth (n + 1) fs ms fit.1 zip)
          )
    ]

zip_back : (integers : Integers) (depth : ℕ) (ps : List Placed) (ms : List (List ℕ × Json)) → AllZip (IsKnownField integers depth) (map field_of ps) ms → AllZip (IsKnown integers) ps ms
zip_back integers depth [] [] h = tt
zip_back integers depth (p ∷ ps) (m ∷ ms) h = ((h.0.named, h.0.held.spelled), zip_back integers depth ps ms h.1)
zip_back integers depth ps ms h = absurd h

formed_others : (depth n : ℕ) (fs : List FieldTree) → AllFit depth fs → AreFormedFields depth (others n fs)
formed_others depth n [] fit = tt
formed_others depth n (f ∷ fs) fit =
    let os = others (n + 1) fs in
    elim (cases_Bool (not (is_known f.code))) [
      | inl e ↦ subst (λ (b : Bool). AreFormedFields depth (cond b ((n, f) ∷ os) os)) (sym e) (fit.0.formed, formed_others depth (n + 1) fs fit.1)
      | inr e ↦ subst (λ (b : Bool). AreFormedFields depth (cond b ((n, f) ∷ os) os)) (sym e) (formed_others depth (n + 1) fs fit.1)
    ]

-- ---- what a message's JSON is read as

module _ (integers : Integers) (limits : Limits) (number : ℕ) (order : Order) (m : MessageTree) (j : Json) (h : IsReadMessage integers limits number order m j) where
  pub head_of : IsHead number order m.kind m.flags m.serial j
  head_of = let s = h.spelled in record { ordered = s.ordered; type = s.type; told = s.told; kind_is = s.kind; flags_are = s.flags; serial_is = s.serial }

  pub fit_of : AllFit (limits.depth - 3) m.fields
  fit_of = all_fit limits.depth m.fields (h.valid Little).fields (h.valid Little).formed_fields

  module _ (ms : Members) (is : j ≡ json.object ms) where
    same_members : h.spelled.ms ≡ ms
    same_members = objects_same h.spelled.ms ms (sym h.spelled.is ∙ is)

    pub known_of : AllZip (IsKnownField integers (limits.depth - 3)) (map field_of (known_fields m.fields)) (field_members ms)
    known_of = known_zip integers (limits.depth - 3) 0 m.fields (field_members ms) fit_of (subst (λ (ns : Members). AllZip (IsKnown integers) (known_fields m.fields) (field_members ns)) same_members h.spelled.known)

    pub named_of : AreNamed message_names ms
    named_of = record { named = all_named integers (limits.depth - 3) _ ms known_of; distinct = subst (λ (ns : Members). AreDistinct (keys ns)) same_members h.spelled.distinct }

    pub fields_of : (ks : List FieldTree) → AllZip (IsKnownField integers (limits.depth - 3)) ks (field_members ms) → AreReadFields integers (limits.depth - 3) ks (get (codes "fields") j) m.fields
    fields_of ks read = record {
      knowns = one_row integers (limits.depth - 3) (limits.depth - 3) (map field_of (known_fields m.fields)) ks (field_members ms) known_of read;
      others = h.spelled.others;
      formed = formed_others (limits.depth - 3) 0 m.fields fit_of;
    }

  pub body_of : (fs : List FieldTree) → m.fields ≡ fs → IsReadBody integers limits.depth (body_signature fs) (get (codes "body") j) m.body
  body_of fs same = record { spelled = h.spelled.body; typed = (h.valid Little).signature ∙ ap body_signature same; formed = (h.valid Little).formed_body }

-- ---- the signature

record IsSignature (depth : ℕ) (v : ValueTree) : Type 0 where
  kind : IsKind Signature (text_in v)

signature_in : (depth : ℕ) (v : ValueTree) → type_of v ≡ TextType SIGNATURE → IsWellFormed depth v → IsSignature depth v
signature_in depth (TextValue k t) e h = let same : k ≡ SIGNATURE = let f : TextType k ≡ TextType SIGNATURE = e in cc in record { kind = (subst (λ (c : TextCode). IsWellFormed depth (TextValue c t)) same h).0 }
signature_in depth v e h = absurd (let f : type_of v ≡ TextType SIGNATURE = e in cc)

signature_cond : (b : Bool) (s t : List ℕ) → (b ≡ true → IsKind Signature s) → IsKind Signature t → IsKind Signature (cond b s t)
signature_cond true s t h k = h refl
signature_cond false s t h k = k

pub signature_kind : (depth : ℕ) (fs : List FieldTree) → AllFit depth fs → IsKind Signature (body_signature fs)
signature_kind depth [] fit = ((NoTypes, tt, refl), omega arith)
signature_kind depth (f ∷ fs) fit =
    signature_cond (eqb f.code 8) (text_in f.value) (body_signature fs)
    (λ e. (signature_in depth f.value (subst (λ (c : ℕ). Suits (want c) f.value) (eqb-true f.code 8 e) fit.0.suits) fit.0.formed.formed).kind) (signature_kind depth fs fit.1)

-- ---- numbers in their ranges

mutual
  formed_holds : (depth : ℕ) (v : ValueTree) → IsWellFormed depth v → HoldsNumbers v
  formed_holds depth (NumberValue k n) h = h
  formed_holds depth (TextValue k t) h = tt
  formed_holds zero (VariantValue x) h = absurd h
  formed_holds (suc depth) (VariantValue x) h = formed_holds depth x h.1
  formed_holds zero (ArrayValue t xs) h = absurd h
  formed_holds (suc depth) (ArrayValue t xs) h = formed_hold depth xs h.1
  formed_holds zero (StructValue xs) h = absurd h
  formed_holds (suc depth) (StructValue xs) h = formed_hold depth xs h
  formed_holds depth (EntryValue x y) h = (formed_holds depth x h.0, formed_holds depth y h.1)

  formed_hold : (depth : ℕ) (xs : ValueTrees) → AreWellFormed depth xs → HoldNumbers xs
  formed_hold depth NoValues h = tt
  formed_hold depth (MoreValues x xs) h = (formed_holds depth x h.0, formed_hold depth xs h.1)

known_hold : (integers : Integers) (depth : ℕ) (fs : List FieldTree) (ms : List (List ℕ × Json)) → AllZip (IsKnownField integers depth) fs ms → HoldFieldNumbers fs
known_hold integers depth [] ms h = tt
known_hold integers depth (f ∷ fs) [] h = absurd h
known_hold integers depth (f ∷ fs) (m ∷ ms) h = let code = (known_codes f.code h.0.known).1 in ((omega (arith, code), formed_holds depth f.value h.0.held.formed), known_hold integers depth fs ms h.1)

all_hold : (depth n : ℕ) (fs : List FieldTree) → HoldFieldNumbers (map field_of (knowns n fs)) → AreFormedFields depth (others n fs) → HoldFieldNumbers fs
all_hold depth n [] h k = tt
all_hold depth n (f ∷ fs) h k =
    let ps = knowns (n + 1) fs in
    let os = others (n + 1) fs in
    elim (cases_Bool (is_known f.code)) [
      | inl e ↦ (
          let first : HoldFieldNumbers (f ∷ map field_of ps) = subst (λ (b : Bool). HoldFieldNumbers (map field_of (cond b ((n, f) ∷ ps) ps))) e h in
          (first.0, all_hold depth (n + 1) fs first.1 (subst (λ (b : Bool). AreFormedFields depth (cond b ((n, f) ∷ os) os)) (ap not e) k))
          )
      | inr e ↦ (
          let first : AreFormedFields depth ((n, f) ∷ os) = subst (λ (b : Bool). AreFormedFields depth (cond b ((n, f) ∷ os) os)) (ap not e) k in
          ((first.0.code, formed_holds depth f.value first.0.formed), all_hold depth (n + 1) fs (subst (λ (b : Bool). HoldFieldNumbers (map field_of (cond b ((n, f) ∷ ps) ps))) e h) first.1)
          )
    ]

-- ---- message types and numbers

kind_in : List ℕ → ℕ
kind_in s = cond (eqb (length s) 11) 1 (cond (eqb (length s) 13) 2 (cond (eqb (length s) 5) 3 (cond (eqb (length s) 6) 4 0)))

no_text : (s : List ℕ) → None ≡ Some s → ⊥
no_text s e = cc

kind_if : (b : Bool) (k c : ℕ) (name s : List ℕ) (rest : Option (List ℕ)) → eqb k c ≡ b → kind_in name ≡ c → (rest ≡ Some s → kind_in s ≡ k) → cond b (Some name) rest ≡ Some s → kind_in s ≡ k
kind_if true k c name s rest e is more h = ap kind_in (sym (same_Some _ _ h)) ∙ is ∙ sym (eqb-true k c e)
kind_if false k c name s rest e is more h = more h

kind_named : (k : ℕ) (s : List ℕ) → type_name k ≡ Some s → kind_in s ≡ k
unfolding kind_in
kind_named k s =
    kind_if (eqb k 1) k 1 (codes "method_call") s _ refl refl
    (kind_if (eqb k 2) k 2 (codes "method_return") s _ refl refl
    (kind_if (eqb k 3) k 3 (codes "error") s _ refl refl
    (kind_if (eqb k 4) k 4 (codes "signal") s _ refl refl (λ h. absurd (no_text s h)))))

not_both : (s t : List ℕ) → json.number s ≡ json.string t → ⊥
not_both s t e = cc

pub one_kind : (a b : ℕ) (j : Json) → a < 256 → b < 256 → SpellsKind a j → SpellsKind b j → a ≡ b
one_kind a b j h k (inl x) (inl y) = decimal_injective a b (omega (arith, h)) (omega (arith, k)) (numbers_same _ _ j x y)
one_kind a b j h k (inl x) (inr y) = absurd (not_both _ _ (sym x ∙ y.2))
one_kind a b j h k (inr x) (inl y) = absurd (not_both _ _ (sym y ∙ x.2))
one_kind a b j h k (inr x) (inr y) = sym (kind_named a x.0 x.1) ∙ ap kind_in (strings_same _ _ (sym x.2 ∙ y.2)) ∙ kind_named b y.0 y.1

pub one_number : (default a b : ℕ) (told : Option Json) → a < 2 ^ 64 → b < 2 ^ 64 → SpellsOr default a told → SpellsOr default b told → a ≡ b
one_number default a b None h k x y = x ∙ sym y
one_number default a b (Some j) h k x y = decimal_injective a b h k (numbers_same _ _ j x y)

-- ---- bodies

pub one_body : (integers : Integers) (depth : ℕ) (w : List ℕ) (told : Option Json) (xs ys : ValueTrees) → IsReadBody integers depth w told xs → IsReadBody integers depth w told ys → xs ≡ ys
one_body integers depth w None xs ys a b = a.spelled ∙ sym b.spelled
one_body integers depth w (Some j) xs ys a b =
    let items = ap items_of (items_same a.spelled.0 b.spelled.0 (arrays_same _ _ (sym a.spelled.1 ∙ b.spelled.1))) in
    same_values integers xs ys (items_of b.spelled.0) (are_sound depth xs a.formed) (are_sound depth ys b.formed) (alike_types xs ys (sigs_same _ _ (a.typed ∙ sym b.typed))) (subst (AllSpell integers xs) items a.spelled.2) b.spelled.2

-- ---- the parts, and the message

-- what is read of a message
pub record AreParts (integers : Integers) (limits : Limits) (number : ℕ) (order : Order) (m : MessageTree) (j : Json) : Type 0 where
  pub ms : Members
  pub is : j ≡ json.object ms
  pub distinct : AreDistinct (keys ms)
  pub head : IsHead number order m.kind m.flags m.serial j
  pub kind_fits : m.kind < 256
  pub flags_fit : m.flags < 256
  pub serial_fits : m.serial < 256 ^ 4
  pub ks : List FieldTree
  pub known : AllZip (IsKnownField integers (limits.depth - 3)) ks (field_members ms)
  pub fields : AreReadFields integers (limits.depth - 3) ks (get (codes "fields") j) m.fields
  pub only : (fs : List FieldTree) → AreReadFields integers (limits.depth - 3) ks (get (codes "fields") j) fs → fs ≡ m.fields
  pub body : IsReadBody integers limits.depth (body_signature m.fields) (get (codes "body") j) m.body

pub same_message : (m w : MessageTree) → m.kind ≡ w.kind → m.flags ≡ w.flags → m.serial ≡ w.serial → m.fields ≡ w.fields → m.body ≡ w.body → m ≡ w
same_message m w a b c d e =
    ap (λ (k : ℕ). record { kind = k; flags = m.flags; serial = m.serial; fields = m.fields; body = m.body }) a
    ∙ ap (λ (k : ℕ). record { kind = w.kind; flags = k; serial = m.serial; fields = m.fields; body = m.body }) b
    ∙ ap (λ (k : ℕ). record { kind = w.kind; flags = w.flags; serial = k; fields = m.fields; body = m.body }) c
    ∙ ap (λ (fs : List FieldTree). record { kind = w.kind; flags = w.flags; serial = w.serial; fields = fs; body = m.body }) d
    ∙ ap (λ (xs : ValueTrees). record { kind = w.kind; flags = w.flags; serial = w.serial; fields = w.fields; body = xs }) e

module _ (integers : Integers) (limits : Limits) (number : ℕ) (order : Order) (m : MessageTree) (j : Json) (p : AreParts integers limits number order m j) where
  spelled_by : SpellsMessage integers number order m j
  spelled_by = record {
    ms = p.ms;
    is = p.is;
    distinct = p.distinct;
    ordered = p.head.ordered;
    type = p.head.type;
    told = p.head.told;
    kind = p.head.kind_is;
    flags = p.head.flags_are;
    serial = p.head.serial_is;
    known = zip_back integers (limits.depth - 3) (known_fields m.fields) (field_members p.ms) (subst (λ (fs : List FieldTree). AllZip (IsKnownField integers (limits.depth - 3)) fs (field_members p.ms)) (sym p.fields.knowns) p.known);
    others = p.fields.others;
    body = p.body.spelled;
  }

  numbers_held : HoldTheirNumbers m
  numbers_held = record {
    kind = p.kind_fits;
    flags = p.flags_fit;
    serial = p.serial_fits;
    fields = all_hold (limits.depth - 3) 0 m.fields (subst HoldFieldNumbers (sym p.fields.knowns) (known_hold integers (limits.depth - 3) p.ks (field_members p.ms) p.known)) p.fields.formed;
    body = formed_hold limits.depth m.body p.body.formed;
  }

  -- no other message is spelled
  pub one_message : (other : Order) (w : MessageTree) → IsReadMessage integers limits number other w j → w ≡ m
  one_message other w h =
      let v = h.valid Little in
      let flags = v.flags in
      let serial = v.serial_fits in
      let mine = p.flags_fit in
      let own = p.serial_fits in
      let type = same_Some _ _ (sym h.spelled.told ∙ p.head.told) in
      let fields = p.only w.fields (fields_of integers limits number other w j h p.ms p.is p.ks p.known) in
      same_message w m
      (one_kind w.kind m.kind p.head.type v.kind_fits p.kind_fits (subst (SpellsKind w.kind) type h.spelled.kind) p.head.kind_is)
      (one_number 0 w.flags m.flags _ (omega (arith, flags)) (omega (arith, mine)) h.spelled.flags p.head.flags_are)
      (one_number number w.serial m.serial _ (omega (arith, serial)) (omega (arith, own)) h.spelled.serial p.head.serial_is)
      fields (one_body integers limits.depth (body_signature m.fields) _ w.body m.body (body_of integers limits number other w j h m.fields fields) p.body)

module _ (integers : Integers) {A : Type 0} (limits : Limits) (number : ℕ) (order : Order) (q : Parts A) (j : Json) (p : AreParts integers limits number order (parts_tree q) j) where
  pub made : (m : Message A) → IsBuilt limits q (Ok m) → IsReadMessage integers limits number order (message_tree m) j
  made m built =
      let none = built.1 in
      let whole = valid limits q none.0.0.0 (numbers_held integers limits number order (parts_tree q) j p) none.0.0.1 none.0.1 in
      let kept = kept_valid limits (parts_tree q) whole (none.0.0.0.0.0.0.0.1, none.0.0.1, none.0.1, none.1) in
      subst (λ (t : MessageTree). IsReadMessage integers limits number order t j) (sym built.0) (record { spelled = spelled_by integers limits number order (parts_tree q) j p; valid = kept })

  pub never_refused : (x : Parts A × BuildFault) → IsBuilt limits q (Err x) → IsTaken limits q (Err x) → PartsKeepBytes q → (other : Order) (w : MessageTree) → IsReadMessage integers limits number other w j → ⊥
  never_refused x built taken packed other w h =
      subst (IsFirstFault limits q) (taken (subst (IsValidMessage limits) (one_message integers limits number order (parts_tree q) j p other w h) h.valid) packed) built.1
