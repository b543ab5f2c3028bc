-- Parts of which no case of fault holds are those of a message and keep bytes, and no others are.
use Rattle.std.proofs.Common.{◌≡◌, inr, ℕ, zero, suc, ◌+◌, ◌<◌, List, [], ◌∷◌, length, map, Bool, true, false, ◌&&◌, ◌||◌, Option, Some, None, if◌then◌else◌, IsTrue, eqb, refl, sym, ap, subst, ◌∙◌, arith, rules}
use Rattle.std.proofs.lemmas.Bool.{ne_eqb, eqb-true, and_parts, and_from}
use Rattle.dbus_texts.specs.Types.{NumberCode, UINT32, STRING, NumberType, TextType, VariantType, ArrayType, StructType, EntryType, NoTypes, TypeTrees, AreComplete, sigs, IsBasic, IsSingleType}
use Rattle.dbus_texts.specs.Kinds.{IsKind}
use Rattle.dbus_texts.specs.declared.text_kind.TextKind.TheVariants as kinds
use Rattle.dbus_texts.proofs.KindFacts.{sigs_same}
use Rattle.dbus_value_model.specs.declared.limits.Limits.{Limits}
use Rattle.dbus_value_model.specs.declared.order.Order.TheVariants.{Little}
use Rattle.dbus_value_model.specs.Forming.{IsUniform, AreUniform, IsNamed, AreNamed}
use Rattle.dbus_value_model.specs.PackedBytes.{keep_bytes, keeps_bytes}
use Rattle.dbus_value_model.specs.Values.{ValueTree, NumberValue, TextValue, VariantValue, ArrayValue, StructValue, EntryValue, type_of, types_of, value_trees, AllOf, IsWellFormed, AreWellFormed}
use Rattle.dbus_value_model.specs.ValueViews.{value_tree, value_trees_of}
use Rattle.dbus_value_model.specs.WantedTexts.{IsWanted, kind_of}
use Rattle.dbus_value_model.specs.declared.value.Value.{Value, the_lemmas}
use Rattle.dbus_value_model.proofs.Formed.{parts_of, all_parts_of}
use Rattle.dbus_message_model.specs.KeptLimits.{IsShallow}
use Rattle.dbus_message_model.specs.Messages.{FieldTree, Want, Anything, OfType, Name, Serial, want, Suits, AreFields, field_struct, field_array, field_type, has_code, is_known, text_in, body_signature, IsValidMessage, is_particular}
use Rattle.dbus_message_model.specs.PackedParts.{field_values, PartsKeepBytes}
use Rattle.dbus_message_model.specs.PartsViews.{field_tree, field_trees, parts_tree}
use Rattle.dbus_message_model.specs.SingleTypes.{AreSingleTypes}
use Rattle.dbus_message_model.specs.declared.header_field.HeaderField.{HeaderField}
use Rattle.dbus_message_model.specs.declared.parts.Parts.{Parts}
use Rattle.dbus_message_model.proofs.FieldLists.{each_single}
use Rattle.dbus_message_model.proofs.KnownValues.{name_is_text, text_of, WantOk, want_ok}
use Rattle.dbus_message_model.proofs.Widening.{kept_valid}
use Rattle.dbus_build.specs.BuildFaults.{IsFirstWithout, IsOfType, type_wanted, Suffices, Keeps, HoldsSound, IsSound, twice, SignaturePasses, TypesPass, NoFault, KeptParts}
use Rattle.dbus_build.specs.declared.faulty_fields.Rule.TheVariants.{Nonzero, OwnType, OwnKind}
use Rattle.dbus_build.proofs.Finding.{rest}

-- ---- one field

-- a value whose types fit together and whose texts are of their kinds
pub record IsFormed (v : ValueTree) : Type 0 where
  pub single : IsSingleType (type_of v)
  pub uniform : IsUniform v
  pub named : IsNamed v

plain_formed : (v : ValueTree) → IsSingleType (type_of v) → IsUniform v → IsNamed v → IsFormed v
plain_formed v single uniform named = record { single = single; uniform = uniform; named = named }

-- what the cases ask of a known field's value
pub record IsHeld (w : Want) (v : ValueTree) : Type 0 where
  pub nonzero : Suffices Nonzero w v
  pub typed : Suffices OwnType w v
  pub kind : Suffices OwnKind w v

number_of : (c : NumberCode) (v : ValueTree) → type_of v ≡ NumberType c → (n : ℕ) × (v ≡ NumberValue c n)
number_of c (NumberValue k n) h = let e : k ≡ c = cc in (n, ap (λ d. NumberValue d n) e)
number_of c (TextValue k t) h = absurd cc
number_of c (VariantValue x) h = absurd cc
number_of c (ArrayValue t xs) h = absurd cc
number_of c (StructValue xs) h = absurd cc
number_of c (EntryValue k v) h = absurd cc

-- That is what is wanted of it, and its form; and the other way round.
held : (w : Want) → WantOk w → (v : ValueTree)
    → (IsHeld w v → (is_particular w ≡ false → IsFormed v) → Suits w v × IsFormed v) × (Suits w v → IsNamed v → IsHeld w v)
held Anything ok v = (λ h formed. (tt, formed refl), λ s named. record { nonzero = λ e z. absurd cc; typed = tt; kind = tt })
held (OfType (NumberType c)) ok v = (
  λ h formed. let n = number_of c v h.typed in (h.typed, subst IsFormed (sym n.1) (plain_formed (NumberValue c n.0) ok.0 tt tt)),
  λ s named. record { nonzero = λ e z. absurd cc; typed = s; kind = tt },
)
held (OfType (TextType c)) ok v = (
  λ h formed.
      let t = text_of c v h.typed in
      let kind = subst (λ (x : ValueTree). IsWanted (kind_of c) (text_in x)) t.1 h.kind in
      (h.typed, subst IsFormed (sym t.1) (plain_formed (TextValue c t.0) ok.0 tt kind)),
  λ s named.
      let t = text_of c v s in
      let kind = subst (λ (x : ValueTree). IsWanted (kind_of c) (text_in x)) (sym t.1) (subst IsNamed t.1 named) in
      record { nonzero = λ e z. absurd cc; typed = s; kind = kind },
)
held (OfType VariantType) ok v = absurd ok.1
held (OfType (ArrayType t)) ok v = absurd ok.1
held (OfType (StructType ts)) ok v = absurd ok.1
held (OfType (EntryType k t)) ok v = absurd ok.1
held (Name k) ok v = (
  λ h formed.
      let t = text_of STRING v h.typed in
      let there = subst (λ (x : ValueTree). IsWanted k (text_in x)) t.1 h.kind in (
        (t.0, t.1, there),
        subst IsFormed (sym t.1)
            (plain_formed (TextValue STRING t.0) (tt, omega arith) tt (name_is_text k t.0 ok.0 there)),
      ),
  λ s named.
      let kind = subst (λ (x : ValueTree). IsWanted k (text_in x)) (sym s.1) s.2 in
      record { nonzero = λ e z. absurd cc; typed = ap type_of s.1; kind = kind },
)
held Serial ok v = (
  λ h formed.
      let n = number_of UINT32 v h.typed in
      let some : n.0 ≡ 0 → ⊥ = λ z. h.nonzero refl (n.1 ∙ ap (λ (m : ℕ). NumberValue UINT32 m) z) in
      ((n.0, n.1, omega (arith, some)), subst IsFormed (sym n.1) (plain_formed (NumberValue UINT32 n.0) (tt, omega arith) tt tt)),
  λ s named. record {
    nonzero = λ e z.
        let same : NumberValue UINT32 s.0 ≡ NumberValue UINT32 0 = sym s.1 ∙ z in
        let zero_is : s.0 ≡ 0 = cc in
        absurd (omega (arith, zero_is, s.2));
    typed = ap type_of s.1;
    kind = tt;
  },
)

-- ---- all fields

or_parts : (a b : Bool) → a || b ≡ false → (a ≡ false) × (b ≡ false)
or_parts true b h = absurd cc
or_parts false b h = (refl, h)

some_code : (c : ℕ) → eqb c 0 ≡ false → 0 < c
some_code zero h = absurd cc
some_code (suc c) h = omega arith

first_of : (b : Bool) (r : Option ℕ) (c : ℕ) → (if b then Some c else r) ≡ None → (b ≡ false) × (r ≡ None)
first_of true r c e = absurd cc
first_of false r c e = (refl, e)

wanted_basic : (w : Want) → WantOk w → is_particular w ≡ true → (v : ValueTree) → IsOfType (type_wanted w) v → IsBasic (type_of v)
wanted_basic Anything ok is v typed = absurd cc
wanted_basic (OfType t) ok is v typed = subst IsBasic (sym typed) ok.1
wanted_basic (Name k) ok is v typed = subst IsBasic (sym typed) tt
wanted_basic Serial ok is v typed = subst IsBasic (sym typed) tt

module _ {A : Type 0} where
  abbrev pub none_without : (HeaderField A → Type 0) → ℕ → List (HeaderField A) → Type 0
  none_without P n fs = IsFirstWithout P (λ m f. f.code) n fs None

  -- none of the fields is at fault
  pub record ArePassed (n : ℕ) (fs : List (HeaderField A)) : Type 0 where
    pub codes : has_code 0 (field_trees fs) ≡ false
    pub nonzero : none_without (Keeps Nonzero) n fs
    pub typed : none_without (Keeps OwnType) n fs
    pub kind : none_without (Keeps OwnKind) n fs
    pub sound : none_without HoldsSound n fs

  -- and of the first and the others
  pub record IsPassed (n : ℕ) (f : HeaderField A) (fs : List (HeaderField A)) : Type 0 where
    pub code : 0 < f.code
    pub known : IsHeld (want f.code) (value_tree f.value)
    pub sound : HoldsSound f
    pub others : ArePassed (n + 1) fs

  passed : (n : ℕ) (f : HeaderField A) (fs : List (HeaderField A)) → ArePassed n (f ∷ fs) → IsPassed n f fs
  passed n f fs h =
      let code = or_parts (eqb f.code 0) (has_code 0 (field_trees fs)) h.codes in
      let nonzero = rest (Keeps Nonzero) (λ m g. g.code) n f fs h.nonzero in
      let typed = rest (Keeps OwnType) (λ m g. g.code) n f fs h.typed in
      let kind = rest (Keeps OwnKind) (λ m g. g.code) n f fs h.kind in
      let sound = rest HoldsSound (λ m g. g.code) n f fs h.sound in
      record {
        code = some_code f.code code.0;
        known = record { nonzero = nonzero.0; typed = typed.0; kind = kind.0 };
        sound = sound.0;
        others = record { codes = code.1; nonzero = nonzero.1; typed = typed.1; kind = kind.1; sound = sound.1 };
      }

  good : (n : ℕ) (f : HeaderField A) (fs : List (HeaderField A)) → IsPassed n f fs
      → Suits (want f.code) (value_tree f.value) × IsFormed (value_tree f.value)
  good n f fs h = (held (want f.code) (want_ok f.code) (value_tree f.value)).0 h.known
      (λ e. let w = h.sound e in record { single = w.0.single; uniform = w.0.uniform; named = w.1 })

  pub are_fields : (n : ℕ) (before : List FieldTree) (fs : List (HeaderField A)) → ArePassed n fs → twice before (field_trees fs) ≡ None
      → AreFields before (field_trees fs)
  are_fields n before [] h once = tt
  are_fields n before (f ∷ fs) h once =
      let w = passed n f fs h in
      let first = first_of (is_known f.code && has_code f.code before) _ f.code once in (
        record { not_zero = w.code; not_again = first.0; suits = (good n f fs w).0 },
        are_fields (n + 1) (field_tree f ∷ before) fs w.others first.1,
      )

  -- what the fields are as values
  pub record AreFormedFields (fs : List (HeaderField A)) : Type 0 where
    pub typed : AllOf field_type (value_trees (map field_struct (field_trees fs)))
    pub uniform : AreUniform (value_trees (map field_struct (field_trees fs)))
    pub named : AreNamed (value_trees (map field_struct (field_trees fs)))

  pub formed_fields : (n : ℕ) (fs : List (HeaderField A)) → ArePassed n fs → AreFormedFields fs
  formed_fields n [] h = record { typed = tt; uniform = tt; named = tt }
  formed_fields n (f ∷ fs) h =
      let w = passed n f fs h in
      let v = (good n f fs w).1 in
      let others = formed_fields (n + 1) fs w.others in
      record {
        typed = (refl, others.typed);
        uniform = ((tt, ((v.single, v.uniform), tt)), others.uniform);
        named = ((tt, (v.named, tt)), others.named);
      }

  -- the fields of a message are passed
  all_passed : (depth_left n : ℕ) (before : List FieldTree) (fs : List (HeaderField A)) → AreFields before (field_trees fs)
      → AreWellFormed depth_left (value_trees (map field_struct (field_trees fs)))
      → IsTrue (keep_bytes (field_values fs)) → ArePassed n fs × (twice before (field_trees fs) ≡ None)
  all_passed depth_left n before [] h formed kept = (record { codes = refl; nonzero = refl; typed = refl; kind = refl; sound = refl }, refl)
  all_passed zero n before (f ∷ fs) h formed kept = absurd formed.0
  all_passed (suc zero) n before (f ∷ fs) h formed kept = absurd formed.0.1.0
  all_passed (suc (suc inner)) n before (f ∷ fs) h formed kept =
      let parts = parts_of inner (value_tree f.value) formed.0.1.0.1 in
      let one = (held (want f.code) (want_ok f.code) (value_tree f.value)).1 h.0.suits parts.2 in
      let packed = and_parts _ _ kept in
      let others = all_passed (suc (suc inner)) (n + 1) (field_tree f ∷ before) fs h.1 formed.1 packed.1 in
      let once : is_known f.code && has_code f.code before ≡ false = h.0.not_again in
      let some : eqb f.code 0 ≡ false = ne_eqb f.code 0 (omega (arith, h.0.not_zero)) in
      let sound : HoldsSound f = λ unknown. (record { single = formed.0.1.0.0; uniform = parts.1; packed = packed.0 }, parts.2) in (
        record {
          codes = rw some others.0.codes;
          nonzero = inr (one.nonzero, others.0.nonzero);
          typed = inr (one.typed, others.0.typed);
          kind = inr (one.kind, others.0.kind);
          sound = inr (sound, others.0.sound);
        },
        rw once others.1,
      )

  -- each array of bytes in fields that are passed is `Bytes`
  basic_packed : (v : Value A) → IsBasic (type_of (value_tree v)) → IsTrue (keeps_bytes v)
  basic_packed v h = search (rules, the_lemmas)

  field_packed : (f : HeaderField A) (known : Bool) → is_known f.code ≡ known → Keeps OwnType f → HoldsSound f
      → IsTrue (keeps_bytes f.value)
  field_packed f true is typed sound = basic_packed f.value (wanted_basic (want f.code) (want_ok f.code) is (value_tree f.value) typed)
  field_packed f false is typed sound = (sound is).0.packed

  fields_packed : (n : ℕ) (fs : List (HeaderField A)) → ArePassed n fs → IsTrue (keep_bytes (field_values fs))
  fields_packed n [] h = refl
  fields_packed n (f ∷ fs) h =
      let w = passed n f fs h in
      and_from _ _ (field_packed f (is_known f.code) refl w.known.typed w.sound) (fields_packed (n + 1) fs w.others)

-- ---- the body

-- what values are, all of which are sound
pub record AreSound {A : Type 0} (vs : List (Value A)) : Type 0 where
  pub uniform : AreUniform (value_trees_of vs)
  pub named : AreNamed (value_trees_of vs)
  pub packed : IsTrue (keep_bytes vs)

pub sound_values : {A : Type 0} (n : ℕ) (vs : List (Value A)) → IsFirstWithout IsSound (λ m v. m) n vs None → AreSound vs
sound_values n [] h = record { uniform = tt; named = tt; packed = refl }
sound_values n (v ∷ vs) h =
    let w = rest IsSound (λ m u. m) n v vs h in
    let others = sound_values (n + 1) vs w.1 in
    record { uniform = (w.0.0.uniform, others.uniform); named = (w.0.1, others.named); packed = and_from _ _ w.0.0.packed others.packed }

values_pass : {A : Type 0} (depth_left n : ℕ) (vs : List (Value A)) → AreSingleTypes (types_of (value_trees_of vs))
    → AreWellFormed depth_left (value_trees_of vs) → IsTrue (keep_bytes vs) → IsFirstWithout IsSound (λ m v. m) n vs None
values_pass depth_left n [] single formed kept = refl
values_pass depth_left n (v ∷ vs) single formed kept =
    let parts = parts_of depth_left (value_tree v) formed.0 in
    let packed = and_parts _ _ kept in
    let sound : IsSound v = (record { single = single.0; uniform = parts.1; packed = packed.0 }, parts.2) in
    inr (sound, values_pass depth_left (n + 1) vs single.1 formed.1 packed.1)

signature_at : (b : Bool) (c : ℕ) → eqb c 8 ≡ b → (v : ValueTree) (u : List ℕ) → Suffices OwnKind (want c) v → IsKind kinds.Signature u
    → IsKind kinds.Signature (if b then text_in v else u)
signature_at true c e v u own others = subst (λ (n : ℕ). Suffices OwnKind (want n) v) (eqb-true c 8 e) own
signature_at false c e v u own others = others

pub signature_of : {A : Type 0} (n : ℕ) (fs : List (HeaderField A)) → IsFirstWithout (Keeps OwnKind) (λ m f. f.code) n fs None
    → IsKind kinds.Signature (body_signature (field_trees fs))
signature_of n [] h = ((NoTypes, tt, refl), omega arith)
signature_of n (f ∷ fs) h =
    let w = rest (Keeps OwnKind) (λ m g. g.code) n f fs h in
    signature_at (eqb f.code 8) f.code refl (value_tree f.value) (body_signature (field_trees fs)) w.0 (signature_of (n + 1) fs w.1)

single_types : (ts : TypeTrees) (w : List ℕ) → sigs ts ≡ w → IsKind kinds.Signature w → AreSingleTypes ts
single_types ts w e k =
    let same : ts ≡ k.0.0 = sigs_same ts k.0.0 (e ∙ k.0.2) in
    let short : length (sigs ts) < 256 = omega (arith, k.1, ap length e) in
    each_single ts (subst (λ (us : TypeTrees). AreComplete us 0 0) (sym same) k.0.1) short

-- ---- all

inside : (depth : ℕ) (fs : List FieldTree) → IsWellFormed depth (field_array fs)
    → (depth_left : ℕ) × AreWellFormed depth_left (value_trees (map field_struct fs))
inside zero fs h = absurd h
inside (suc depth_left) fs h = (depth_left, h.1)

module _ {A : Type 0} (limits : Limits) (p : Parts A) where
  pub fields_pass : SignaturePasses limits p → ArePassed 0 p.fields.items
  fields_pass s = record {
    codes = s.0.0.0.0.0.0.0.0.1;
    nonzero = s.0.0.0.0.0.0.0.0.0.2;
    typed = s.0.0.0.0.0.0.1;
    kind = s.0.0.0.1;
    sound = s.0.0.1;
  }

  pub no_fault : IsValidMessage limits (parts_tree p) → PartsKeepBytes p → NoFault limits p
  no_fault valid packed =
      let m = parts_tree p in
      let h = valid Little in
      let within = inside limits.depth m.fields h.formed_fields in
      let fields = all_passed within.0 0 [] p.fields.items h.fields within.1 packed.0 in
      let shallow : IsShallow limits m =
      ((parts_of limits.depth (field_array m.fields) h.formed_fields).0, (all_parts_of limits.depth m.body h.formed_body).0) in
      let single = single_types (types_of m.body) (body_signature m.fields) h.signature (signature_of 0 p.fields.items fields.0.kind) in
      let values = values_pass limits.depth 0 p.body.items single h.formed_body packed.1 in
      let kind : m.kind ≡ 0 → ⊥ = λ e. absurd (omega (arith, e, h.kind)) in
      let serial : m.serial ≡ 0 → ⊥ = λ e. absurd (omega (arith, e, h.serial)) in
      let types : TypesPass p = ((((kind, serial, fields.0.nonzero), fields.0.codes), fields.1), fields.0.typed) in
      let all : SignaturePasses limits p =
      ((((((types, h.required_codes), shallow), fields.0.kind), fields.0.sound), values), h.signature) in
      (((all, (h.within_fields, h.within_body)), λ long. absurd (omega (arith, long, h.limit))), h.indexes)

  pub parts_packed : NoFault limits p → PartsKeepBytes p
  parts_packed h = let s = h.0.0.0 in (fields_packed 0 p.fields.items (fields_pass s), (sound_values 0 p.body.items s.0.1).packed)

pub kept_parts : {A : Type 0} → KeptParts A
kept_parts limits p valid packed = (
  λ none. (none.0.0.0.0.0.0.0.1, none.0.0.1, none.0.1, none.1),
  λ keeps. no_fault limits p (kept_valid limits (parts_tree p) valid keeps) packed,
)
