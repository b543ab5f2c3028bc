-- What a value of each type is, and the JSON that spells it.
use Rattle.std.proofs.Common.{◌≡◌, ℕ, zero, suc, ◌*◌, ◌^◌, ◌<◌, true, false, List, [], ◌∷◌, length, get_or, Vec, Result, Ok, Err, IsErrAnd, IfErr, length-append, inl, inr, codes, refl, sym, ap, ◌∙◌, subst, arith, rules}
use Rattle.std.proofs.lemmas.Bool.{true≢false}
use Rattle.std.proofs.lemmas.List.{append-nil}
use Rattle.std.specs.Borrow.{Bor}
use Rattle.hex.specs.Hex.{decode_of, IsBytes}
use Rattle.hex.proofs.HexLemmas.{decode_of-ok}
use Rattle.json.specs.Json as json
use Rattle.json.specs.Json.{Json, Items, no_items, item, Members, no_members, member}
use Rattle.json.specs.Tree.{json_tokens, items_tokens, members_tokens}
use Rattle.json.specs.Value.{value_view, items_view, members_view}
use Rattle.json.proofs.Trees.{view-Array, view-Object, item_smaller}
use Rattle.dbus_json.specs.declared.integers.Integers.{Integers}
use Rattle.dbus_json_reader.specs.JsonFaults.{IsUnspelled}
use Rattle.dbus_json_reader.specs.declared.unread.Broken.{Broken}
use Rattle.dbus_json_reader.specs.declared.unread.Unread.{Unread}
use Rattle.dbus_json_reader.specs.declared.unread.Unread.TheVariants.{Unspelled}
use Rattle.json.specs.declared.value.Value.{Value, Number, Array, Object, the_lemmas}
use Rattle.dbus_texts.specs.PlainTypes.{is_byte}
use Rattle.dbus_texts.specs.Types.{NumberCode, BYTE, BOOLEAN, INT16, UINT16, INT32, UINT32, INT64, UINT64, DOUBLE, UNIX_FD, TextCode, STRING, OBJECT_PATH, SIGNATURE, TypeTree, TypeTrees, NumberType, TextType, VariantType, ArrayType, StructType, EntryType, sig, IsSingleType}
use Rattle.dbus_types.proofs.PrefixSteps.{text_same}
use Rattle.dbus_types.specs.Alignments.{length_width}
use Rattle.dbus_types.specs.SigTypes.{type_tree}
use Rattle.dbus_types.specs.declared.sig_type.SigType.{Byte, Bool as BoolOf, I16, U16, I32, U32, I64, U64, Double, Fd, Str, Path, Sig, the_lemmas as type_lemmas}
use Rattle.dbus_value_model.specs.Values as values
use Rattle.dbus_value_model.specs.Values.{ValueTree, ValueTrees, NumberValue, TextValue, VariantValue, ArrayValue, StructValue, EntryValue, type_of, types_of, AllOf, AreWellFormed}
use Rattle.dbus_value_model.specs.ValueViews.{byte_values}
use Rattle.dbus_value_model.specs.WantedTexts.{kind_of, IsWanted}
use Rattle.dbus_show.specs.ShownValues.{bytes_in}
use Rattle.dbus_json_reader.specs.JsonNumbers.{SpellsNumber}
use Rattle.dbus_json_reader.specs.JsonValues.{IsTyped, IsRead, AreElements, AreRead}

-- ---- JSON, level by level

pub view-Number : (A : Type 0) (s : Bor (List ℕ)) → value_view {A = A} (Number s) ≡ json.number s.now
view-Number A s = search (rules, the_lemmas)

module _ {A : Type 0} (o : Value A) where
  pub no_array : ((v : Vec (Value A) A) → o ≡ Array v → ⊥) → (js : Items) → json.array js ≡ value_view o → ⊥
  no_array n js e = search (rules, the_lemmas)

  pub no_object : ((v : Vec (Bor (List ℕ) × Value A) A) → o ≡ Object v → ⊥) → (ms : Members) → json.object ms ≡ value_view o → ⊥
  no_object n ms e = search (rules, the_lemmas)

-- ---- types, level by level

pub basic_types : (A : Type 0) → (type_tree {A = A} Byte ≡ NumberType BYTE) × (type_tree {A = A} BoolOf ≡ NumberType BOOLEAN)
    × (type_tree {A = A} I16 ≡ NumberType INT16) × (type_tree {A = A} U16 ≡ NumberType UINT16)
    × (type_tree {A = A} I32 ≡ NumberType INT32) × (type_tree {A = A} U32 ≡ NumberType UINT32)
    × (type_tree {A = A} I64 ≡ NumberType INT64) × (type_tree {A = A} U64 ≡ NumberType UINT64)
    × (type_tree {A = A} Double ≡ NumberType DOUBLE) × (type_tree {A = A} Fd ≡ NumberType UNIX_FD)
    × (type_tree {A = A} Str ≡ TextType STRING) × (type_tree {A = A} Path ≡ TextType OBJECT_PATH)
    × (type_tree {A = A} Sig ≡ TextType SIGNATURE)
basic_types A = (
  search (rules, type_lemmas),
  search (rules, type_lemmas),
  search (rules, type_lemmas),
  search (rules, type_lemmas),
  search (rules, type_lemmas),
  search (rules, type_lemmas),
  search (rules, type_lemmas),
  search (rules, type_lemmas),
  search (rules, type_lemmas),
  search (rules, type_lemmas),
  search (rules, type_lemmas),
  search (rules, type_lemmas),
  search (rules, type_lemmas),
)

-- ---- what is smaller, and what a failed call says

pub array_seen : {A : Type 0} (o : Value A) (v : Vec (Value A) A) (l : List (Value A)) → o ≡ Array v → l ≡ v.items → value_view o ≡ json.array (items_view l)
array_seen o v l is same = ap value_view is ∙ view-Array v ∙ ap (λ us. json.array (items_view us)) (sym same)

pub object_seen : {A : Type 0} (o : Value A) (v : Vec (Bor (List ℕ) × Value A) A) (l : List (Bor (List ℕ) × Value A)) → o ≡ Object v → l ≡ v.items → value_view o ≡ json.object (members_view l)
object_seen o v l is same = ap value_view is ∙ view-Object v ∙ ap (λ us. json.object (members_view us)) (sym same)

pub smaller_item : {A : Type 0} (o : Value A) (l : List (Value A)) (i : ℕ) (x : Value A) → value_view o ≡ json.array (items_view l) → i < length l → x ≡ get_or l i x →
    suc (2 * length (json_tokens (value_view x))) < 2 * length (json_tokens (value_view o))
smaller_item o l i x seen within is =
    let whole : length (json_tokens (value_view o)) ≡ suc (length (items_tokens (items_view l))) = ap (λ (j : Json). length (json_tokens j)) seen in
    let less : length (json_tokens (value_view x)) < length (items_tokens (items_view l)) =
    subst (λ y. length (json_tokens (value_view y)) < length (items_tokens (items_view l))) (sym is) (item_smaller l i x within) in
    omega (arith, whole, less)

two_tokens : (a b : Json) → (length (json_tokens a) < length (json_tokens (json.array (item a (item b no_items))))) × (length (json_tokens b) < length (json_tokens (json.array (item a (item b no_items)))))
two_tokens a b =
    let first = length-append (json_tokens a) (items_tokens (item b no_items)) in
    let second = length-append (json_tokens b) (items_tokens no_items) in
    (omega (arith, first, second), omega (arith, first, second))

pub smaller_pair : (j a b : Json) → j ≡ json.array (item a (item b no_items)) → (suc (2 * length (json_tokens a)) < 2 * length (json_tokens j)) × (suc (2 * length (json_tokens b)) < 2 * length (json_tokens j))
smaller_pair j a b seen =
    let whole : length (json_tokens j) ≡ length (json_tokens (json.array (item a (item b no_items)))) = ap (λ (o : Json). length (json_tokens o)) seen in
    let less = two_tokens a b in
    let first = less.0 in
    let second = less.1 in
    (omega (arith, whole, first), omega (arith, whole, second))

typed_tokens : (s : List ℕ) (i : Json) (ms : Members) → IsTyped s i ms → length (json_tokens i) < length (members_tokens ms)
typed_tokens s i ms (inl e) =
    subst (λ (m : Members). length (json_tokens i) < length (members_tokens m)) (sym e) (omega (arith, length-append (json_tokens (json.string s)) (members_tokens (member (codes "value") i no_members)), length-append (json_tokens i) (members_tokens no_members)))
typed_tokens s i ms (inr e) =
    subst (λ (m : Members). length (json_tokens i) < length (members_tokens m)) (sym e) (omega (arith, length-append (json_tokens i) (members_tokens (member (codes "type") (json.string s) no_members)), length-append (json_tokens (json.string s)) (members_tokens no_members)))

pub smaller_typed : (j i : Json) (s : List ℕ) (ms : Members) → j ≡ json.object ms → IsTyped s i ms → suc (2 * length (json_tokens i)) < 2 * length (json_tokens j)
smaller_typed j i s ms seen pair =
    let whole : length (json_tokens j) ≡ suc (length (members_tokens ms)) = ap (λ (o : Json). length (json_tokens o)) seen in
    let less = typed_tokens s i ms pair in
    omega (arith, whole, less)

pub failed : {T U : Type 0} (r : Result T Unread) (x : Unread) → IsErrAnd r (λ y. y ≡ x) → (b : Broken) → r ≡ Err (Unspelled b) → ◌≡◌ {A = Result U Unread} (Err x) (Err (Unspelled b))
failed (Ok v) x h b e = absurd h
failed {T} {U} (Err y) x h b e =
    let same : ◌≡◌ {A = Result T Unread} (Err y) (Err (Unspelled b)) = e in
    let is : x ≡ Unspelled b = cc in
    let err : Unread → Result U Unread = λ z. Err z in
    ap err is

pub if_err : {T E : Type 0} (P : Type 0) (r : Result T E) → P → IfErr r (λ _. P)
if_err P (Ok v) h = tt
if_err P (Err e) h = h

-- an error of a value is one of a value in it
pub through : {T U P : Type 0} (why inner : Unread) → (IsUnspelled why → IsUnspelled inner) → (b : Broken) → ◌≡◌ {A = Result T Unread} (Err why) (Err (Unspelled b))
    → ((c : Broken) → ◌≡◌ {A = Result U Unread} (Err inner) (Err (Unspelled c)) → P) → P
through {T} {U} why inner same b e f =
    let is : why ≡ Unspelled b = cc in
    let c = same (b, is) in
    let err : Unread → Result U Unread = λ z. Err z in
    f c.0 (ap err c.1)

-- ---- numbers and texts

module _ (integers : Integers) (t : TypeTree) (j : Json) where
  pub number_made : (k : NumberCode) (n : ℕ) (v : ValueTree) → t ≡ NumberType k → v ≡ NumberValue k n → values.IsNumber k n → SpellsNumber integers k n j → (depth : ℕ) → IsRead integers depth t v j
  number_made k n v type is fits spelled depth =
      subst (λ w. IsRead integers depth t w j) (sym is) (record { spelled = spelled; typed = sym type; formed = fits })

  pub number_none : (k : NumberCode) → t ≡ NumberType k → ((n : ℕ) → values.IsNumber k n → SpellsNumber integers k n j → ⊥) → (depth : ℕ) (v : ValueTree) → IsRead integers depth t v j → ⊥
  number_none k type none depth (NumberValue i n) h =
      let same : i ≡ k = let e : NumberType i ≡ NumberType k = h.typed ∙ type in cc in
      none n (subst (λ c. values.IsNumber c n) same h.formed) (subst (λ c. SpellsNumber integers c n j) same h.spelled)
  number_none k type none depth v h = absurd (let e : type_of v ≡ NumberType k = h.typed ∙ type in cc)

  pub text_made : (k : TextCode) (s : List ℕ) (v : ValueTree) → t ≡ TextType k → v ≡ TextValue k s → IsWanted (kind_of k) s → length s < 256 ^ length_width k → j ≡ json.string s → (depth : ℕ) → IsRead integers depth t v j
  text_made k s v type is kind short spelled depth =
      subst (λ w. IsRead integers depth t w j) (sym is) (record { spelled = spelled; typed = sym type; formed = (kind, short) })

  pub text_none : (k : TextCode) → t ≡ TextType k → ((s : List ℕ) → IsWanted (kind_of k) s → length s < 256 ^ length_width k → j ≡ json.string s → ⊥) → (depth : ℕ) (v : ValueTree) → IsRead integers depth t v j → ⊥
  text_none k type none depth (TextValue i s) h =
      let same : i ≡ k = let e : TextType i ≡ TextType k = h.typed ∙ type in cc in
      none s (subst (λ c. IsWanted (kind_of c) s) same h.formed.0) (subst (λ c. length s < 256 ^ length_width c) same h.formed.1) h.spelled
  text_none k type none depth v h = absurd (let e : type_of v ≡ TextType k = h.typed ∙ type in cc)

-- ---- arrays

module _ (integers : Integers) (depth : ℕ) (t : TypeTree) (v w : ValueTree) (i j : Json) where
  pub moved : v ≡ w → i ≡ j → IsRead integers depth t w j → IsRead integers depth t v i
  moved e f h = subst (λ u. IsRead integers depth t u i) (sym e) (subst (λ o. IsRead integers depth t w o) (sym f) h)

pub read_as : (integers : Integers) (d e : ℕ) (t u : TypeTree) (v : ValueTree) (i j : Json) → d ≡ e → t ≡ u → i ≡ j → IsRead integers d t v i → IsRead integers e u v j
read_as integers d e t u v i j depths types seen h = subst (λ (o : Json). IsRead integers e u v o) seen (subst (λ w. IsRead integers e w v i) types (subst (λ (n : ℕ). IsRead integers n t v i) depths h))

at_depth : (integers : Integers) (depth less : ℕ) (t : TypeTree) (v : ValueTree) (j : Json) → depth ≡ suc less → IsRead integers (suc less) t v j → IsRead integers depth t v j
at_depth integers depth less t v j deep h = subst (λ (d : ℕ). IsRead integers d t v j) (sym deep) h

bytes_back : (bytes : List ℕ) → bytes_in (byte_values bytes) ≡ bytes
bytes_back [] = refl
bytes_back (b ∷ bytes) = ap (λ (s : List ℕ). b ∷ s) (bytes_back bytes)

all_bytes : (bytes : List ℕ) → AllOf (NumberType BYTE) (byte_values bytes)
all_bytes [] = tt
all_bytes (b ∷ bytes) = (refl, all_bytes bytes)

bytes_formed : (depth : ℕ) (bytes : List ℕ) → IsBytes bytes → AreWellFormed depth (byte_values bytes)
bytes_formed depth [] h = tt
bytes_formed depth (b ∷ bytes) h = (h 0, bytes_formed depth bytes (λ i. h (suc i)))

byte_only : (t : TypeTree) → is_byte t ≡ true → t ≡ NumberType BYTE
byte_only (NumberType BYTE) e = refl
byte_only t e = absurd (true≢false (sym e))

pub bytes_made : (integers : Integers) (depth less : ℕ) (t : TypeTree) (bytes text : List ℕ) → depth ≡ suc less → is_byte t ≡ true → decode_of text ≡ Ok bytes → IsRead integers depth (ArrayType t) (ArrayValue (NumberType BYTE) (byte_values bytes)) (json.string text)
bytes_made integers depth less t bytes text deep byte decoded = at_depth integers depth less _ _ _ deep (record {
  spelled = (λ e. (text, refl, decoded ∙ ap (λ (b : List ℕ). Ok b) (sym (bytes_back bytes))), λ e. absurd (true≢false e));
  typed = ap ArrayType (sym (byte_only t byte));
  formed = (all_bytes bytes, bytes_formed less bytes (decode_of-ok text bytes decoded).3);
})

pub array_made : (integers : Integers) (depth less : ℕ) (t : TypeTree) (xs : ValueTrees) (js : Items) → depth ≡ suc less → is_byte t ≡ false → AreElements integers less t xs js → IsRead integers depth (ArrayType t) (ArrayValue t xs) (json.array js)
array_made integers depth less t xs js deep other h = at_depth integers depth less _ _ _ deep (record {
  spelled = (λ e. absurd (true≢false (sym e ∙ other)), λ e. (js, refl, h.spelled));
  typed = refl;
  formed = (h.typed, h.formed);
})

pub record IsArrayRead (integers : Integers) (depth : ℕ) (t : TypeTree) (v : ValueTree) (j : Json) : Type 0 where
  pub less : ℕ
  pub deep : depth ≡ suc less
  pub xs : ValueTrees
  pub shape : v ≡ ArrayValue t xs
  pub bytes : is_byte t ≡ true → (text : List ℕ) × (j ≡ json.string text) × (decode_of text ≡ Ok (bytes_in xs))
  pub items : is_byte t ≡ false → (js : Items) × (j ≡ json.array js) × AreElements integers less t xs js

array_parts : (integers : Integers) (less : ℕ) (u t : TypeTree) (xs : ValueTrees) (j : Json) → u ≡ t → IsRead integers (suc less) (ArrayType t) (ArrayValue u xs) j → IsArrayRead integers (suc less) t (ArrayValue u xs) j
array_parts integers less u t xs j same h = record {
  less = less;
  deep = refl;
  xs = xs;
  shape = ap (λ w. ArrayValue w xs) same;
  bytes = λ e. h.spelled.0 (ap is_byte same ∙ e);
  items = λ e. let all = h.spelled.1 (ap is_byte same ∙ e) in (all.0, all.1, record { spelled = all.2; typed = subst (λ w. AllOf w xs) same h.formed.0; formed = h.formed.1 });
}

pub array_read : (integers : Integers) (depth : ℕ) (t : TypeTree) (v : ValueTree) (j : Json) → IsRead integers depth (ArrayType t) v j → IsArrayRead integers depth t v j
array_read integers zero t (ArrayValue u xs) j h = absurd h.formed
array_read integers (suc less) t (ArrayValue u xs) j h = array_parts integers less u t xs j (let e : ArrayType u ≡ ArrayType t = h.typed in cc) h
array_read integers depth t v j h = absurd (let e : type_of v ≡ ArrayType t = h.typed in cc)

-- ---- structs

pub struct_made : (integers : Integers) (depth less : ℕ) (ts : TypeTrees) (xs : ValueTrees) (js : Items) → depth ≡ suc less → AreRead integers less ts xs js → IsRead integers depth (StructType ts) (StructValue xs) (json.array js)
struct_made integers depth less ts xs js deep h = at_depth integers depth less _ _ _ deep (record { spelled = (js, refl, h.spelled); typed = ap StructType h.typed; formed = h.formed })

pub record IsStructRead (integers : Integers) (depth : ℕ) (ts : TypeTrees) (v : ValueTree) (j : Json) : Type 0 where
  pub less : ℕ
  pub deep : depth ≡ suc less
  pub xs : ValueTrees
  pub shape : v ≡ StructValue xs
  pub js : Items
  pub is : j ≡ json.array js
  pub fields : AreRead integers less ts xs js

pub struct_read : (integers : Integers) (depth : ℕ) (ts : TypeTrees) (v : ValueTree) (j : Json) → IsRead integers depth (StructType ts) v j → IsStructRead integers depth ts v j
struct_read integers zero ts (StructValue xs) j h = absurd h.formed
struct_read integers (suc less) ts (StructValue xs) j h =
    let same : types_of xs ≡ ts = let e : StructType (types_of xs) ≡ StructType ts = h.typed in cc in
    record { less = less; deep = refl; xs = xs; shape = refl; js = h.spelled.0; is = h.spelled.1; fields = record { spelled = h.spelled.2; typed = same; formed = h.formed } }
struct_read integers depth ts v j h = absurd (let e : type_of v ≡ StructType ts = h.typed in cc)

-- ---- dict entries

two_types : (k l t u : TypeTree) → k ≡ l → t ≡ u → EntryType k t ≡ EntryType l u
two_types k l t u e f = cc

pub entry_made : (integers : Integers) (depth : ℕ) (k t : TypeTree) (x y : ValueTree) (a b : Json) → IsRead integers depth k x a → IsRead integers depth t y b → IsRead integers depth (EntryType k t) (EntryValue x y) (json.array (item a (item b no_items)))
entry_made integers depth k t x y a b key held = record {
  spelled = (a, b, key.spelled, held.spelled, refl);
  typed = two_types _ _ _ _ key.typed held.typed;
  formed = (key.formed, held.formed);
}

pub record IsEntryRead (integers : Integers) (depth : ℕ) (k t : TypeTree) (v : ValueTree) (j : Json) : Type 0 where
  pub key : Json
  pub value : Json
  pub is : j ≡ json.array (item key (item value no_items))
  pub x : ValueTree
  pub y : ValueTree
  pub shape : v ≡ EntryValue x y
  pub reads_key : IsRead integers depth k x key
  pub reads_value : IsRead integers depth t y value

pub entry_read : (integers : Integers) (depth : ℕ) (k t : TypeTree) (v : ValueTree) (j : Json) → IsRead integers depth (EntryType k t) v j → IsEntryRead integers depth k t v j
entry_read integers depth k t (EntryValue x y) j h =
    let first : type_of x ≡ k = let e : EntryType (type_of x) (type_of y) ≡ EntryType k t = h.typed in cc in
    let second : type_of y ≡ t = let e : EntryType (type_of x) (type_of y) ≡ EntryType k t = h.typed in cc in
    record {
      key = h.spelled.0;
      value = h.spelled.1;
      is = h.spelled.4;
      x = x;
      y = y;
      shape = refl;
      reads_key = record { spelled = h.spelled.2; typed = first; formed = h.formed.0 };
      reads_value = record { spelled = h.spelled.3; typed = second; formed = h.formed.1 };
    }
entry_read integers depth k t v j h = absurd (let e : type_of v ≡ EntryType k t = h.typed in cc)

-- ---- variants

pub variant_made : (integers : Integers) (depth less : ℕ) (t : TypeTree) (x : ValueTree) (inner : Json) (ms : Members) → depth ≡ suc less → IsSingleType t → IsTyped (sig t) inner ms → IsRead integers less t x inner → IsRead integers depth VariantType (VariantValue x) (json.object ms)
variant_made integers depth less t x inner ms deep single pair h = at_depth integers depth less _ _ _ deep (record {
  spelled = (ms, inner, refl, subst (λ u. IsTyped (sig u) inner ms) (sym h.typed) pair, h.spelled);
  typed = refl;
  formed = (subst IsSingleType (sym h.typed) single, h.formed);
})

pub record IsVariantRead (integers : Integers) (depth : ℕ) (v : ValueTree) (j : Json) : Type 0 where
  pub less : ℕ
  pub deep : depth ≡ suc less
  pub ms : Members
  pub is : j ≡ json.object ms
  pub t : TypeTree
  pub single : IsSingleType t
  pub value : Json
  pub pair : IsTyped (sig t) value ms
  pub x : ValueTree
  pub shape : v ≡ VariantValue x
  pub reads : IsRead integers less t x value

pub variant_read : (integers : Integers) (depth : ℕ) (v : ValueTree) (j : Json) → IsRead integers depth VariantType v j → IsVariantRead integers depth v j
variant_read integers zero (VariantValue x) j h = absurd h.formed
variant_read integers (suc less) (VariantValue x) j h = record {
  less = less;
  deep = refl;
  ms = h.spelled.0;
  is = h.spelled.2;
  t = type_of x;
  single = h.formed.0;
  value = h.spelled.1;
  pair = h.spelled.3;
  x = x;
  shape = refl;
  reads = record { spelled = h.spelled.4; typed = refl; formed = h.formed.1 };
}
variant_read integers depth v j h = absurd (let e : type_of v ≡ VariantType = h.typed in cc)

-- an object has one type and one value
member_parts : (k l : List ℕ) (i j : Json) (ms ns : Members) → member k i ms ≡ member l j ns → (k ≡ l) × (i ≡ j) × (ms ≡ ns)
member_parts k l i j ms ns e = (cc, cc, cc)

pub strings_same : (s t : List ℕ) → json.string s ≡ json.string t → s ≡ t
strings_same s t e = cc

pub not_one_name : codes "type" ≡ codes "value" → ⊥
not_one_name e = let lengths : length (codes "type") ≡ length (codes "value") = ap length e in omega (arith, lengths)

pub typed_same : (s t : List ℕ) (i j : Json) (ms : Members) → IsTyped s i ms → IsTyped t j ms → (s ≡ t) × (i ≡ j)
typed_same s t i j ms (inl a) (inl b) =
    let first = member_parts _ _ _ _ _ _ (sym a ∙ b) in
    let second = member_parts _ _ _ _ _ _ first.2 in
    (strings_same s t first.1, second.1)
typed_same s t i j ms (inr a) (inr b) =
    let first = member_parts _ _ _ _ _ _ (sym a ∙ b) in
    let second = member_parts _ _ _ _ _ _ first.2 in
    (strings_same s t second.1, first.1)
typed_same s t i j ms (inl a) (inr b) = absurd (not_one_name (member_parts _ _ _ _ _ _ (sym a ∙ b)).0)
typed_same s t i j ms (inr a) (inl b) = absurd (not_one_name (sym (member_parts _ _ _ _ _ _ (sym a ∙ b)).0))

pub arrays_same : (i j : Items) → json.array i ≡ json.array j → i ≡ j
arrays_same i j e = cc

pub objects_same : (i j : Members) → json.object i ≡ json.object j → i ≡ j
objects_same i j e = cc

pub pairs_same : (a b c d : Json) → json.array (item a (item b no_items)) ≡ json.array (item c (item d no_items)) → (a ≡ c) × (b ≡ d)
pairs_same a b c d e = (cc, cc)

one_item : (i j k : Json) → item i no_items ≡ item j (item k no_items) → ⊥
one_item i j k e = cc

three_items : (i j k m n : Json) (js : Items) → item i (item j (item k js)) ≡ item m (item n no_items) → ⊥
three_items i j k m n js e = cc

-- an array of two items
pub two_items : {A : Type 0} (l : List (Value A)) (a b : Json) → items_view l ≡ item a (item b no_items) → length l ≡ 2
two_items [] a b e = absurd (cc)
two_items (x ∷ []) a b e = absurd (one_item _ _ _ e)
two_items (x ∷ y ∷ []) a b e = refl
two_items (x ∷ y ∷ z ∷ l) a b e = absurd (three_items _ _ _ _ _ _ e)

pub view_pair : {A : Type 0} (l : List (Value A)) (x y : Value A) → length l ≡ 2 → x ≡ get_or l 0 x → y ≡ get_or l 1 y → items_view l ≡ item (value_view x) (item (value_view y) no_items)
view_pair [] x y two first second = absurd (omega (arith, two))
view_pair (a ∷ []) x y two first second = absurd (omega (arith, two))
view_pair (a ∷ b ∷ c ∷ l) x y two first second = absurd (omega (arith, two))
view_pair {A} (a ∷ b ∷ []) x y two first second =
    ap (λ (u : Value A). item (value_view u) (item (value_view b) no_items)) (sym first) ∙ ap (λ (u : Value A). item (value_view x) (item (value_view u) no_items)) (sym second)

pub one_type : (t u : TypeTree) → sig t ≡ sig u → t ≡ u
one_type t u e = (text_same t u [] [] (append-nil (sig t) ∙ e ∙ sym (append-nil (sig u)))).0

none_more : (k l m : List ℕ) (i j n : Json) → member k i no_members ≡ member l j (member m n no_members) → ⊥
none_more k l m i j n e = cc

three_more : (k l r m p : List ℕ) (i j w n o : Json) (more : Members) → member k i (member l j (member r w more)) ≡ member m n (member p o no_members) → ⊥
three_more k l r m p i j w n o more e = cc

same_two : (k l m n : List ℕ) (i j o p : Json) → k ≡ m → l ≡ n → i ≡ o → j ≡ p → member k i (member l j no_members) ≡ member m o (member n p no_members)
same_two k l m n i j o p e f g h = cc

view_two : {A : Type 0} (ms : List (Bor (List ℕ) × Value A)) (a b : Bor (List ℕ) × Value A) → length ms ≡ 2 → a ≡ get_or ms 0 a → b ≡ get_or ms 1 b →
    members_view ms ≡ member a.0.now (value_view a.1) (member b.0.now (value_view b.1) no_members)
view_two [] a b two first second = absurd (omega (arith, two))
view_two (x ∷ []) a b two first second = absurd (omega (arith, two))
view_two (x ∷ y ∷ z ∷ ms) a b two first second = absurd (omega (arith, two))
view_two {A} (x ∷ y ∷ []) a b two first second =
    ap (λ (m : Bor (List ℕ) × Value A). member m.0.now (value_view m.1) (member y.0.now (value_view y.1) no_members)) (sym first)
    ∙ ap (λ (m : Bor (List ℕ) × Value A). member a.0.now (value_view a.1) (member m.0.now (value_view m.1) no_members)) (sym second)

-- an object of two members has a type and a value
pub two_members : {A : Type 0} (ms : List (Bor (List ℕ) × Value A)) (s : List ℕ) (j : Json) → IsTyped s j (members_view ms) → length ms ≡ 2
two_members [] s j (inl e) = absurd (cc)
two_members [] s j (inr e) = absurd (cc)
two_members (a ∷ []) s j (inl e) = absurd (none_more _ _ _ _ _ _ e)
two_members (a ∷ []) s j (inr e) = absurd (none_more _ _ _ _ _ _ e)
two_members (a ∷ b ∷ []) s j h = refl
two_members (a ∷ b ∷ c ∷ ms) s j (inl e) = absurd (three_more _ _ _ _ _ _ _ _ _ _ _ e)
two_members (a ∷ b ∷ c ∷ ms) s j (inr e) = absurd (three_more _ _ _ _ _ _ _ _ _ _ _ e)

-- the two in their order, or turned
module _ {A : Type 0} (ms : List (Bor (List ℕ) × Value A)) (a b : Bor (List ℕ) × Value A) (two : length ms ≡ 2) (first : a ≡ get_or ms 0 a) (second : b ≡ get_or ms 1 b) (s : List ℕ) (j : Json) where
  pub in_order : a.0.now ≡ codes "type" → b.0.now ≡ codes "value" → value_view a.1 ≡ json.string s → j ≡ value_view b.1 → IsTyped s j (members_view ms)
  in_order k l i v = inl (view_two ms a b two first second ∙ same_two _ _ _ _ _ _ _ _ k l i (sym v))

  pub turned : a.0.now ≡ codes "value" → b.0.now ≡ codes "type" → value_view b.1 ≡ json.string s → j ≡ value_view a.1 → IsTyped s j (members_view ms)
  turned k l i v = inr (view_two ms a b two first second ∙ same_two _ _ _ _ _ _ _ _ k l (sym v) i)
