-- Which dict entries have a key that names them.
use Rattle.std.proofs.Common.{◌≡◌, ◌<◌, ◌≤◌, ℕ, ◌+◌, List, [], ◌∷◌, true, take, drop, get_or, zero, suc, slice_index, refl, sym, ap, ◌∙◌, subst, arith}
use Rattle.std.specs.List.{list_all}
use Rattle.std.specs.Str.{IsAscii}
use Rattle.std.proofs.lemmas.Bool.{and_parts}
use Rattle.std.proofs.lemmas.Bool.Decides.{nat_tests}
use Rattle.dbus_texts.specs.Types.{TypeTree, STRING, OBJECT_PATH, SIGNATURE, NumberType, TextType, VariantType, ArrayType, StructType, EntryType, IsShaped, sig}
use Rattle.dbus_types.proofs.TypeCodes.{entry_is}
use Rattle.dbus_value_model.specs.Bytes.{gap_to}
use Rattle.dbus_explain.specs.Places.{Enters, IsIn, IsInText, IsKeyOf, IsStepTo, Pass, first_element, is_printable}
use Rattle.dbus_explain.specs.declared.path.PathStep.{PathStep}
use Rattle.dbus_explain.specs.declared.path.PathStep.TheVariants.{Number, Keyed, Key, Value, Variant}

-- the type of the key of an entry of these types
abbrev pub key_code : List ℕ → List ℕ
key_code types = take 1 (drop 1 types)

module _ (bytes : List ℕ) (at : ℕ) where
  -- what is known of a key, whose text is in a value of the key's type
  pub record HasKey (types : List ℕ) (q : ℕ) (key : List ℕ) : Type 0 where
    pub k : TypeTree
    pub code : sig k ≡ key_code types
    pub start : ℕ
    pub stated : ℕ
    pub text : IsInText bytes at k (q + gap_to 8 q) start stated
    pub whole : start + stated < at
    pub short : stated ≤ 64
    pub key_is : key ≡ take stated (drop start bytes)
    pub plain : list_all is_printable key ≡ true

  pub has_key : (t : TypeTree) (types : List ℕ) (q : ℕ) (key : List ℕ) → sig t ≡ types → IsKeyOf bytes at t q key → HasKey types q key
  has_key (EntryType (TextType c) v) types q key is h = record {
    k = TextType c;
    code = ap key_code is;
    start = h.0;
    stated = h.1;
    text = h.2;
    whole = h.3;
    short = h.4;
    key_is = h.5;
    plain = h.6;
  }
  has_key (EntryType (NumberType c) v) types q key is h = absurd h
  has_key (EntryType VariantType v) types q key is h = absurd h
  has_key (EntryType (ArrayType u) v) types q key is h = absurd h
  has_key (EntryType (StructType us) v) types q key is h = absurd h
  has_key (EntryType (EntryType a b) v) types q key is h = absurd h
  has_key (NumberType c) types q key is h = absurd h
  has_key (TextType c) types q key is h = absurd h
  has_key VariantType types q key is h = absurd h
  has_key (ArrayType u) types q key is h = absurd h
  has_key (StructType us) types q key is h = absurd h

  keyed : (k v : TypeTree) (types : List ℕ) (q start stated : ℕ) (key : List ℕ) → sig (EntryType k v) ≡ types → IsShaped true (EntryType k v)
      → ((u : TypeTree) → sig u ≡ key_code types → IsInText bytes at u (q + gap_to 8 q) start stated)
      → start + stated < at → stated ≤ 64 → key ≡ take stated (drop start bytes) → list_all is_printable key ≡ true → IsKeyOf bytes at (EntryType k v) q key
  keyed (TextType c) v types q start stated key is shaped text whole short key_is plain = (start, stated, text (TextType c) (ap key_code is), whole, short, key_is, plain)
  keyed (NumberType c) v types q start stated key is shaped text whole short key_is plain = absurd (text (NumberType c) (ap key_code is))
  keyed VariantType v types q start stated key is shaped text whole short key_is plain = absurd shaped.0
  keyed (ArrayType u) v types q start stated key is shaped text whole short key_is plain = absurd shaped.0
  keyed (StructType us) v types q start stated key is shaped text whole short key_is plain = absurd shaped.0
  keyed (EntryType a b) v types q start stated key is shaped text whole short key_is plain = absurd shaped.0

  pub is_key : (t : TypeTree) (types : List ℕ) (q start stated : ℕ) (key : List ℕ) → sig t ≡ types → IsShaped true t → get_or types 0 0 ≡ 123
      → ((u : TypeTree) → sig u ≡ key_code types → IsInText bytes at u (q + gap_to 8 q) start stated)
      → start + stated < at → stated ≤ 64 → key ≡ take stated (drop start bytes) → list_all is_printable key ≡ true → IsKeyOf bytes at t q key
  is_key t types q start stated key is shaped code text whole short key_is plain =
      let e = entry_is t types is code in
      subst (λ (x : TypeTree). IsKeyOf bytes at x q key) (sym e.2)
      (keyed e.0 e.1 types q start stated key (ap sig (sym e.2) ∙ is) (subst (λ (x : TypeTree). IsShaped true x) e.2 shaped) text whole short key_is plain)

  -- one text is at a place
  pub text_one : (k : TypeTree) (p a b c d : ℕ) → IsInText bytes at k p a b → IsInText bytes at k p c d → (a ≡ c) × (b ≡ d)
  text_one (TextType SIGNATURE) p a b c d g h = (g.0 ∙ sym h.0, g.2 ∙ sym h.2)
  text_one (TextType STRING) p a b c d g h = (g.0 ∙ sym h.0, g.2 ∙ sym h.2)
  text_one (TextType OBJECT_PATH) p a b c d g h = (g.0 ∙ sym h.0, g.2 ∙ sym h.2)
  text_one (NumberType c') p a b c d g h = absurd g
  text_one VariantType p a b c d g h = absurd g
  text_one (ArrayType u) p a b c d g h = absurd g
  text_one (StructType us) p a b c d g h = absurd g
  text_one (EntryType x y) p a b c d g h = absurd g

  -- an element is entered by its key or its number
  pub entered_by : (t : TypeTree) (p q number : ℕ) (step : PathStep) → first_element t p ≤ at → Pass bytes at t number (first_element t p) q → IsIn bytes at t q → IsStepTo bytes at t q number step
      → Enters bytes at (ArrayType t) p step t q
  entered_by t p q number (Number n) begun pass is_in h = (begun, refl, subst (λ (m : ℕ). Pass bytes at t m (first_element t p) q) (sym h.0) pass, is_in, h.1)
  entered_by t p q number (Keyed key) begun pass is_in h = (begun, refl, number, pass, is_in, h)
  entered_by t p q number Key begun pass is_in h = absurd h
  entered_by t p q number Value begun pass is_in h = absurd h
  entered_by t p q number Variant begun pass is_in h = absurd h

-- printable characters are ASCII
low : (b : ℕ) → is_printable b ≡ true → b < 128
low b h = grind (arith, nat_tests)

each : (b : ℕ) (bs : List ℕ) → b < 128 → IsAscii bs → (i : ℕ) → slice_index (b ∷ bs) i < 128
each b bs h more zero = h
each b bs h more (suc i) = more i

pub printable_ascii : (bs : List ℕ) → list_all is_printable bs ≡ true → IsAscii bs
printable_ascii [] h = λ i. omega arith
printable_ascii (b ∷ bs) h = let parts = and_parts (is_printable b) (list_all is_printable bs) h in each b bs (low b parts.0) (printable_ascii bs parts.1)
