-- In which value of a message a place is, by the values before it.
-- D-Bus Specification, "Marshaling (Wire Format)", "Header Fields".
use Rattle.std.specs.Prelude.{◌≡◌, ℕ, ⊤, zero, suc, ◌+◌, ◌<◌, ◌≤◌, List, [], ◌∷◌, length, nat_eq, if◌then◌else◌, slice_index, take, drop, true, Bool}
use Rattle.std.specs.Int.{is_in_range}
use Rattle.std.specs.List.{list_all}
use Rattle.dbus_texts.specs.Types.{TypeTree, TypeTrees, BYTE, SIGNATURE, NumberType, TextType, VariantType, ArrayType, StructType, EntryType, NoTypes, MoreTypes}
use Rattle.dbus_texts.specs.Types.{sig, sigs, IsShaped}
use Rattle.dbus_texts.specs.declared.text_kind.TextKind.{TextKind}
use Rattle.dbus_texts.specs.declared.text_kind.TextKind.TheVariants.{Signature, Single}
use Rattle.dbus_types.specs.Alignments.{alignment_of}
use Rattle.dbus_value_model.specs.Bytes.{gap_to}
use Rattle.dbus_value_model.specs.Reading.{number_of, Done, number}
use Rattle.dbus_value_model.specs.ValueItems.{text_row}
use Rattle.dbus_value_model.specs.Specification.{specification}
use Rattle.dbus_value_model.specs.Bounds.{bounds_of}
use Rattle.dbus_value_model.specs.declared.limits.TheConstants.{DEPTH_LIMIT}
use Rattle.dbus_value_model.specs.declared.order.Order.{Order}
use Rattle.dbus_value_model.specs.declared.order.Order.TheVariants.{Little, Big}
use Rattle.dbus_value_validator.specs.Endings.{EndedText, IsNotSpelled, IsSpelledTo}
use Rattle.dbus_explain.specs.declared.path.PathStep.{PathStep}
use Rattle.dbus_explain.specs.declared.path.PathStep.TheVariants.{Number, Keyed, Key, Value, Variant}
use Rattle.dbus_explain.specs.declared.search.ValuePlace.{ValuePlace}

-- a printable character of ASCII
abbrev pub is_printable : ℕ → Bool
is_printable b = is_in_range 32 126 b

-- the order of the bytes, of which the first is l or B, 66
abbrev pub order_of : List ℕ → Order
order_of [] = Little
order_of (b ∷ bytes) = if nat_eq b 66 then Big else Little

-- where the header fields end, by the length that is stated of them
abbrev pub fields_end : List ℕ → ℕ
fields_end bytes = 16 + number_of (order_of bytes) (take 4 (drop 12 bytes))

abbrev pub body_begin : List ℕ → ℕ
body_begin bytes = fields_end bytes + gap_to 8 (fields_end bytes)

-- the type of a header field
abbrev pub field_type : TypeTree
field_type = StructType (MoreTypes (NumberType BYTE) (MoreTypes VariantType NoTypes))

-- where the first element of an array is, whose length is at p, after its padding
abbrev pub first_element : TypeTree → (p : ℕ) → ℕ
first_element t p = p + gap_to 4 p + 4 + gap_to (alignment_of t) (p + gap_to 4 p + 4)

module _ (bytes : List ℕ) (at : ℕ) where
  -- a value of the type is spelled from p up to q, and ends at the place or before it
  abbrev pub Passes : TypeTree → (p q : ℕ) → Type 0
  Passes t p q = IsSpelledTo (bounds_of specification) (order_of bytes) DEPTH_LIMIT at t p bytes q

  -- no such value is: the place is in what is at p
  abbrev pub IsIn : TypeTree → (p : ℕ) → Type 0
  IsIn t p = IsNotSpelled (bounds_of specification) (order_of bytes) DEPTH_LIMIT at t p bytes

  -- n values of the type, one after the other
  abbrev pub Pass : TypeTree → (n p q : ℕ) → Type 0
  Pass t zero p q = q ≡ p
  Pass t (suc n) p q = (r : ℕ) × Pass t n p r × Passes t r q

  -- n values of these types, one after the other from p on, and q is where the others would be, of
  -- these types
  abbrev pub PassEach : (n : ℕ) → TypeTrees → (p : ℕ) → (others : TypeTrees) → (q : ℕ) → Type 0
  PassEach zero ts p us q = (us ≡ ts) × (q ≡ p)
  PassEach (suc n) NoTypes p us q = ⊥
  PassEach (suc n) (MoreTypes t ts) p us q = (r : ℕ) × Passes t p r × PassEach n ts r us q

  -- the place is in the first value of these types at p, if there is one
  abbrev pub IsInFirst : TypeTrees → (p : ℕ) → Type 0
  IsInFirst NoTypes p = ⊤
  IsInFirst (MoreTypes t ts) p = IsIn t p

  -- of values of these types, which begin at p, those before number n end there, and the place is
  -- in that one, which is of type u and at q
  abbrev pub IsAmong : TypeTrees → (p n : ℕ) → (u : TypeTree) → (q : ℕ) → Type 0
  IsAmong NoTypes p n u q = ⊥
  IsAmong (MoreTypes t ts) p zero u q = (u ≡ t) × (q ≡ p) × IsIn t p
  IsAmong (MoreTypes t ts) p (suc n) u q = (r : ℕ) × Passes t p r × IsAmong ts r n u q

  -- it is in none of them
  abbrev pub IsAmongNone : TypeTrees → (p : ℕ) → Type 0
  IsAmongNone ts p = (n : ℕ) (u : TypeTree) (q : ℕ) → IsAmong ts p n u q → ⊥

  -- the text w of a type or of several is at p, after its length, and ends at q
  pub record IsTyped (kind : TextKind) (p : ℕ) (w : List ℕ) (q : ℕ) : Type 0 where
    pub measured : (order : Order) → number order 1 at (text_row at) p (drop p bytes) ≡ Done (length w) (p + 1) (drop (p + 1) bytes)
    pub ended : EndedText kind (length w) (p + 1) bytes
    pub text_is : w ≡ take (length w) (drop (p + 1) bytes)
    pub after : q ≡ p + 1 + length w + 1

  -- the place is in a text of the type at p, behind its length, which says that the text has this
  -- many bytes, from start on
  abbrev pub IsInText : TypeTree → (p : ℕ) → (start stated : ℕ) → Type 0
  IsInText (TextType SIGNATURE) p start stated = (start ≡ p + 1) × (start ≤ at) × (stated ≡ slice_index bytes p)
  IsInText (TextType k) p start stated = (start ≡ p + gap_to 4 p + 4) × (start ≤ at) × (stated ≡ number_of (order_of bytes) (take 4 (drop (p + gap_to 4 p) bytes)))
  IsInText t p start stated = ⊥

  -- the dict entry at q has this key: a text of 64 bytes at most, all printable ASCII, that is whole
  -- before the place
  abbrev pub IsKeyOf : TypeTree → (q : ℕ) → (key : List ℕ) → Type 0
  IsKeyOf (EntryType (TextType k) v) q key = (start : ℕ) × (stated : ℕ) × IsInText (TextType k) (q + gap_to 8 q) start stated
      × (start + stated < at) × (stated ≤ 64) × (key ≡ take stated (drop start bytes)) × (list_all is_printable key ≡ true)
  IsKeyOf t q key = ⊥

  -- the place is in a value of type t at p, and in it in the value of type u at q, to which the
  -- step leads
  abbrev pub Enters : TypeTree → (p : ℕ) → PathStep → (u : TypeTree) → (q : ℕ) → Type 0
  Enters (ArrayType t) p (Number n) u q = (first_element t p ≤ at) × (u ≡ t) × Pass t n (first_element t p) q × IsIn t q × ((key : List ℕ) → IsKeyOf t q key → ⊥)
  Enters (ArrayType t) p (Keyed key) u q = (first_element t p ≤ at) × (u ≡ t) × (n : ℕ) × Pass t n (first_element t p) q × IsIn t q × IsKeyOf t q key.now
  Enters (StructType ts) p (Number n) u q = (p + gap_to 8 p ≤ at) × IsAmong ts (p + gap_to 8 p) n u q
  Enters (EntryType k v) p Key u q = (p + gap_to 8 p ≤ at) × IsAmong (MoreTypes k (MoreTypes v NoTypes)) (p + gap_to 8 p) 0 u q
  Enters (EntryType k v) p Value u q = (p + gap_to 8 p ≤ at) × IsAmong (MoreTypes k (MoreTypes v NoTypes)) (p + gap_to 8 p) 1 u q
  Enters VariantType p Variant u q = (q ≤ at) × IsTyped Single p (sig u) q
  Enters t p step u q = ⊥

  -- it is in no value in that one
  abbrev pub EntersNone : TypeTree → (p : ℕ) → Type 0
  EntersNone t p = (step : PathStep) (u : TypeTree) (q : ℕ) → Enters t p step u q → ⊥

  -- the steps from a value to one in it, of type u at q, that the place is in
  abbrev pub IsPath : TypeTree → (p : ℕ) → List PathStep → (u : TypeTree) → (q : ℕ) → Type 0
  IsPath t p [] u q = (u ≡ t) × (q ≡ p)
  IsPath t p (step ∷ steps) u q = (v : TypeTree) × (r : ℕ) × Enters t p step v r × IsPath v r steps u q

  -- the steps go as far as they can, but there are 128 at most: 64 containers, and a dict entry in
  -- each
  pub record IsWholePath (t : TypeTree) (p : ℕ) (steps : List PathStep) (u : TypeTree) (q : ℕ) : Type 0 where
    pub path : IsPath t p steps u q
    pub few : length steps ≤ 128
    pub ends : length steps < 128 → EntersNone u q

  -- the place is in the header field at p, of this code, which is its first byte, after the padding,
  -- and comes at the place or before it
  pub record IsInField (p code : ℕ) : Type 0 where
    pub n : ℕ
    pub before : Pass field_type n 16 p
    pub is_in : IsIn field_type p
    pub reached : p + gap_to 8 p ≤ at
    pub read : p + gap_to 8 p < length bytes
    pub code_is : code ≡ slice_index bytes (p + gap_to 8 p)

  -- it is in the text that the value of that field is, behind its length: the value is a variant,
  -- whose signature follows the code
  abbrev pub IsInFieldText : (p : ℕ) → (start stated : ℕ) → Type 0
  IsInFieldText p start stated = (u : TypeTree) × (q : ℕ) × IsTyped Single (p + gap_to 8 p + 1) (sig u) q × IsInText u q start stated

  -- a header field at p is a SIGNATURE field, by its code, 8, and its value, a variant of a
  -- signature, is the text w
  pub record IsSignatureField (p : ℕ) (w : List ℕ) : Type 0 where
    pub code_is : slice_index bytes (p + gap_to 8 p) ≡ 8
    pub variant : List ℕ
    pub q : ℕ
    pub typed : IsTyped Signature (p + gap_to 8 p + 1) variant q
    pub r : ℕ
    pub value : IsTyped Signature q w r
    pub within : r ≤ at

  -- the first such header field says that the values of the body have these types
  pub record AreBodyTypes (ts : TypeTrees) : Type 0 where
    pub n : ℕ
    pub p : ℕ
    pub before : Pass field_type n 16 p
    pub signature : IsSignatureField p (sigs ts)
    pub first : (m q : ℕ) (w : List ℕ) → m < n → Pass field_type m 16 q → IsSignatureField q w → ⊥

-- the step to an element of type t at q: by its key, if it has one, else by its number
abbrev pub IsStepTo : (bytes : List ℕ) (at : ℕ) → TypeTree → (q number : ℕ) → PathStep → Type 0
IsStepTo bytes at t q number (Number n) = (n ≡ number) × ((key : List ℕ) → IsKeyOf bytes at t q key → ⊥)
IsStepTo bytes at t q number (Keyed key) = IsKeyOf bytes at t q key.now
IsStepTo bytes at t q number step = ⊥

-- Where a search goes in a value.

-- from a value of the type at p to the value in it that the place is in
abbrev pub Leads : (bytes : List ℕ) (at : ℕ) → TypeTree → (p : ℕ) → PathStep → ValuePlace → Type 0
Leads bytes at t p step spot = (u : TypeTree) × (sig u ≡ spot.types.now) × IsShaped true u × Enters bytes at t p step u spot.place
