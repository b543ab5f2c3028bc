-- Why parts make no message: the cases, and which of them is the first that holds. D-Bus
-- Specification, "Message Format", "Header Fields" and "Invalid Protocol and Spec Extensions".
use Rattle.std.specs.Prelude.{◌≡◌, ℕ, ◌+◌, ◌^◌, ◌<◌, List, [], ◌∷◌, Option, Some, None, ◌⊎◌, true, false, ◌&&◌, if◌then◌else◌, Result, Ok, Err, ◌↔◌}
use Rattle.dbus_value_model.specs.declared.limits.Limits.{Limits}
use Rattle.dbus_value_model.specs.Verdicts.{HoldsNumbers, HoldNumbers}
use Rattle.dbus_value_model.specs.Values.{ValueTree, NumberValue, type_of, types_of}
use Rattle.dbus_message_model.specs.Messages.{FieldTree, MessageTree, Want, Anything, OfType, Name, Serial, want, is_known, has_code, lacks, required, text_in, body_signature, body_fds, KeepsIndexes, IsValidMessage}
use Rattle.dbus_texts.specs.Types.{UINT32, STRING, TypeTree, NumberType, TextType, sigs}
use Rattle.dbus_value_model.specs.declared.fault.Reason.TheVariants as reasons
use Rattle.dbus_value_model.specs.Checks.{IsTyped}
use Rattle.dbus_value_model.specs.FirstPast.{IsFirstPast}
use Rattle.dbus_value_model.specs.Forming.{IsNamed}
use Rattle.dbus_value_model.specs.ValueViews.{value_tree}
use Rattle.dbus_value_model.specs.declared.value.Value.{Value}
use Rattle.dbus_value_model.specs.WantedTexts.{WantedText, IsWanted, kind_of}
use Rattle.dbus_message_model.specs.KeptLimits.{IsShallow, KeepsArrays, IsLong, KeepsLimits}
use Rattle.dbus_message_model.specs.PackedParts.{PartsKeepBytes}
use Rattle.dbus_message_model.specs.PartsViews.{field_trees, parts_tree}
use Rattle.dbus_message_model.specs.MessageViews.{message_tree}
use Rattle.dbus_message_model.specs.declared.header_field.HeaderField.{HeaderField}
use Rattle.dbus_message_model.specs.declared.parts.Parts.{Parts}
use Rattle.dbus_message_model.specs.declared.message.Message.{Message}
use Rattle.dbus_value_model.specs.declared.verdict.Verdict.{Verdict}
use Rattle.dbus_value_model.specs.declared.verdict.Verdict.TheVariants.{TooDeep, Mixed, Misnamed, Sound}
use Rattle.dbus_value_model.specs.Specification.{specification}
use Rattle.dbus_build.specs.declared.build_fault.BuildFault.{BuildFault}
use Rattle.dbus_build.specs.declared.build_fault.BuildFault.TheVariants as faults
use Rattle.dbus_build.specs.declared.faulty_fields.Rule.{Rule}
use Rattle.dbus_build.specs.declared.faulty_fields.Rule.TheVariants as rules

-- The numbers that parts hold. D-Bus Specification, "Marshaling (Wire Format)", "Message Format".

-- a code is one byte, and a field's value holds numbers of their types
abbrev pub HoldFieldNumbers : List FieldTree → Type 0
HoldFieldNumbers [] = Unit {0}
HoldFieldNumbers (f ∷ fs) = ((f.code < 256) × HoldsNumbers f.value) × HoldFieldNumbers fs

-- every number is in the range of its type, as no parts break
pub record HoldTheirNumbers (m : MessageTree) : Type 0 where
  pub kind : m.kind < 256
  pub flags : m.flags < 256
  pub serial : m.serial < 256 ^ 4
  pub fields : HoldFieldNumbers m.fields
  pub body : HoldNumbers m.body

-- ---- the first of some items

-- r is the key of the first item without the property, or nothing where all have it; n is the
-- number of the first item
abbrev pub IsFirstWithout : {X : Type 0} → (X → Type 0) → (key : ℕ → X → ℕ) → ℕ → List X → Option ℕ → Type 0
IsFirstWithout P key n [] r = r ≡ None
IsFirstWithout P key n (x ∷ xs) r = ((P x → ⊥) × (r ≡ Some (key n x))) ⊎ (P x × IsFirstWithout P key (n + 1) xs r)

-- its key is the field's code
abbrev pub IsFirstField : {A : Type 0} → (HeaderField A → Type 0) → List (HeaderField A) → Option ℕ → Type 0
IsFirstField P fs r = IsFirstWithout P (λ n f. f.code) 0 fs r

-- the code of the first known field that stands after one of its code; before are those in front,
-- the last first, and none of them for all fields of a message
abbrev pub twice : List FieldTree → List FieldTree → Option ℕ
twice before [] = None
twice before (f ∷ fs) = if is_known f.code && has_code f.code before then Some f.code else twice (f ∷ before) fs

-- ---- fields

-- the type that is wanted, where one is
abbrev pub type_wanted : Want → Option TypeTree
type_wanted Anything = None
type_wanted (OfType t) = Some t
type_wanted (Name k) = Some (TextType STRING)
type_wanted Serial = Some (NumberType UINT32)

abbrev pub IsOfType : Option TypeTree → ValueTree → Type 0
IsOfType None v = Unit {0}
IsOfType (Some t) v = type_of v ≡ t

-- the texts that are wanted, where a text is
abbrev pub text_wanted : Want → Option WantedText
text_wanted (OfType (TextType k)) = Some (kind_of k)
text_wanted (Name k) = Some k
text_wanted _ = None

abbrev pub IsOf : Option WantedText → List ℕ → Type 0
IsOf None t = Unit {0}
IsOf (Some k) t = IsWanted k t

-- No REPLY_SERIAL is 0, a known field is of its own type, and its text is of its kind.
abbrev pub Suffices : Rule → Want → ValueTree → Type 0
Suffices rules.Nonzero w v = w ≡ Serial → v ≡ NumberValue UINT32 0 → ⊥
Suffices rules.OwnType w v = IsOfType (type_wanted w) v
Suffices rules.OwnKind w v = IsOf (text_wanted w) (text_in v)

abbrev pub Keeps : {A : Type 0} → Rule → HeaderField A → Type 0
Keeps rule f = Suffices rule (want f.code) (value_tree f.value)

-- ---- values

-- its types fit together and its texts are of their kinds
abbrev pub IsSound : {A : Type 0} → Value A → Type 0
IsSound v = IsTyped v × IsNamed (value_tree v)

-- an unknown field's value is sound
abbrev pub HoldsSound : {A : Type 0} → HeaderField A → Type 0
HoldsSound f = is_known f.code ≡ false → IsSound f.value

-- r is the number of the first value that is not sound, or nothing where all are
abbrev pub IsFirstUnsound : {A : Type 0} → List (Value A) → Option ℕ → Type 0
IsFirstUnsound vs r = IsFirstWithout IsSound (λ n v. n) 0 vs r

-- ---- values and fields, one and all

-- What is found of one: it opens more containers than may be open, it is not sound, or neither.
abbrev pub IsSoundness : Type 0 → Type 0 → Type 0 → Verdict → Type 0
IsSoundness shallow sound ranged TooDeep = shallow → ⊥
IsSoundness shallow sound ranged Mixed = shallow × (sound → ⊥)
IsSoundness shallow sound ranged Misnamed = shallow × (sound → ⊥)
IsSoundness shallow sound ranged Sound = shallow × sound × ranged

-- What is found of all: they open more containers than may be open, or the answer is which is the
-- first that is not sound.
abbrev pub IsFound : Type 0 → (Option ℕ → Type 0) → Type 0 → Result (Option ℕ) BuildFault → Type 0
IsFound shallow IsFirst ranged (Ok first) = shallow × IsFirst first × (first ≡ None → ranged)
IsFound shallow IsFirst ranged (Err fault) = (fault ≡ faults.TooDeep) × (shallow → ⊥)

-- a field of its own type holds a number of its type
abbrev pub HoldsTypedNumber : {A : Type 0} → HeaderField A → Type 0
HoldsTypedNumber f = (f.code < 256) × (Keeps rules.OwnType f → HoldsNumbers (value_tree f.value))

-- fields of their own types hold numbers of their types
abbrev pub HoldTypedNumbers : {A : Type 0} → List (HeaderField A) → Type 0
HoldTypedNumbers fs = (n : ℕ) → IsFirstWithout (Keeps rules.OwnType) (λ m f. f.code) n fs None → HoldFieldNumbers (field_trees fs)

-- ---- none of the cases holds, from the first up to one

-- That an array of bytes is not an `Array` is no matter of trees, so that the parts are spoken of.
abbrev pub KindPasses : {A : Type 0} → Parts A → Type 0
KindPasses p = p.kind ≡ 0 → ⊥

abbrev pub SerialsPass : {A : Type 0} → Parts A → Type 0
SerialsPass p = KindPasses p × (p.serial ≡ 0 → ⊥) × IsFirstField (Keeps rules.Nonzero) p.fields.items None

abbrev pub CodesPass : {A : Type 0} → Parts A → Type 0
CodesPass p = SerialsPass p × (has_code 0 (parts_tree p).fields ≡ false)

abbrev pub NoneIsTwice : {A : Type 0} → Parts A → Type 0
NoneIsTwice p = CodesPass p × (twice [] (parts_tree p).fields ≡ None)

abbrev pub TypesPass : {A : Type 0} → Parts A → Type 0
TypesPass p = NoneIsTwice p × IsFirstField (Keeps rules.OwnType) p.fields.items None

abbrev pub NoneIsMissing : {A : Type 0} → Parts A → Type 0
NoneIsMissing p = TypesPass p × (lacks (required p.kind) (parts_tree p).fields ≡ None)

abbrev pub DepthPasses : {A : Type 0} → Limits → Parts A → Type 0
DepthPasses limits p = NoneIsMissing p × IsShallow limits (parts_tree p)

abbrev pub NamesPass : {A : Type 0} → Limits → Parts A → Type 0
NamesPass limits p = DepthPasses limits p × IsFirstField (Keeps rules.OwnKind) p.fields.items None

abbrev pub FieldValuesPass : {A : Type 0} → Limits → Parts A → Type 0
FieldValuesPass limits p = NamesPass limits p × IsFirstField HoldsSound p.fields.items None

abbrev pub ValuesPass : {A : Type 0} → Limits → Parts A → Type 0
ValuesPass limits p = FieldValuesPass limits p × IsFirstUnsound p.body.items None

abbrev pub HasOwnSignature : MessageTree → Type 0
HasOwnSignature m = sigs (types_of m.body) ≡ body_signature m.fields

abbrev pub SignaturePasses : {A : Type 0} → Limits → Parts A → Type 0
SignaturePasses limits p = ValuesPass limits p × HasOwnSignature (parts_tree p)

abbrev pub ArraysPass : {A : Type 0} → Limits → Parts A → Type 0
ArraysPass limits p = SignaturePasses limits p × KeepsArrays limits (parts_tree p)

abbrev pub SizePasses : {A : Type 0} → Limits → Parts A → Type 0
SizePasses limits p = ArraysPass limits p × (IsLong limits (parts_tree p) → ⊥)

-- no case holds
abbrev pub NoFault : {A : Type 0} → Limits → Parts A → Type 0
NoFault limits p = SizePasses limits p × KeepsIndexes limits (parts_tree p)

-- The case holds, and none before it does. No memory is taken, so that Memory is never answered.
abbrev pub IsFirstFault : {A : Type 0} → Limits → Parts A → BuildFault → Type 0
IsFirstFault limits p faults.Memory = ⊥
IsFirstFault limits p faults.Kind = p.kind ≡ 0
IsFirstFault limits p faults.ZeroSerial = KindPasses p × ((p.serial ≡ 0) ⊎ ((c : ℕ) × IsFirstField (Keeps rules.Nonzero) p.fields.items (Some c)))
IsFirstFault limits p faults.FieldCode = SerialsPass p × (has_code 0 (parts_tree p).fields ≡ true)
IsFirstFault limits p (faults.FieldTwice c) = CodesPass p × (twice [] (parts_tree p).fields ≡ Some c)
IsFirstFault limits p (faults.FieldType c) = NoneIsTwice p × IsFirstField (Keeps rules.OwnType) p.fields.items (Some c)
IsFirstFault limits p (faults.FieldMissing c) = TypesPass p × (lacks (required p.kind) (parts_tree p).fields ≡ Some (reasons.FieldMissing c))
IsFirstFault limits p faults.TooDeep = NoneIsMissing p × (IsShallow limits (parts_tree p) → ⊥)
IsFirstFault limits p (faults.Name c) = DepthPasses limits p × IsFirstField (Keeps rules.OwnKind) p.fields.items (Some c)
IsFirstFault limits p (faults.FieldValue c) = NamesPass limits p × IsFirstField HoldsSound p.fields.items (Some c)
IsFirstFault limits p (faults.Value n) = FieldValuesPass limits p × IsFirstUnsound p.body.items (Some n)
IsFirstFault limits p faults.SignatureDiffers = ValuesPass limits p × (HasOwnSignature (parts_tree p) → ⊥)
IsFirstFault limits p faults.ArrayTooLong = SignaturePasses limits p × (KeepsArrays limits (parts_tree p) → ⊥)
IsFirstFault limits p faults.MessageTooLong = ArraysPass limits p × IsLong limits (parts_tree p)
IsFirstFault limits p (faults.FdIndex n) = let m = parts_tree p in SizePasses limits p × IsFirstPast (body_fds limits m.fields) 0 m.body (Some n)

-- ---- what is built

-- a message of these parts where no case holds, else the parts and the first case that does
abbrev pub IsBuilt : {A : Type 0} → Limits → Parts A → Result (Message A) (Parts A × BuildFault) → Type 0
IsBuilt limits p (Ok message) = (message_tree message ≡ parts_tree p) × NoFault limits p
IsBuilt limits p (Err refused) = (refused.0 ≡ p) × IsFirstFault limits p refused.1

-- where no case holds, nothing is refused but for want of memory
abbrev pub IsAccepted : {A : Type 0} → Limits → Parts A → Result (Message A) (Parts A × BuildFault) → Type 0
IsAccepted limits p (Ok message) = Unit {0}
IsAccepted limits p (Err refused) = NoFault limits p → refused.1 ≡ faults.Memory

-- where the parts are valid within the limits, and each array of bytes in them is `Bytes`, nothing
-- is refused but for want of memory
abbrev pub IsTaken : {A : Type 0} → Limits → Parts A → Result (Message A) (Parts A × BuildFault) → Type 0
IsTaken limits p (Ok message) = Unit {0}
IsTaken limits p (Err refused) = IsValidMessage limits (parts_tree p) → PartsKeepBytes p → refused.1 ≡ faults.Memory

-- The law of parts and limits: of which parts no case of fault holds.
-- D-Bus Specification, "Message Format".

-- Of the parts of a message, each array of bytes in which is `Bytes`, no case of fault holds
-- exactly where they keep the limits.
abbrev pub KeptParts : Type 0 → Type 0
KeptParts A = (limits : Limits) (p : Parts A) → IsValidMessage specification (parts_tree p) → PartsKeepBytes p → NoFault limits p ↔ KeepsLimits limits (parts_tree p)
