-- When a rule matches a message: each of its keys holds. D-Bus Specification, "Match Rules"; the
-- owners of well-known names are a list that the caller hands in.
use Rattle.std.specs.Prelude.{◌≡◌, ℕ, ◌⊎◌, Option, Some, None, List, [], ◌∷◌, ◌++◌, map, string_bytes, ◌↔◌}
use Rattle.std.specs.List.{AllByRecursion}
use Rattle.dbus_texts.specs.Characters.{slash, dot}
use Rattle.dbus_texts.specs.Types.{STRING, OBJECT_PATH}
use Rattle.dbus_value_model.specs.Values.{ValueTree, TextValue}
use Rattle.dbus_message_model.specs.Messages.{MessageTree}
use Rattle.dbus_message_model.specs.KnownFields.{field_value, body_value}
use Rattle.dbus_message_model.specs.MessageTypes.{type_name}
use Rattle.dbus_message_model.specs.declared.field_code.TheConstants as field
use Rattle.dbus_rule.specs.declared.key.Key.{Key}
use Rattle.dbus_rule.specs.declared.key.Key.TheVariants.{MessageType, Sender, Interface, Member, Path, PathNamespace, Destination, Arg, ArgPath, Arg0Namespace, Eavesdrop}
use Rattle.dbus_rule.specs.Rules.{Pair}
use Rattle.dbus_match.specs.declared.owner.Owner.{Owner}

-- a well-known name and the unique name of its owner
pub record Ownership : Type 0 where
  pub name : List ℕ
  pub unique : List ℕ

abbrev pub ownership : {A : Type 0} → Owner A → Ownership
ownership o = record { name = string_bytes o.name; unique = string_bytes o.unique }

abbrev pub ownerships : {A : Type 0} → List (Owner A) → List Ownership
ownerships os = map ownership os

-- ---- comparisons of texts

abbrev pub BeginsWith : List ℕ → List ℕ → Type 0
BeginsWith w v = (more : List ℕ) × (w ≡ v ++ more)

abbrev pub EndsInSlash : List ℕ → Type 0
EndsInSlash v = (front : List ℕ) × (v ≡ front ++ slash ∷ [])

-- equal, or one of the two ends in `/` and begins the other
abbrev pub PathsMeet : List ℕ → List ℕ → Type 0
PathsMeet v w = (v ≡ w) ⊎ ((EndsInSlash v × BeginsWith w v) ⊎ (EndsInSlash w × BeginsWith v w))

-- equal, or the value and the separator begin the text
abbrev pub IsWithin : ℕ → List ℕ → List ℕ → Type 0
IsWithin separator v w = (v ≡ w) ⊎ BeginsWith w (v ++ separator ∷ [])

-- as an object path's namespace: `/` has all paths in it
abbrev pub IsInNamespace : List ℕ → List ℕ → Type 0
IsInNamespace v w = (v ≡ slash ∷ []) ⊎ IsWithin slash v w

-- ---- the texts of a message

-- the text of a value
abbrev pub text_of : Option ValueTree → Option (List ℕ)
text_of (Some (TextValue k w)) = Some w
text_of v = None

-- of a STRING alone
abbrev pub string_of : Option ValueTree → Option (List ℕ)
string_of (Some (TextValue STRING w)) = Some w
string_of v = None

-- of a STRING or an OBJECT_PATH
abbrev pub string_or_path_of : Option ValueTree → Option (List ℕ)
string_or_path_of (Some (TextValue STRING w)) = Some w
string_or_path_of (Some (TextValue OBJECT_PATH w)) = Some w
string_or_path_of v = None

-- the text is there, and P holds of it
abbrev pub IsThere : Option (List ℕ) → (List ℕ → Type 0) → Type 0
IsThere None P = ⊥
IsThere (Some w) P = P w

-- of a header field
abbrev pub HasField : ℕ → MessageTree → (List ℕ → Type 0) → Type 0
HasField code m P = IsThere (text_of (field_value code m.fields)) P

-- some owner has the name v and the unique name w
abbrev pub IsOwned : List Ownership → List ℕ → List ℕ → Type 0
IsOwned [] v w = ⊥
IsOwned (o ∷ os) v w = ((o.name ≡ v) × (o.unique ≡ w)) ⊎ IsOwned os v w

-- ---- one key, and all of them

abbrev pub HoldsAt : Key → List ℕ → MessageTree → List Ownership → Type 0
HoldsAt MessageType v m os = type_name m.kind ≡ Some v
HoldsAt Sender v m os = HasField field.SENDER m (λ w. (v ≡ w) ⊎ IsOwned os v w)
HoldsAt Interface v m os = HasField field.INTERFACE m (λ w. v ≡ w)
HoldsAt Member v m os = HasField field.MEMBER m (λ w. v ≡ w)
HoldsAt Path v m os = HasField field.PATH m (λ w. v ≡ w)
HoldsAt PathNamespace v m os = HasField field.PATH m (λ w. IsInNamespace v w)
HoldsAt Destination v m os = HasField field.DESTINATION m (λ w. v ≡ w)
HoldsAt (Arg n) v m os = IsThere (string_of (body_value n m.body)) (λ w. v ≡ w)
HoldsAt (ArgPath n) v m os = IsThere (string_or_path_of (body_value n m.body)) (λ w. PathsMeet v w)
HoldsAt Arg0Namespace v m os = IsThere (string_of (body_value 0 m.body)) (λ w. IsWithin dot v w)
HoldsAt Eavesdrop v m os = Unit {0}

abbrev pub Matches : List Pair → MessageTree → List Ownership → Type 0
Matches ps m os = AllByRecursion (λ p. HoldsAt p.key p.value m os) ps

-- ---- the sender, and the other keys

-- a key holds if it is not `sender`: none but that asks for owners
abbrev pub OtherHolds : Key → List ℕ → MessageTree → Type 0
OtherHolds Sender v m = Unit {0}
OtherHolds k v m = HoldsAt k v m []

-- each key but `sender` holds
abbrev pub OthersHold : List Pair → MessageTree → Type 0
OthersHold ps m = AllByRecursion (λ p. OtherHolds p.key p.value m) ps

-- the message is of the sender that a rule asks for, if it asks for one
abbrev pub IsSent : Option (List ℕ) → MessageTree → List Ownership → Type 0
IsSent None m os = Unit {0}
IsSent (Some v) m os = HoldsAt Sender v m os

-- by both lists the unique name owns the same names
abbrev pub OwnsAlike : (unique : List ℕ) → List Ownership → List Ownership → Type 0
OwnsAlike unique os us = (name : List ℕ) → IsOwned os name unique ↔ IsOwned us name unique

-- The law of matching: of each message it is decided whether a rule matches it. D-Bus
-- Specification, "Match Rules".

-- a rule matches a message, or it does not
abbrev pub Decided : Type 0
Decided = (r : List Pair) (m : MessageTree) (os : List Ownership) → Matches r m os ⊎ (Matches r m os → ⊥)
