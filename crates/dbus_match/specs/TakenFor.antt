-- What a message may be taken for by the bus and by those who get it, and the rules that may match
-- it: those that match something that it may be taken for. D-Bus Specification, "Message Types",
-- "Header Fields" and "Message Bus Message Routing". Which connection owns which names is a list
-- that the caller hands in.
use Rattle.std.specs.Prelude.{◌≡◌, ℕ, ◌⊎◌, Option, Some, None, List, [], ◌∷◌, codes, ◌==◌, if◌then◌else◌, IfSome}
use Rattle.std.specs.List.{AllByRecursion}
use Rattle.dbus_texts.specs.Types.{STRING}
use Rattle.dbus_texts.specs.Kinds.{IsKind}
use Rattle.dbus_texts.specs.declared.text_kind.TextKind.TheVariants as kinds
use Rattle.dbus_value_model.specs.Values.{TextValue}
use Rattle.dbus_message_model.specs.Messages.{FieldTree, MessageTree}
use Rattle.dbus_message_model.specs.MessageViews.{message_tree}
use Rattle.dbus_message_model.specs.KnownFields.{field_value}
use Rattle.dbus_message_model.specs.declared.field_code.TheConstants as field
use Rattle.dbus_message_model.specs.declared.message_type.TheConstants as message
use Rattle.dbus_value_model.specs.declared.order.Order.{Order}
use Rattle.dbus_view.specs.Views.{Views}
use Rattle.dbus_rule.specs.declared.key.Key.{Key}
use Rattle.dbus_rule.specs.declared.key.Key.TheVariants.{Sender, Interface, Destination}
use Rattle.dbus_rule.specs.Rules.{Pair}
use Rattle.dbus_match.specs.Arguments.{AreNoted}
use Rattle.dbus_match.specs.Matching.{Ownership, IsOwned, IsThere, Matches, OtherHolds, text_of}
use Rattle.dbus_match.specs.declared.subject.Subject.{Subject}
use Rattle.dbus_match.specs.declared.subject.Subject.TheVariants as subject

-- ---- names of one connection

-- v is the unique name u, or a name that u owns
abbrev pub Names : List Ownership → (v u : List ℕ) → Type 0
Names os v u = (v ≡ u) ⊎ IsOwned os v u

-- v and w are names of one connection
abbrev pub AreOne : List Ownership → (v w : List ℕ) → Type 0
AreOne os v w = (u : List ℕ) × Names os v u × Names os w u

-- ---- what the three fields may be

-- the text of a header field
abbrev pub text_at : ℕ → MessageTree → Option (List ℕ)
text_at code m = text_of (field_value code m.fields)

-- a call without INTERFACE: who gets it goes by the member
abbrev pub IsAnyInterface : MessageTree → Type 0
IsAnyInterface m = (m.kind ≡ message.METHOD_CALL) × (text_at field.INTERFACE m ≡ None)

abbrev pub MayBeOf : List ℕ → MessageTree → Type 0
MayBeOf interface m = IsThere (text_at field.INTERFACE m) (λ w. interface ≡ w) ⊎ IsAnyInterface m

-- whom a message is for: a call without DESTINATION is for the bus itself
abbrev pub for_whom : (kind : ℕ) → Option (List ℕ) → Option (List ℕ)
for_whom kind (Some name) = Some name
for_whom kind None = if kind == message.METHOD_CALL then Some (codes "org.freedesktop.DBus") else None

abbrev pub MayBeFor : List Ownership → List ℕ → MessageTree → Type 0
MayBeFor os name m = IsThere (for_whom m.kind (text_at field.DESTINATION m)) (λ w. AreOne os name w)

-- the bus writes the sender's unique name in place of any SENDER; if that is not known, it may be
-- any bus name
abbrev pub IsSentBy : Option (List ℕ) → List ℕ → Type 0
IsSentBy None name = IsKind kinds.BusName name
IsSentBy (Some known) name = name ≡ known

-- ---- what a message may be taken for

abbrev pub without : ℕ → List FieldTree → List FieldTree
without code [] = []
without code (f ∷ fs) = if f.code == code then without code fs else f ∷ without code fs

-- the fields with this text in that of the code; or as they are
abbrev pub with_text : ℕ → Option (List ℕ) → List FieldTree → List FieldTree
with_text code None fs = fs
with_text code (Some w) fs = record { code = code; value = TextValue STRING w } ∷ without code fs

-- the same message, but for INTERFACE and DESTINATION, if they are given, and for SENDER
abbrev pub taken_as : (interface destination : Option (List ℕ)) (sender : List ℕ) → MessageTree → MessageTree
taken_as interface destination sender m = record {
  kind = m.kind;
  flags = m.flags;
  serial = m.serial;
  fields = with_text field.SENDER (Some sender) (with_text field.DESTINATION destination (with_text field.INTERFACE interface m.fields));
  body = m.body;
}

-- the message m may be taken for n
pub record MayBeTakenFor (known : Option (List ℕ)) (os : List Ownership) (m n : MessageTree) : Type 0 where
  pub interface : Option (List ℕ)
  pub destination : Option (List ℕ)
  pub sender : List ℕ
  pub same : n ≡ taken_as interface destination sender m
  pub of : IfSome interface (λ v. IsKind kinds.Interface v × MayBeOf v m)
  pub to : IfSome destination (λ v. IsKind kinds.BusName v × MayBeFor os v m)
  pub from : IsSentBy known sender

-- the rule matches a message that this one may be taken for
abbrev pub MayMatch : List Pair → MessageTree → (known : Option (List ℕ)) → List Ownership → Type 0
MayMatch ps m known os = (n : MessageTree) × MayBeTakenFor known os m n × Matches ps n os

-- ---- the laws

-- a rule that matches a message may match it, if its SENDER is the one that the bus writes
abbrev pub MatchingMay : Type 0
MatchingMay =
    (ps : List Pair) (m : MessageTree) (known : Option (List ℕ)) (os : List Ownership)
    → IfSome (text_at field.SENDER m) (λ name. IsSentBy known name) → Matches ps m os → MayMatch ps m known os

-- what may match may match if more owners are known
abbrev pub MoreMay : Type 0
MoreMay =
    (ps : List Pair) (m : MessageTree) (known : Option (List ℕ)) (os us : List Ownership)
    → ((v u : List ℕ) → IsOwned os v u → IsOwned us v u) → MayMatch ps m known os → MayMatch ps m known us

-- ---- key by key. No public clause speaks of it

abbrev pub MayBeSent : List ℕ → Option (List ℕ) → List Ownership → Type 0
MayBeSent name None os = Unit {0}
MayBeSent name (Some known) os = Names os name known

abbrev pub MayHold : Key → List ℕ → MessageTree → (known : Option (List ℕ)) → List Ownership → Type 0
MayHold Sender v m known os = MayBeSent v known os
MayHold Interface v m known os = MayBeOf v m
MayHold Destination v m known os = MayBeFor os v m
MayHold k v m known os = OtherHolds k v m

abbrev pub EachMayHold : List Pair → MessageTree → (known : Option (List ℕ)) → List Ownership → Type 0
EachMayHold ps m known os = AllByRecursion (λ p. MayHold p.key p.value m known os) ps

-- some of the owners us has the name v, and w is one of its names
abbrev pub Shares : (os us : List Ownership) → (v w : List ℕ) → Type 0
Shares os [] v w = ⊥
Shares os (o ∷ us) v w = ((o.name ≡ v) × Names os w o.unique) ⊎ Shares os us v w

-- the message that rules are asked of
abbrev pub IsOf : {A : Type 0} → Subject A → MessageTree → Type 0
IsOf (subject.Decoded decoded) m = message_tree decoded.now ≡ m
IsOf (subject.Seen view noted) m = (order : Order) × Views view.now order m

-- what is noted of it are the first values of its body
abbrev pub IsNoted : {A : Type 0} → Subject A → Type 0
IsNoted (subject.Decoded decoded) = Unit {0}
IsNoted (subject.Seen view noted) = AreNoted view.now noted.now
