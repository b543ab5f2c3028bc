-- The keys of a rule: their names, their canonical order, and the values that they take. D-Bus
-- Specification, "Match Rules". By this project's own choice `destination` takes any bus name
-- (there: a unique name), and `arg0namespace` any text (there: like a bus name, with or without a
-- period).
use Rattle.std.specs.Prelude.{◌≡◌, ℕ, ◌+◌, ◌<◌, ◌/◌, ◌%◌, ◌⊎◌, List, [], ◌∷◌, ◌++◌, ltb, if◌then◌else◌, codes, Option, Some, None}
use Rattle.dbus_texts.specs.declared.text_kind.TextKind.TheVariants as kinds
use Rattle.dbus_texts.specs.Kinds.{IsKind}
use Rattle.dbus_rule.specs.declared.key.Key.{Key}
use Rattle.dbus_rule.specs.declared.key.Key.TheVariants.{MessageType, Sender, Interface, Member, Path, PathNamespace, Destination, Arg, ArgPath, Arg0Namespace, Eavesdrop}

-- the decimal digits of a number below 100, with no leading zero
abbrev pub digits : ℕ → List ℕ
digits n = if ltb n 10 then (48 + n) ∷ [] else (48 + n / 10) ∷ (48 + n % 10) ∷ []

abbrev pub key_text : Key → List ℕ
key_text MessageType = codes "type"
key_text Sender = codes "sender"
key_text Interface = codes "interface"
key_text Member = codes "member"
key_text Path = codes "path"
key_text PathNamespace = codes "path_namespace"
key_text Destination = codes "destination"
key_text (Arg n) = codes "arg" ++ digits n
key_text (ArgPath n) = codes "arg" ++ (digits n ++ codes "path")
key_text Arg0Namespace = codes "arg0namespace"
key_text Eavesdrop = codes "eavesdrop"

-- there are arguments 0 to 63
abbrev pub IsKey : Key → Type 0
IsKey MessageType = Unit {0}
IsKey Sender = Unit {0}
IsKey Interface = Unit {0}
IsKey Member = Unit {0}
IsKey Path = Unit {0}
IsKey PathNamespace = Unit {0}
IsKey Destination = Unit {0}
IsKey (Arg n) = n < 64
IsKey (ArgPath n) = n < 64
IsKey Arg0Namespace = Unit {0}
IsKey Eavesdrop = Unit {0}

-- the place of a key in the canonical order
abbrev pub rank : Key → ℕ
rank MessageType = 0
rank Sender = 1
rank Interface = 2
rank Member = 3
rank Path = 4
rank PathNamespace = 5
rank Destination = 6
rank (Arg n) = 7 + n
rank (ArgPath n) = 71 + n
rank Arg0Namespace = 135
rank Eavesdrop = 136

-- the names of the message types
abbrev pub IsTypeName : List ℕ → Type 0
IsTypeName v = (v ≡ codes "signal") ⊎ ((v ≡ codes "method_call") ⊎ ((v ≡ codes "method_return") ⊎ (v ≡ codes "error")))

abbrev pub IsBoolName : List ℕ → Type 0
IsBoolName v = (v ≡ codes "true") ⊎ (v ≡ codes "false")

-- the values that a key takes
abbrev pub IsValueOf : Key → List ℕ → Type 0
IsValueOf MessageType v = IsTypeName v
IsValueOf Sender v = IsKind kinds.BusName v
IsValueOf Interface v = IsKind kinds.Interface v
IsValueOf Member v = IsKind kinds.Member v
IsValueOf Path v = IsKind kinds.Path v
IsValueOf PathNamespace v = IsKind kinds.Path v
IsValueOf Destination v = IsKind kinds.BusName v
IsValueOf (Arg n) v = Unit {0}
IsValueOf (ArgPath n) v = Unit {0}
IsValueOf Arg0Namespace v = Unit {0}
IsValueOf Eavesdrop v = IsBoolName v

-- What the reading of a key's name answers.
-- D-Bus Specification, "Match Rules".

-- the key that a name is, or that it is none
abbrev pub IsNamed : List ℕ → Option Key → Type 0
IsNamed w None = (k : Key) → IsKey k → w ≡ key_text k → ⊥
IsNamed w (Some k) = IsKey k × (w ≡ key_text k)

-- the number of an argument, in digits without a leading zero
abbrev pub IsNumber : List ℕ → Option ℕ → Type 0
IsNumber w None = (n : ℕ) → n < 64 → w ≡ digits n → ⊥
IsNumber w (Some n) = (n < 64) × (w ≡ digits n)

-- the key of an argument that a name is, or that it is none
abbrev pub IsArgumentKey : List ℕ → Option Key → Type 0
IsArgumentKey w None = (n : ℕ) → n < 64 → (w ≡ key_text (Arg n) → ⊥) × (w ≡ key_text (ArgPath n) → ⊥)
IsArgumentKey w (Some k) = IsKey k × (w ≡ key_text k)
