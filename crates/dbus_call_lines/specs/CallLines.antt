-- A call and what came of it, as a line: in words, or as an object of JSON. D-Bus Specification,
-- "Header Fields"; RFC 8259.
use Rattle.std.specs.Prelude.{◌≡◌, ℕ, List, [], ◌∷◌, ◌++◌, Option, None, Some, codes, decimal}
use Rattle.std.specs.Int.{IsInRange}
use Rattle.std.specs.List.{AllByRecursion, flat_map}
use Rattle.dbus_message_model.specs.Messages.{MessageTree}
use Rattle.dbus_message_model.specs.declared.field_code.TheConstants as field
use Rattle.dbus_json.specs.JsonValues.{listed, member, object, plain, string}
use Rattle.dbus_json.specs.Times.{time_members}
use Rattle.dbus_calls.specs.Events.{destination_of, sender_of, text_at}
use Rattle.dbus_call_lines.specs.Durations.{exact_text, milliseconds_text, time_between}
use Rattle.dbus_call_lines.specs.Names.{Known}
use Rattle.dbus_call_lines.specs.Outcomes.{Outcome, or_dash}
use Rattle.dbus_call_lines.specs.Outcomes.Outcome.{Reply, Error, Unwanted, Open, Left, Replaced}
use Rattle.dbus_call_lines.specs.declared.elapsed.Elapsed.{Elapsed}
use Rattle.dbus_call_lines.specs.declared.form.Form.{Form}
use Rattle.dbus_call_lines.specs.declared.form.Form.TheVariants.{Text, Json}
use Rattle.dbus_call_lines.specs.declared.place.Place.{Place}

-- ---- in words

-- a member, behind its interface if it has one
abbrev pub member_text : (interface name : Option (List ℕ)) → List ℕ
member_text None name = or_dash name
member_text (Some interface) name = interface ++ (codes "." ++ or_dash name)

-- the member that a call names
abbrev pub called : MessageTree → List ℕ
called call = member_text (text_at field.INTERFACE call) (text_at field.MEMBER call)

-- a connection, and behind it in brackets the name by which it is known, if it is
abbrev pub connection_text : (name known : Option (List ℕ)) → List ℕ
connection_text name None = or_dash name
connection_text name (Some known) = or_dash name ++ (codes "(" ++ (known ++ codes ")"))

-- the call: its number, who sent it to whom, and its member
abbrev pub call_text : (number : ℕ) → Known → MessageTree → List ℕ
call_text number names call =
    decimal number ++ (codes " " ++ (connection_text (sender_of call) names.sender ++ (codes " > " ++ (connection_text (destination_of call) names.destination
    ++ (codes " " ++ called call)))))

-- how long it took, if that is known
abbrev pub took_text : Option Elapsed → List ℕ
took_text None = []
took_text (Some e) = codes " " ++ (milliseconds_text e ++ codes " ms")

-- what came of it. sent is when it was captured
abbrev pub outcome_text : (sent : Option ℕ) → Outcome → List ℕ
outcome_text sent (Reply at) = codes "reply #" ++ (decimal at.number ++ took_text (time_between sent at.time))
outcome_text sent (Error at name) = codes "error #" ++ (decimal at.number ++ (took_text (time_between sent at.time) ++ (codes " " ++ name)))
outcome_text sent Unwanted = codes "no reply wanted"
outcome_text sent Open = codes "no reply"
outcome_text sent Left = codes "no reply: the caller left"
outcome_text sent Replaced = codes "no reply: its serial was used again"

-- ---- as an object of JSON

-- the member of a text that is there
abbrev pub member_if : (name : List ℕ) → Option (List ℕ) → List (List ℕ)
member_if name None = []
member_if name (Some text) = member name (string text) ∷ []

-- a connection, and the name by which it is known
abbrev pub connection_members : (name : List ℕ) (text : Option (List ℕ)) (known_name : List ℕ) (known : Option (List ℕ)) → List (List ℕ)
connection_members name text known_name known = member_if name text ++ member_if known_name known

-- the call: what it has of these
abbrev pub call_members : Place → Known → MessageTree → List (List ℕ)
call_members place names call =
    member (codes "number") (decimal place.number)
    ∷ (time_members place.time
    ++ (member (codes "serial") (decimal call.serial)
    ∷ (connection_members (codes "sender") (sender_of call) (codes "sender_name") names.sender
    ++ (connection_members (codes "destination") (destination_of call) (codes "destination_name") names.destination
    ++ (member_if (codes "path") (text_at field.PATH call)
    ++ (member_if (codes "interface") (text_at field.INTERFACE call)
    ++ member_if (codes "member") (text_at field.MEMBER call)))))))

-- what came of it
abbrev pub outcome_word : Outcome → List ℕ
outcome_word (Reply at) = codes "reply"
outcome_word (Error at name) = codes "error"
outcome_word Unwanted = codes "unwanted"
outcome_word Open = codes "open"
outcome_word Left = codes "left"
outcome_word Replaced = codes "replaced"

-- how long it took, if that is known
abbrev pub took_members : Option Elapsed → List (List ℕ)
took_members None = []
took_members (Some e) = member (codes "milliseconds") (exact_text e) ∷ []

-- the reply, if there is one
abbrev pub reply_members : (sent : Option ℕ) → Outcome → List (List ℕ)
reply_members sent (Reply at) = member (codes "reply") (decimal at.number) ∷ took_members (time_between sent at.time)
reply_members sent (Error at name) = member (codes "reply") (decimal at.number) ∷ member (codes "error_name") (string name) ∷ took_members (time_between sent at.time)
reply_members sent outcome = []

abbrev pub outcome_members : (sent : Option ℕ) → Outcome → List (List ℕ)
outcome_members sent outcome = member (codes "outcome") (plain (outcome_word outcome)) ∷ reply_members sent outcome

-- ---- the line

-- members that follow others, each behind a comma
abbrev pub behind_commas : List (List ℕ) → List ℕ
behind_commas members = flat_map (λ m. codes "," ++ m) members

abbrev pub line : Form → Place → Known → MessageTree → Outcome → List ℕ
line Text place names call outcome = call_text place.number names call ++ (codes " " ++ (outcome_text place.time outcome ++ codes "\n"))
line Json place names call outcome = object (call_members place names call ++ outcome_members place.time outcome) ++ codes "\n"

-- its front, which says nothing of what came of the call, and its end, which says that alone
abbrev pub front : Form → Place → Known → MessageTree → List ℕ
front Text place names call = call_text place.number names call
front Json place names call = codes "{" ++ listed (call_members place names call)

abbrev pub end : Form → (sent : Option ℕ) → Outcome → List ℕ
end Text sent outcome = codes " " ++ (outcome_text sent outcome ++ codes "\n")
end Json sent outcome = behind_commas (outcome_members sent outcome) ++ codes "}\n"

-- What holds of lines.

-- a line is its front and its end
abbrev pub HasTwoParts : Type 0
HasTwoParts = (form : Form) (place : Place) (names : Known) (call : MessageTree) (outcome : Outcome) → front form place names call ++ end form place.time outcome ≡ line form place names call outcome

-- What a terminal gets.

-- characters of ASCII that are printed, the space among them: a terminal obeys none of them
abbrev pub ArePrinted : List ℕ → Type 0
ArePrinted text = AllByRecursion (IsInRange 32 126) text

-- such characters, and then a line feed
abbrev pub IsPrintedLine : List ℕ → Type 0
IsPrintedLine text = (front : List ℕ) × ArePrinted front × (text ≡ front ++ codes "\n")
