-- The line of a message for a reader. D-Bus Specification, "Message Types" and "Header Fields".
use Rattle.std.specs.Prelude.{◌≡◌, ℕ, ◌<◌, ◌≤◌, false, List, [], ◌++◌, length, Option, None, Some, codes, decimal, unwrap_or, ◌==◌, if◌then◌else◌}
use Rattle.std.specs.Char.{is_ascii_control}
use Rattle.std.specs.List.{AllByRecursion}
use Rattle.std.specs.Str.{IsUtf8, chars}
use Rattle.dbus_texts.specs.Kinds.{IsKind}
use Rattle.dbus_texts.specs.Types.{sigs}
use Rattle.dbus_texts.specs.declared.text_kind.TextKind.TheVariants.{BusName}
use Rattle.dbus_value_model.specs.declared.limits.Limits.{Limits}
use Rattle.dbus_value_model.specs.declared.order.Order.{Order}
use Rattle.dbus_value_model.specs.Values.{types_of}
use Rattle.dbus_message_model.specs.Messages.{IsMessage, MessageTree, message_bytes}
use Rattle.dbus_message_model.specs.declared.field_code.TheConstants as field
use Rattle.dbus_message_model.specs.declared.message_type.TheConstants as message
use Rattle.dbus_show.specs.Escapes.{is_hidden, visible}
use Rattle.dbus_value_text.specs.Forms.{led}
use Rattle.dbus_calls.specs.Events.{destination_of, reply_serial_of, sender_of, text_at, wants_reply}
use Rattle.dbus_call_lines.specs.CallLines.{took_text}
use Rattle.dbus_call_lines.specs.Listing.{Numbered}
use Rattle.dbus_json.specs.declared.place.LinePlace.{LinePlace}
use Rattle.dbus_list.specs.BriefValues.{AreBrief}
use Rattle.dbus_list.specs.Columns.{clock, column, name_cells, right, short}
use Rattle.dbus_list.specs.Cuts.{cut, width}
use Rattle.dbus_list.specs.Pairs.{ToldCall, told_of}
use Rattle.dbus_list.specs.Told.{Told}

abbrev pub or_dash : Option (List ℕ) → List ℕ
or_dash text = unwrap_or text (codes "-")

-- ---- number, time, size, sender and destination

abbrev pub time_part : Option ℕ → List ℕ
time_part None = []
time_part (Some nanoseconds) = clock nanoseconds ++ codes " "

-- what stands for a destination that a message does not have: a signal is for all
abbrev pub nobody : (kind : ℕ) → List ℕ
nobody kind = if kind == message.SIGNAL then codes "*" else codes "-"

abbrev pub columns : (line : ℕ) → LinePlace → Told → Order → MessageTree → List ℕ
columns line place told order m =
    right 4 (decimal place.number) ++ (codes " " ++ (time_part place.time ++ (right 5 (decimal (length (message_bytes order m))) ++ (codes " "
    ++ (column line (or_dash (sender_of m)) told.sender ++ (codes " > " ++ (column line (unwrap_or (destination_of m) (nobody m.kind)) told.destination ++ codes " ")))))))

-- ---- what the message is

-- the interface, if there is one, as it fits its cells
abbrev pub interface_part : (line : ℕ) → Option (List ℕ) → List ℕ
interface_part line None = []
interface_part line (Some interface) = short (name_cells line) interface ++ codes "."

-- the member behind its interface, and the types of the values that follow
abbrev pub member_part : (line : ℕ) → (interface member : Option (List ℕ)) → (types : List ℕ) → List ℕ
member_part line interface member types = interface_part line interface ++ (or_dash member ++ (codes "(" ++ (types ++ codes ")")))

abbrev pub member_of : (line : ℕ) → MessageTree → List ℕ
member_of line m = member_part line (text_at field.INTERFACE m) (text_at field.MEMBER m) (sigs (types_of m.body))

-- a call says so if it wants no reply
abbrev pub call_part : (line : ℕ) → MessageTree → List ℕ
call_part line m = if wants_reply m then member_of line m else member_of line m ++ codes " no reply wanted"

-- a call that is known: its number and its member, and how long its reply took
abbrev pub known_part : ToldCall → List ℕ
known_part call = codes "#" ++ (decimal call.number ++ (codes " " ++ (call.member ++ took_text call.took)))

-- the call that a reply is to, or its serial if it is not known
abbrev pub answered_part : (answered : Option ToldCall) → MessageTree → List ℕ
answered_part None m = codes "serial " ++ decimal (reply_serial_of m)
answered_part (Some call) m = known_part call

abbrev pub error_part : (line : ℕ) → (answered : Option ToldCall) → MessageTree → List ℕ
error_part line answered m = short (name_cells line) (or_dash (text_at field.ERROR_NAME m)) ++ (codes " to " ++ answered_part answered m)

abbrev pub about_kind : (kind line : ℕ) → (answered : Option ToldCall) → MessageTree → List ℕ
about_kind kind line answered m =
    if kind == message.METHOD_CALL then call_part line m
    else if kind == message.METHOD_RETURN then codes "reply to " ++ answered_part answered m
    else if kind == message.ERROR then codes "error " ++ error_part line answered m
    else if kind == message.SIGNAL then codes "signal " ++ member_of line m
    else codes "type " ++ (decimal kind ++ (codes " " ++ member_of line m))

abbrev pub about : (line : ℕ) → (answered : Option ToldCall) → MessageTree → List ℕ
about line answered m = about_kind m.kind line answered m

-- ---- the line

-- The text of a message, of which a line of so many cells has what fits: after the columns, what
-- the message is, and the values of its body.
pub record IsListed (line : ℕ) (place : LinePlace) (told : Told) (order : Order) (m : MessageTree) (text : List ℕ) : Type 0 where
  pub values : List (List ℕ)
  pub brief : AreBrief m.body values
  pub is : text ≡ columns line place told order m ++ (about line told.answered m ++ led (codes " ") (codes ", ") values)

-- a text as it fits so many cells: each hidden character is seen, and what is too much is cut
abbrev pub fitted : (cells : ℕ) → (text : List ℕ) → List ℕ
fitted n text = cut n (visible text)

abbrev pub line_of : (cells : ℕ) → (text : List ℕ) → List ℕ
line_of n text = fitted n text ++ codes "\n"

-- the line of a message
abbrev pub IsLine : (cells : ℕ) → LinePlace → Told → Order → MessageTree → List ℕ → Type 0
IsLine n place told order m line = (text : List ℕ) × IsListed n place told order m text × (line ≡ line_of n text)

-- What holds of lines.

-- Each message has a line, whatever its place and what is told beside it.
abbrev pub IsSomeLineEach : Type 0
IsSomeLineEach = (cells : ℕ) (place : LinePlace) (told : Told) (order : Order) (m : MessageTree) → (line : List ℕ) × IsLine cells place told order m line

-- What fits so many cells has no more of them, if they are not 0.
abbrev pub Fits : Type 0
Fits = (n : ℕ) (text : List ℕ) → 0 < n → IsUtf8 text → width (chars (fitted n text)) ≤ n

-- None of its characters is hidden.
abbrev pub AreSeen : (characters : List ℕ) → Type 0
AreSeen cs = AllByRecursion (λ c. is_hidden c ≡ false) cs

abbrev pub HideNothing : Type 0
HideNothing = (n : ℕ) (text : List ℕ) → IsUtf8 text → AreSeen (chars (fitted n text))

-- what is told of a call is so of one within the limits
abbrev pub IsCallWithin : Limits → Option ToldCall → Type 0
IsCallWithin limits None = Unit {0}
IsCallWithin limits (Some told) = (order : Order) × (call : Numbered) × (replied : Option ℕ) × IsMessage limits order call.message × (told ≡ told_of replied call)

-- and a name by which a connection is known is a bus name
abbrev pub IsNameKnown : Option (List ℕ) → Type 0
IsNameKnown None = Unit {0}
IsNameKnown (Some name) = IsKind BusName name

abbrev pub IsToldWithin : Limits → Told → Type 0
IsToldWithin limits told = IsCallWithin limits told.answered × IsNameKnown told.sender × IsNameKnown told.destination

-- None of them is a control character of ASCII, if the text is of a message within the limits, and
-- what is told beside it is so.
abbrev pub ArePlain : (characters : List ℕ) → Type 0
ArePlain cs = AllByRecursion (λ c. is_ascii_control c ≡ false) cs

abbrev pub ControlNothing : Type 0
ControlNothing = (limits : Limits) (order : Order) (m : MessageTree) (n : ℕ) (place : LinePlace) (told : Told) (text : List ℕ) → IsMessage limits order m → IsToldWithin limits told → IsListed n place told order m text
    → IsUtf8 text → ArePlain (chars (fitted n text))
