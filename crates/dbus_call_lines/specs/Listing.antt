-- What is listed of the calls in an input: each METHOD_CALL, once it is known what came of it.
-- D-Bus Specification, "Message Types" ("Method Calls").
use Rattle.std.specs.Prelude.{◌≡◌, ◌↔◌, ◌<◌, ◌+◌, ◌^◌, ℕ, nat_eq, List, [], ◌∷◌, ◌++◌, Bool, true, not, ◌&&◌, ◌==◌, ◌⊎◌, Some, IfSome, map, if◌then◌else◌}
use Rattle.std.specs.List.{AllByRecursion, Contains, IsDistinct, flat_map}
use Rattle.std.specs.List.Sorted.{IsStrictlySortedBy}
use Rattle.std.specs.Ordering.{nat_cmp}
use Rattle.dbus_texts.specs.Kinds.{IsKind}
use Rattle.dbus_texts.specs.declared.text_kind.TextKind.TheVariants.{BusName}
use Rattle.dbus_value_model.specs.declared.limits.Limits.{Limits}
use Rattle.dbus_value_model.specs.declared.order.Order.{Order}
use Rattle.dbus_message_model.specs.Messages.{IsMessage, MessageTree}
use Rattle.dbus_message_model.specs.declared.message_type.TheConstants as message
use Rattle.dbus_calls.specs.Events.{Event, destination_of, event_of, wants_reply}
use Rattle.dbus_calls.specs.Events.Event.{Calls, Replies, Leaves, Passes}
use Rattle.dbus_calls.specs.Pairing.{Answers, IsOpen, IsReply, ends, run}
use Rattle.dbus_calls.specs.Waiting.{Waiting, answered, no_calls}
use Rattle.dbus_call_lines.specs.CallLines.{IsPrintedLine, line}
use Rattle.dbus_call_lines.specs.Names.{Known, unnamed}
use Rattle.dbus_call_lines.specs.Outcomes.{Outcome, is_wanted, outcome_by}
use Rattle.dbus_call_lines.specs.Outcomes.Outcome.{Unwanted, Open}
use Rattle.dbus_call_lines.specs.declared.place.Place.{Place}
use Rattle.dbus_call_lines.specs.declared.wanted.Wanted.{Wanted}
use Rattle.dbus_call_lines.specs.declared.form.Form.TheVariants.{Text}

-- a message, its place in the input, and the names by which its connections are known then
pub record Numbered : Type 0 where
  pub place : Place
  pub names : Known
  pub message : MessageTree

-- the message at this place, with these names, and with none
abbrev pub named_nth : Place → Known → MessageTree → Numbered
named_nth place names message = record { place = place; names = names; message = message }

abbrev pub nth : Place → MessageTree → Numbered
nth place message = named_nth place unnamed message

abbrev pub message_of : Numbered → MessageTree
message_of x = x.message

-- a call, and what came of it
pub record Row : Type 0 where
  pub call : Numbered
  pub outcome : Outcome

abbrev pub row : Outcome → Numbered → Row
row outcome call = record { call = call; outcome = outcome }

-- a METHOD_CALL
abbrev pub is_call : Numbered → Bool
is_call x = x.message.kind == message.METHOD_CALL

-- one whose flag NO_REPLY_EXPECTED is set
abbrev pub is_unwanted : Numbered → Bool
is_unwanted x = is_call x && not (wants_reply x.message)

-- their numbers rise
abbrev pub AreRising : List Numbered → Type 0
AreRising xs = IsStrictlySortedBy (λ a b. nat_cmp a.place.number b.place.number) xs

-- these are all of which it holds, in the order of their numbers
pub record AreThose (Is : Numbered → Type 0) (xs : List Numbered) : Type 0 where
  pub all : (x : Numbered) → Contains xs x ↔ Is x
  pub rising : AreRising xs

-- Messages came before, and then this one.
module _ (before : List Numbered) (x : Numbered) where
  -- the call was open, and the message ends it
  abbrev pub IsEnded : Numbered → Type 0
  IsEnded call = IsOpen message_of before call × (ends call.message x.message ≡ true)

  -- the message itself, if it is a call that wants no reply
  abbrev pub own_row : List Row
  own_row = if is_unwanted x then row Unwanted x ∷ [] else []

  -- what is listed then: the calls that it ends, and it itself
  pub record ListsAfter (rows : List Row) : Type 0 where
    pub calls : List Numbered
    pub calls_are : AreThose IsEnded calls
    pub rows_are : rows ≡ map (row (outcome_by x.place x.message)) calls ++ own_row

-- a METHOD_RETURN or an ERROR that answers no call of those that came before
abbrev pub IsStray : (before : List Numbered) (x : Numbered) → Type 0
IsStray before x = IsReply x.message × ((call : Numbered) → Answers message_of before x call → ⊥)

-- n of messages are such replies and then, with one that comes after them, m
abbrev pub CountsStray : (before : List Numbered) (x : Numbered) (n m : ℕ) → Type 0
CountsStray before x n m = (IsStray before x × (m ≡ n + 1)) ⊎ ((IsStray before x → ⊥) × (m ≡ n))

-- so many of messages are such replies, if these came before
abbrev pub HaveStray : (before xs : List Numbered) (n : ℕ) → Type 0
HaveStray before [] n = n ≡ 0
HaveStray before (x ∷ xs) n = (m : ℕ) × HaveStray (before ++ x ∷ []) xs m × CountsStray before x m n

-- what is listed at the end: the calls that are open then
pub record ListsOpen (before : List Numbered) (rows : List Row) : Type 0 where
  pub calls : List Numbered
  pub calls_are : AreThose (IsOpen message_of before) calls
  pub rows_are : rows ≡ map (row Open) calls

-- what is listed of messages, if these came before
abbrev pub AreListed : (before xs : List Numbered) → List Row → Type 0
AreListed before [] rows = ListsOpen before rows
AreListed before (x ∷ xs) rows = (now more : List Row) × ListsAfter before x now × AreListed (before ++ x ∷ []) xs more × (rows ≡ now ++ more)

-- what is listed by the time that these messages came, if those came before
abbrev pub AreListedBy : (before xs : List Numbered) → List Row → Type 0
AreListedBy before [] rows = rows ≡ []
AreListedBy before (x ∷ xs) rows = (now more : List Row) × ListsAfter before x now × AreListedBy (before ++ x ∷ []) xs more × (rows ≡ now ++ more)

-- the lines of those that are wanted
abbrev pub row_text : Wanted → Row → List ℕ
row_text wanted r = if is_wanted wanted r.call.place.time r.outcome then line wanted.form r.call.place r.call.names r.call.message r.outcome else []

abbrev pub rows_text : Wanted → List Row → List ℕ
rows_text wanted rows = flat_map (row_text wanted) rows

-- What holds of what is listed.

abbrev pub calls_of : List Row → List Numbered
calls_of rows = map (λ r. r.call) rows

abbrev pub same_number : Numbered → Numbered → Bool
same_number a b = nat_eq a.place.number b.place.number

-- Of an input, each METHOD_CALL is listed, and nothing else; and none is listed twice.
pub record ListsEachOnce (xs : List Numbered) (rows : List Row) : Type 0 where
  pub each : (x : Numbered) → Contains (calls_of rows) x ↔ (Contains xs x × (is_call x ≡ true))
  pub once : IsDistinct same_number (calls_of rows)

abbrev pub OneLineEach : Type 0
OneLineEach = (xs : List Numbered) (rows : List Row) → AreRising xs → AreListed [] xs rows → ListsEachOnce xs rows

-- Of messages whose numbers rise something is listed, and they determine it.
abbrev pub SomeList : Type 0
SomeList = (xs : List Numbered) → AreRising xs → (rows : List Row) × AreListed [] xs rows

abbrev pub OneList : Type 0
OneList = (xs : List Numbered) (rows others : List Row) → AreListed [] xs rows → AreListed [] xs others → rows ≡ others

-- Each line in words is printed, whatever the messages hold that are within the limits.

-- its number and its time, if it has one, have at most 64 bits
abbrev pub IsPlaceWithin : Place → Type 0
IsPlaceWithin place = (place.number < 2 ^ 64) × IfSome place.time (λ t. t < 2 ^ 64)

-- the names are bus names
abbrev pub AreNames : Known → Type 0
AreNames names = IfSome names.sender (IsKind BusName) × IfSome names.destination (IsKind BusName)

abbrev pub AreWithin : Limits → List Numbered → Type 0
AreWithin limits xs = AllByRecursion (λ x. (order : Order) × IsMessage limits order x.message × IsPlaceWithin x.place × AreNames x.names) xs

abbrev pub OnlyPrinted : Type 0
OnlyPrinted = (limits : Limits) (xs : List Numbered) (rows : List Row) → AreWithin limits xs → AreListed [] xs rows
    → AllByRecursion (λ r. IsPrintedLine (line Text r.call.place r.call.names r.call.message r.outcome)) rows

-- How one pass finds what a message ends: it keeps the calls that wait, and takes these away.

abbrev pub IsTaken : Waiting Numbered → Event → (call : Numbered) → Type 0
IsTaken w (Calls caller serial wants) call = w caller serial ≡ Some call
IsTaken w (Replies caller serial sender) call = answered (λ c. destination_of c.message) (w caller serial) sender ≡ Some call
IsTaken w (Leaves name) call = (serial : ℕ) × (w name serial ≡ Some call)
IsTaken w Passes call = ⊥

-- it takes away exactly the calls that the message ends
abbrev pub TakesEnded : Type 0
TakesEnded = (before : List Numbered) (x call : Numbered) → IsEnded before x call ↔ IsTaken (run message_of no_calls before) (event_of x.message) call
