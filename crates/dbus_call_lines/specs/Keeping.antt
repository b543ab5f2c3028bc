-- What a list of calls keeps: of each call that waits its place, its DESTINATION and a text; and what
-- it hands on of each call that ended.
use Rattle.std.specs.Prelude.{◌≡◌, ◌-◌, ◌^◌, ℕ, min, List, [], ◌∷◌, ◌++◌, Option, None, Some, map, option_map, string_bytes, if◌then◌else◌}
use Rattle.std.specs.List.{flat_map}
use Rattle.std.specs.List.Sorted.{IsPermutation, IsSortedBy}
use Rattle.std.specs.Ordering.{is_lt, nat_cmp}
use Rattle.dbus_message_model.specs.Messages.{MessageTree}
use Rattle.dbus_calls.specs.Events.{destination_of}
use Rattle.dbus_calls.specs.Kept.{waiting}
use Rattle.dbus_calls.specs.Pairing.{run}
use Rattle.dbus_calls.specs.Waiting.{no_calls}
use Rattle.dbus_call_lines.specs.CallLines.{end, front}
use Rattle.dbus_call_lines.specs.Listing.{HaveStray, ListsAfter, Numbered, Row, message_of, rows_text}
use Rattle.dbus_call_lines.specs.Names.{Known}
use Rattle.dbus_call_lines.specs.Outcomes.{Outcome, is_wanted}
use Rattle.dbus_call_lines.specs.declared.form.Form.{Form}
use Rattle.dbus_call_lines.specs.declared.wanted.Wanted.{Wanted}
use Rattle.dbus_call_lines.specs.declared.call_list.CallList.{CallList}
use Rattle.dbus_call_lines.specs.declared.place.Place.{Place}
use Rattle.dbus_call_lines.specs.declared.waiting_call.WaitingCall.{WaitingCall}

-- the text that is kept of a call, in the form that is wanted
abbrev pub Texts : Type 0
Texts = Form → Place → Known → MessageTree → List ℕ

pub record KeptCall : Type 0 where
  pub place : Place
  pub destination : Option (List ℕ)
  pub text : List ℕ

-- what is kept of a call, and what is to be kept
abbrev pub kept : WaitingCall → KeptCall
kept call =
    let parts = call.parts.value in
    record { place = parts.place; destination = option_map string_bytes parts.destination; text = string_bytes parts.text }

abbrev pub kept_of : Texts → Wanted → Numbered → KeptCall
kept_of texts wanted call = record { place = call.place; destination = destination_of call.message; text = texts wanted.form call.place call.names call.message }

-- of messages so many are replies that answer none, a number that stops at the greatest of 64 bits
abbrev pub KnowsStray : (before : List Numbered) (stray : ℕ) → Type 0
KnowsStray before stray = (n : ℕ) × HaveStray [] before n × (stray ≡ min n (2 ^ 64 - 1))

-- the list is to have what is wanted, and keeps the calls that wait after these messages, of each
-- this text, and how many of these messages are replies that answer none
unfoldable pub Keeps : Texts → Wanted → (before : List Numbered) → CallList → Type 0
Keeps texts wanted before list = (list.wanted ≡ wanted) × ((caller : List ℕ) (serial : ℕ) → option_map kept (waiting list.open caller serial) ≡ option_map (kept_of texts wanted) (run message_of no_calls before caller serial)) × KnowsStray before list.stray

-- a call that ended: its form and its place, the text that is kept of it, and what came of it
pub record EndedCall : Type 0 where
  pub form : Form
  pub place : Place
  pub text : List ℕ
  pub outcome : Outcome

abbrev pub ended : Form → Place → (text : List ℕ) → Outcome → EndedCall
ended form place text outcome = record { form = form; place = place; text = text; outcome = outcome }

-- it, if it is wanted
abbrev pub ended_if : Wanted → Outcome → Place → (text : List ℕ) → List EndedCall
ended_if wanted outcome place text = if is_wanted wanted place.time outcome then ended wanted.form place text outcome ∷ [] else []

-- those that are wanted of calls that are kept, if this came of them; and of rows
abbrev pub ended_kept : Wanted → Outcome → List KeptCall → List EndedCall
ended_kept wanted outcome calls = flat_map (λ c. ended_if wanted outcome c.place c.text) calls

abbrev pub ended_row : Texts → Wanted → Row → List EndedCall
ended_row texts wanted r = ended_if wanted r.outcome r.call.place (texts wanted.form r.call.place r.call.names r.call.message)

abbrev pub ended_rows : Texts → Wanted → List Row → List EndedCall
ended_rows texts wanted rows = flat_map (ended_row texts wanted) rows

-- the call, if there is one, as a list
abbrev pub as_list : {A : Type 0} → Option A → List A
as_list None = []
as_list (Some call) = call ∷ []

-- Of these calls those that are wanted are gained, in the order of their numbers.
pub record GainsSorted {S : Type 0} (gains : S → List EndedCall → S → Type 0) (wanted : Wanted) (outcome : Outcome) (calls : List WaitingCall) (old new : S) : Type 0 where
  pub sorted : List WaitingCall
  pub same : IsPermutation calls sorted
  pub rising : IsSortedBy (λ a b. is_lt (nat_cmp (kept a).place.number (kept b).place.number)) sorted
  pub gains_calls : gains old (ended_kept wanted outcome (map kept sorted)) new

-- After messages the list took this one too, and what is wanted of what is listed then is gained.
abbrev pub TakesNext : {S : Type 0} → Texts → (gains : S → List EndedCall → S → Type 0) → Wanted → (before : List Numbered) → Numbered → CallList → (old new : S) → Type 0
TakesNext texts gains wanted before x list old new = Keeps texts wanted (before ++ x ∷ []) list × (rows : List Row) × ListsAfter before x rows × gains old (ended_rows texts wanted rows) new

-- Calls that ended as lines, of which their texts are the fronts.

abbrev pub lines_text : List EndedCall → List ℕ
lines_text calls = flat_map (λ c. c.text ++ end c.form c.place.time c.outcome) calls

-- of those that are wanted these are the lines
abbrev pub AreLines : Type 0
AreLines = (wanted : Wanted) (rows : List Row) → lines_text (ended_rows front wanted rows) ≡ rows_text wanted rows
