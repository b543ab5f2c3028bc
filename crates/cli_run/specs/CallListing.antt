-- What `calls` writes: the lines of the calls in an input, each once it is known what came of it,
-- and what is told of messages that are refused.
use Rattle.std.specs.Prelude.{◌≡◌, ℕ, nat_eq, Bool, false, not, ◌||◌, ◌&&◌, if◌then◌else◌, codes, decimal, List, [], ◌∷◌, ◌++◌, map, is_some}
use Rattle.std.specs.FinSet.{empty}
use Rattle.dbus_message_model.specs.Messages.{MessageTree}
use Rattle.dbus_call_lines.specs.CallLines.{front}
use Rattle.dbus_call_lines.specs.Keeping.{Keeps, KnowsStray}
use Rattle.dbus_call_lines.specs.Listing.{AreListedBy, AreRising, ListsOpen, Numbered, Row, named_nth, nth, rows_text}
use Rattle.dbus_call_lines.specs.declared.place.Place.{Place}
use Rattle.dbus_call_lines.specs.declared.wanted.Wanted.{Wanted}
use Rattle.dbus_names.specs.Kept.{state_of}
use Rattle.dbus_names.specs.NameStates.{NameState, known_first}
use Rattle.cli_options.specs.declared.settings.Settings.{Settings}
use Rattle.cli_report.specs.Devices.{Reading, Writing}
use Rattle.cli_report.specs.declared.ending.ExitStatus.{ExitStatus}
use Rattle.cli_run.specs.Inputs.{Placed}
use Rattle.cli_run.specs.Making.{RunsToEnd}
use Rattle.cli_run.specs.LineNames.{known_beside, names_after, names_after_all}
use Rattle.cli_run.specs.declared.call_listing.CallRenderer.{CallRenderer}
use Rattle.cli_run.specs.declared.place.MessagePlace.{MessagePlace}

-- the place of a message, without where it begins
abbrev pub number_and_time : MessagePlace → Place
number_and_time place = record { number = place.number; time = place.time }

-- the messages, each with its number and its time
abbrev pub numbered : List Placed → List Numbered
numbered items = map (λ m. nth (number_and_time m.place) m.item.message) items

-- no name is known
abbrev pub nothing_known : NameState
nothing_known = known_first empty

-- a message, if this is known after it
abbrev pub named_at : MessagePlace → NameState → MessageTree → Numbered
named_at place now m = named_nth (number_and_time place) (known_beside now.names m) m

-- the messages, each with the names that it and those before it tell, if this was known first
abbrev pub named : NameState → List Placed → List Numbered
named os [] = []
named os (m ∷ items) = let now = names_after os m.item.message in named_at m.place now m.item.message ∷ named now items

abbrev pub all_named : List Placed → List Numbered
all_named items = named nothing_known items

-- one of the messages has a time
abbrev pub have_time : List Placed → Bool
have_time [] = false
have_time (m ∷ items) = is_some m.place.time || have_time items

-- slow calls are wanted, and none of the messages has a time
abbrev pub lack_times : Wanted → List Placed → Bool
lack_times wanted items = is_some wanted.slower && not (have_time items)

-- what is told of that
abbrev pub times_note : (lacks_times : Bool) → List ℕ
times_note lacks_times = if lacks_times then codes "note: no message has a time, so --slower lists no call\n" else []

-- what is told of replies that answer no call that was seen, if there are so many
abbrev pub stray_note : (stray : ℕ) → List ℕ
stray_note stray =
    if nat_eq stray 0 then []
    else if nat_eq stray 1 then codes "1 reply answers no call that was seen\n"
    else decimal stray ++ codes " replies answer no call that was seen\n"

-- what is told at the end
abbrev pub notes : (lacks_times : Bool) (stray : ℕ) → List ℕ
notes lacks_times stray = times_note lacks_times ++ stray_note stray

-- what is told at the end of these messages
abbrev pub IsNote : (lacks_times : Bool) → List Numbered → (note : List ℕ) → Type 0
IsNote lacks_times xs note = (stray : ℕ) × KnowsStray xs stray × (note ≡ notes lacks_times stray)

-- What calls are listed by: what is wanted, what is known of names, whether a message had a time, and
-- the messages that came.
pub record CallsState : Type 0 where
  pub wanted : Wanted
  pub names : NameState
  pub timed : Bool
  pub before : List Numbered

-- what lists them keeps the calls that wait after these messages, whose numbers rise
pub record ListsAt (a : CallRenderer) (s : CallsState) : Type 0 where
  pub wanted_is : s.wanted ≡ a.wanted
  pub names_are : s.names ≡ state_of a.names
  pub timed_is : s.timed ≡ a.timed
  pub keeps : Keeps front s.wanted s.before a.list
  pub rising : AreRising s.before

-- the numbers of these messages rise after those that came
abbrev pub FollowRising : CallsState → List Placed → Type 0
FollowRising s items = AreRising (s.before ++ named s.names items)

-- the state after them
abbrev pub calls_after : CallsState → List Placed → CallsState
calls_after s items = record { wanted = s.wanted; names = names_after_all s.names items; timed = s.timed || have_time items; before = s.before ++ named s.names items }

-- the text is the lines of the calls that are listed by the time that these messages came
pub record MakesCalls (s : CallsState) (items : List Placed) (text : List ℕ) (t : CallsState) : Type 0 where
  pub rows : List Row
  pub are : AreListedBy s.before (named s.names items) rows
  pub text_is : text ≡ rows_text s.wanted rows
  pub after_is : t ≡ calls_after s items

-- at the end it is those of the calls that wait, and this is told
abbrev pub EndsCalls : CallsState → (text note : List ℕ) → Type 0
EndsCalls s text note = ((rows : List Row) × ListsOpen s.before rows × (text ≡ rows_text s.wanted rows)) × IsNote (is_some s.wanted.slower && not s.timed) s.before note

-- where it starts
abbrev pub first_calls : Wanted → CallsState
first_calls wanted = record { wanted = wanted; names = nothing_known; timed = false; before = [] }

-- the lines of all calls are written: those of calls that wait come at the end
abbrev pub ListsCalls : {R W E : Type 0} → Reading R → Writing W → Writing E → Settings → Wanted → (most : ℕ) → ExitStatus → Type 0
ListsCalls r w e settings wanted most end = RunsToEnd MakesCalls (first_calls wanted) EndsCalls r w e settings most end
