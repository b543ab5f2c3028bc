-- What `calls --members` writes: the table of the members of the calls in an input, and what is told
-- of messages that are refused.
use Rattle.std.specs.Prelude.{◌≡◌, ℕ, Bool, false, not, is_some, ◌||◌, ◌&&◌, List, [], ◌++◌}
use Rattle.dbus_call_lines.specs.Keeping.{EndedCall, Keeps, KnowsStray, ended_rows}
use Rattle.dbus_call_lines.specs.Listing.{AreListed, AreListedBy, AreRising, ListsOpen, Numbered, Row}
use Rattle.dbus_call_lines.specs.declared.call_list.CallList.{CallList}
use Rattle.dbus_call_lines.specs.declared.form.Form.{Form}
use Rattle.dbus_call_lines.specs.declared.wanted.Wanted.{Wanted}
use Rattle.dbus_call_members.specs.Summing.{AreSums, is_short, members, sums}
use Rattle.dbus_call_members.specs.Tables.{IsTable}
use Rattle.dbus_call_members.specs.declared.member_sums.MemberSums.{MemberSums}
use Rattle.cli_options.specs.declared.settings.Settings.{Settings}
use Rattle.cli_report.specs.Devices.{Reading, Writing}
use Rattle.cli_report.specs.declared.ending.ExitStatus.{ExitStatus}
use Rattle.cli_run.specs.CallListing.{IsNote, have_time, lack_times, notes, numbered}
use Rattle.cli_run.specs.Inputs.{Placed}
use Rattle.cli_run.specs.Making.{RunsToEnd}
use Rattle.cli_run.specs.declared.call_summing.SumRenderer.{SumRenderer}

-- the table of the members of the calls in these messages, of those that are wanted
abbrev pub IsTableOf : Wanted → List Placed → (text : List ℕ) → Type 0
IsTableOf wanted items text = (rows : List Row) × AreListed [] (numbered items) rows × IsTable wanted.form (sums (ended_rows members wanted rows)) text

-- What is known of a list and of sums while messages come.

-- the list keeps the calls that wait after these messages, and the sums are those of these calls
pub record Knows (wanted : Wanted) (before : List Numbered) (earlier : List EndedCall) (list : CallList) (s : MemberSums) : Type 0 where
  pub keeps : Keeps members wanted before list
  pub sums : AreSums s earlier
  pub all : is_short s ≡ false

-- the table of these calls and those that wait after these messages, and what is to be told then
abbrev pub IsLast : Wanted → Form → (before : List Numbered) → (earlier : List EndedCall) → (lacks_times : Bool) → (table note : List ℕ) → Type 0
IsLast wanted form before earlier lacks_times table note =
    ((rows : List Row) × ListsOpen before rows × IsTable form (sums (earlier ++ ended_rows members wanted rows)) table) × (stray : ℕ) × KnowsStray before stray × (note ≡ notes lacks_times stray)

-- What calls are summed up by: what is wanted, whether a message had a time, the messages that came,
-- and the calls that ended by them.
pub record SumsState : Type 0 where
  pub wanted : Wanted
  pub timed : Bool
  pub before : List Numbered
  pub earlier : List EndedCall

-- what sums them up keeps the calls that wait after these messages, whose numbers rise
pub record SumsAt (a : SumRenderer) (s : SumsState) : Type 0 where
  pub wanted_is : s.wanted ≡ a.wanted
  pub timed_is : s.timed ≡ a.timed
  pub knows : Knows s.wanted s.before s.earlier a.list a.sums
  pub rising : AreRising s.before

-- the numbers of these messages rise after those that came
abbrev pub FollowRising : SumsState → List Placed → Type 0
FollowRising s items = AreRising (s.before ++ numbered items)

-- the state after them, if these calls ended
abbrev pub sums_after : SumsState → List Placed → List Row → SumsState
sums_after s items rows = record { wanted = s.wanted; timed = s.timed || have_time items; before = s.before ++ numbered items; earlier = s.earlier ++ ended_rows members s.wanted rows }

-- the calls that end by the time that these messages came are added, and nothing is written
pub record MakesSums (s : SumsState) (items : List Placed) (text : List ℕ) (t : SumsState) : Type 0 where
  pub rows : List Row
  pub are : AreListedBy s.before (numbered items) rows
  pub none : text ≡ []
  pub then : t ≡ sums_after s items rows

-- at the end the table of all is, and this is told
abbrev pub EndsSums : SumsState → (text note : List ℕ) → Type 0
EndsSums s text note = IsLast s.wanted s.wanted.form s.before s.earlier (is_some s.wanted.slower && not s.timed) text note

-- where it starts
abbrev pub first_sums : Wanted → SumsState
first_sums wanted = record { wanted = wanted; timed = false; before = []; earlier = [] }

-- the table of all messages is written at the end, and the note of `calls` is told
abbrev pub SumsCalls : {R W E : Type 0} → Reading R → Writing W → Writing E → Settings → Wanted → (most : ℕ) → ExitStatus → Type 0
SumsCalls r w e settings wanted most end = RunsToEnd MakesSums (first_sums wanted) EndsSums r w e settings most end
