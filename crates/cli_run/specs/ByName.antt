-- What `count` writes: the tables of the names of the messages of an input that are selected, from
-- when to when these were captured, and what is told of messages that are refused.
use Rattle.std.specs.Prelude.{◌≡◌, ℕ, false, List, [], ◌∷◌, ◌++◌, Option, None, Result, Ok, Err, true, Some, Bool, map}
use Rattle.std.specs.Option.{option_to_list}
use Rattle.dbus_count.specs.Counting.{Counting, with_names, counting_of, names_of}
use Rattle.dbus_count.specs.Spans.{with_times}
use Rattle.dbus_count.specs.Tables.{IsSummary}
use Rattle.dbus_count.specs.declared.count.Count.{Count}
use Rattle.dbus_count.specs.declared.form.Form.{Form}
use Rattle.dbus_count.specs.declared.form.Form.TheVariants as forms
use Rattle.dbus_count.specs.declared.span.Span.{Span}
use Rattle.cli_options.specs.declared.selection.Selection.{Selection}
use Rattle.cli_options.specs.declared.settings.Settings.{Settings}
use Rattle.cli_report.specs.Devices.{Reading, Writing, taken}
use Rattle.cli_report.specs.declared.ending.Cause.{Cause}
use Rattle.cli_report.specs.declared.ending.Cause.TheVariants.{Memory, WriteFailed, ReadFailed, TooManyReads}
use Rattle.cli_report.specs.declared.ending.ExitStatus.{ExitStatus}
use Rattle.dbus_names.specs.NameStates.{NameState}
use Rattle.dbus_stream.specs.Cut.{CutMessage}
use Rattle.dbus_stream.specs.declared.read_fault.ReadFault.{ReadFault}
use Rattle.dbus_stream.specs.declared.read_fault.ReadFault.TheVariants as read
use Rattle.cli_run.specs.Going.{IsThrough, StopsWithin}
use Rattle.cli_run.specs.Inputs.{Placed}
use Rattle.cli_run.specs.Learning.{AreSelected, known, known_after_all, selection_of}
use Rattle.cli_run.specs.Making.{RunsToEnd}
use Rattle.cli_run.specs.Needed.{IsReadFor, ReadsToSee}
use Rattle.cli_run.specs.Told.{IsUnwritten}
use Rattle.cli_run.specs.Visiting.{WantsAll}
use Rattle.cli_run.specs.declared.by_name.CountRenderer.{CountRenderer}
use Rattle.cli_run.specs.declared.visitor.RunStop.TheVariants.{Cause as ByCause}
use Rattle.cli_run.specs.Output.{fault_line}
use Rattle.cli_run.specs.declared.counted.Counted.{Counted}
use Rattle.cli_run.specs.declared.counted.NoMessage.{NoMessage}
use Rattle.cli_run.specs.declared.counted.NoMessage.TheVariants.{Reader, Writer, Enough}

-- messages without their places
abbrev pub items_of : List Placed → List CutMessage
items_of messages = map (λ m. m.item) messages

-- the count of a name after more messages
abbrev pub after_messages : List CutMessage → (name : List ℕ) → Option Count → Option Count
after_messages [] name c = c
after_messages (item ∷ items) name c = after_messages items name (with_names (names_of item.message) item.size name c)

-- the count of each name that one of the messages has
abbrev pub counting : List Placed → Counting
counting messages name = after_messages (items_of messages) name None

-- the times of messages, of those that have one
abbrev pub times_of : List Placed → List ℕ
times_of [] = []
times_of (m ∷ items) = option_to_list m.place.time ++ times_of items

-- from when to when messages were captured, if one has a time
abbrev pub span_of : List Placed → Option Span
span_of items = with_times (times_of items) None

-- What messages are counted by: the form of the tables, which are selected, what is known of the
-- owners of names, the counts, and the span.
pub record CountsState : Type 0 where
  pub form : Form
  pub selection : Option Selection
  pub owners : NameState
  pub counts : Counting
  pub span : Option Span

-- where one that counts stands
abbrev pub counts_at : CountRenderer → CountsState
counts_at a = record { form = a.form; selection = selection_of a.selector; owners = known (selection_of a.selector) a.owners; counts = counting_of a.counts; span = a.span }

-- the state after messages, of which these are selected
abbrev pub counts_after : CountsState → (items selected : List Placed) → CountsState
counts_after s items selected =
    record { form = s.form; selection = s.selection; owners = known_after_all s.selection s.owners items; counts = λ name. after_messages (items_of selected) name (s.counts name); span = with_times (times_of selected) s.span }

-- the messages that are selected are counted, and nothing is written
pub record MakesCounts (s : CountsState) (items : List Placed) (text : List ℕ) (t : CountsState) : Type 0 where
  pub selected : List Placed
  pub are : AreSelected s.selection s.owners items selected
  pub none : text ≡ []
  pub then : t ≡ counts_after s items selected

-- at the end the tables are, and the line of the span. Nothing is told
abbrev pub EndsCounts : CountsState → (text note : List ℕ) → Type 0
EndsCounts s text note = IsSummary s.form s.counts s.span text × (note ≡ [])

-- the form in which the tables are written
abbrev pub table_form : (as_json : Bool) → Form
table_form true = forms.Json
table_form false = forms.Text

-- where it starts
abbrev pub first_counts : Form → Option Selection → CountsState
first_counts form selection = record { form = form; selection = selection; owners = known selection None; counts = λ name. None; span = None }

-- the tables of all messages that are selected are written at the end, and the line of their span
abbrev pub CountsByName : {R W E : Type 0} → Reading R → Writing W → Writing E → Settings → Option Selection → (most : ℕ) → ExitStatus → Type 0
CountsByName r w e settings selection most end = RunsToEnd MakesCounts (first_counts (table_form settings.as_json) selection) EndsCounts r w e settings most end

-- What the messages of an input are counted as.

-- what a fault of the reader after these messages comes to
abbrev pub ended_by : ℕ → ℕ → ReadFault → Result Counted Cause
ended_by count size (read.Format fault) = Ok (record { count = count; size = size; fault = Some fault })
ended_by count size read.Memory = Err Memory
ended_by count size read.Device = Err ReadFailed
ended_by count size read.TooManyReads = Err TooManyReads

-- what it comes to that there is no next message after these
abbrev pub stopped_by : ℕ → ℕ → NoMessage → Result Counted Cause
stopped_by count size (Reader fault) = ended_by count size fault
stopped_by count size Writer = Err WriteFailed
stopped_by count size Enough = Ok (record { count = count; size = size; fault = None })

-- by settings that ask for no more all messages were counted, up to the end of the input or a
-- fault, and the line of the fault is due, with this packet; or reading was given up. most is how
-- many reads may be made
abbrev pub Tallies : {R : Type 0} → Reading R → Settings → (most : ℕ) → (packet : Option ℕ) → Result Counted Cause → Type 0
Tallies r settings most packet (Ok counted) =
    (t : IsThrough (taken r) settings most true (record { count = counted.count; size = counted.size; passed = 0; passed_size = 0; is_cut = false }) counted.fault [] (fault_line counted.size counted.fault packet))
    × ReadsToSee settings counted.fault t.parts t.rest (IsReadFor r)
Tallies r settings most packet (Err cause) = StopsWithin (taken r) settings most true WantsAll (λ items told stop. IsUnwritten stop × (told ≡ [])) (ByCause cause)
