-- How a run ends that sums up calls.
use Rattle.std.proofs.Common.{◌≡◌, ℕ, Bool, false, List, [], ◌∷◌, ◌++◌, Option, refl, sym, subst, append-nil}
use Rattle.std.specs.List.Sorted.{IsStrictlySortedBy}
use Rattle.dbus_value_model.specs.declared.order.Order.{Order}
use Rattle.dbus_message_model.specs.Messages.{MessageTree}
use Rattle.dbus_device.specs.Packets.{Packets}
use Rattle.dbus_call_lines.specs.Keeping.{EndedCall, KnowsStray, ended_rows}
use Rattle.dbus_call_lines.specs.Listing.{AreRising, ListsAfter, ListsOpen, Numbered, Row, nth}
use Rattle.dbus_call_lines.specs.declared.form.Form.{Form}
use Rattle.dbus_call_lines.specs.declared.wanted.Wanted.{Wanted}
use Rattle.dbus_call_lines.proofs.Along.{listed_end}
use Rattle.dbus_call_lines.proofs.Some.{front_rises, some_after}
use Rattle.dbus_call_lines.proofs.Steps.{ended_both}
use Rattle.dbus_call_members.specs.Summing.{Adds, AreSums, is_short, members, sums, sums_in}
use Rattle.dbus_call_members.specs.Tables.{IsTable}
use Rattle.dbus_call_members.specs.declared.member_sums.MemberSums.{MemberSums}
use Rattle.cli_run.specs.CallListing.{IsNote, lack_times, notes, number_and_time, numbered}
use Rattle.cli_run.specs.CallSumming.{EndsSums, FollowRising, IsLast, IsTableOf, Knows, MakesSums, SumsAt, SumsState, first_sums, sums_after}
use Rattle.cli_run.specs.Inputs.{ArePlaced, Part, Placed}
use Rattle.cli_run.specs.OutputWriting.{placed_at}
use Rattle.cli_run.specs.declared.call_summing.SumRenderer.{SumRenderer}
use Rattle.cli_run.specs.declared.place.MessagePlace.{MessagePlace}
use Rattle.cli_run.proofs.CallSteps.{placed_rise}

-- the table of sums that are those of calls
pub table_is : (form : Form) (s : MemberSums) (calls : List EndedCall) (text : List ℕ) → AreSums s calls → IsTable form (sums_in s) text → IsTable form (sums calls) text
table_is form s calls text are is = subst (λ (f : List ℕ → Option _). IsTable form f text) (λ i name. are name i) is

-- the calls that wait are added, and the table is that of all
pub last_is : (wanted : Wanted) (form : Form) (before : List Numbered) (earlier : List EndedCall) (lacks_times : Bool) (table note : List ℕ) (old new : MemberSums) (stray : ℕ) → AreSums old earlier
    → (rows : List Row) × ListsOpen before rows × Adds old (ended_rows members wanted rows) new → is_short new ≡ false → IsTable form (sums_in new) table → KnowsStray before stray → note ≡ notes lacks_times stray
    → IsLast wanted form before earlier lacks_times table note
last_is wanted form before earlier lacks_times table note old new stray are h all is known note_is =
    ((h.0, h.1, table_is form new (earlier ++ ended_rows members wanted h.0) table (h.2.adds all earlier are) is), stray, known, note_is)

-- ---- one message

module _ (s : SumsState) (order : Order) (m : MessageTree) (place : MessagePlace) (size : ℕ) where
  abbrev pub x : Numbered
  x = nth (number_and_time place) m

  abbrev pub Rendered : (P : SumsState → List ℕ → Type 0) → Type 0
  Rendered P = (t : SumsState) × (text : List ℕ) × MakesSums s (placed_at place order m size ∷ []) text t × P t text

  pub sums_one : (P : SumsState → List ℕ → Type 0) (rows : List Row) → ListsAfter s.before x rows → P (sums_after s (placed_at place order m size ∷ []) rows) [] → Rendered P
  sums_one P rows are p = (sums_after s (placed_at place order m size ∷ []) rows, [], record { rows = rows; are = (rows, [], are, refl, sym (append-nil rows)); none = refl; then = refl }, p)

  -- something is listed then
  pub some_of_one : AreRising (s.before ++ x ∷ []) → Rendered (λ t text. Unit {0})
  some_of_one up = let some = some_after s.before (front_rises s.before (x ∷ []) up) x in sums_one (λ t text. Unit {0}) some.0 some.1 tt

-- ---- the run

module _ (wanted : Wanted) where
  pub starts : (a : SumRenderer) → wanted ≡ a.wanted → a.timed ≡ false → Knows wanted [] [] a.list a.sums → SumsAt a (first_sums wanted)
  unfolding IsStrictlySortedBy
  starts a own timed knows = record { wanted_is = own; timed_is = sym timed; knows = knows; rising = tt }

  pub follow : (packets : Option Packets) (parts : List Part) (items : List Placed) → ArePlaced packets 1 0 parts items → FollowRising (first_sums wanted) items
  follow packets parts items placed = placed_rise packets 1 0 parts items placed

  -- the table is of the messages, and of the calls that wait after them
  pub sums_all : (items : List Placed) (t : SumsState) (text last note : List ℕ) → MakesSums (first_sums wanted) items text t → EndsSums t last note → IsTableOf wanted items last × IsNote (lack_times wanted items) (numbered items) note
  sums_all items t text last note h e =
      let l : EndsSums (sums_after (first_sums wanted) items h.rows) last note = subst (λ (x : SumsState). EndsSums x last note) h.then e in
      let table = subst (λ (calls : List EndedCall). IsTable wanted.form (sums calls) last) (sym (ended_both members wanted h.rows l.0.0)) l.0.2 in
      ((h.rows ++ l.0.0, listed_end [] (numbered items) h.rows l.0.0 h.are l.0.1, table), (l.1, l.2, l.3))
