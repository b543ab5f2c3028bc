-- What the writers got of a run, by what became of a writer of an output.
use Rattle.std.proofs.Common.{◌≡◌, ℕ, ◌+◌, Bool, true, false, List, [], None, Option, inl, inr, refl, sym, subst, arith}
use Rattle.std.proofs.KnownBytes.{Consumes-nil}
use Rattle.std.proofs.lemmas.Bool.{false≢true}
use Rattle.dbus_device.specs.Device.{Wrote}
use Rattle.dbus_device.specs.Packets.{Packets}
use Rattle.cli_options.specs.declared.settings.Settings.{Settings}
use Rattle.cli_report.specs.Devices.{Taken, reading, taken, writing}
use Rattle.cli_report.proofs.GatherSteps.{passes_unwritten, passes_whole}
use Rattle.cli_report.specs.Telling.{Told}
use Rattle.cli_report.specs.declared.ending.Cause.TheVariants.{Memory, ReadFailed, WriteFailed, TooManyReads}
use Rattle.cli_report.specs.declared.ending.ExitStatus.{ExitStatus}
use Rattle.cli_report.specs.declared.ending.ExitStatus.TheVariants as status
use Rattle.cli_run.specs.Going.{GivesUp, Goes, GoesFar, GoesThrough, IsMore, StopsWithin}
use Rattle.cli_run.specs.Inputs.{ArePlaced, Part, Placed}
use Rattle.cli_run.specs.Making.{LeavesMade}
use Rattle.cli_run.specs.Needed.{ReadsToSee, WantMore, WantToSee}
use Rattle.cli_run.specs.OutputWriting.{LeavesFirst}
use Rattle.cli_run.specs.Told.{GotFirst, IsUnwritten}
use Rattle.cli_run.specs.Visiting.{WantsAll}
use Rattle.cli_run.specs.VisitorLaws.{first_nothing, told_nothing, wrote_nothing}
use Rattle.cli_run.specs.declared.visitor.RunStop.{RunStop}
use Rattle.cli_run.specs.declared.visitor.RunStop.TheVariants.{Cause as ByCause, Untold}
use Rattle.cli_run.proofs.NeededSteps.{reads_as}
use Rattle.cli_run.proofs.Wanted.{wanted_as}

-- what more follows a stop is said otherwise
more_as : (t : Taken) (settings : Settings) (most : ℕ) (is_check : Bool) {F G : List Placed → Bool → Type 0} → ((l : List Placed) (b : Bool) → F l b → G l b) → (stop : RunStop) (parts : List Part) (rest : List ℕ) (messages : List Placed) (more : List ℕ)
    → IsMore t settings most is_check F stop parts rest messages more → IsMore t settings most is_check G stop parts rest messages more
more_as t settings most is_check to (ByCause Memory) parts rest messages more a = a
more_as t settings most is_check to (ByCause ReadFailed) parts rest messages more a = a
more_as t settings most is_check to (ByCause WriteFailed) parts rest messages more a = a
more_as t settings most is_check to (ByCause TooManyReads) parts rest messages more a = a
more_as t settings most is_check to Untold parts rest messages more a = elim a [ inl due ↦ inl due | inr enough ↦ inr (enough.0, to messages true enough.1, enough.2) ]

-- what became of it is said otherwise
abbrev pub goes_as : {t : Taken} {settings : Settings} {most : ℕ} {is_check : Bool} {F G : List Placed → Bool → Type 0} {P Q : List Placed → (told : List ℕ) → Type 0} {end : ExitStatus} → ((l : List Placed) (b : Bool) → F l b → G l b)
    → ((parts : List Part) (items : List Placed) (told : List ℕ) → ArePlaced t.packets 1 0 parts items → P items told → Q items told) → GoesThrough t settings most is_check F P end → GoesThrough t settings most is_check G Q end
goes_as to f g = record {
  tally = g.tally;
  fault = g.fault;
  told = g.told;
  text = g.text;
  through = g.through;
  messages = g.messages;
  placed = g.placed;
  wanted = wanted_as to [] g.messages g.wanted;
  unfilled = to g.messages false g.unfilled;
  came = f g.through.parts g.messages _ g.placed g.came;
  end_is = g.end_is;
}

far_as : {t : Taken} {settings : Settings} {most : ℕ} {is_check : Bool} {F G : List Placed → Bool → Type 0} {N M : (size : ℕ) → Type 0} {P Q : List Placed → (told : List ℕ) → Type 0} {end : ExitStatus} → ((l : List Placed) (b : Bool) → F l b → G l b) → ((size : ℕ) → N size → M size)
    → ((parts : List Part) (items : List Placed) (told : List ℕ) → ArePlaced t.packets 1 0 parts items → P items told → Q items told) → GoesFar t settings most is_check F N P end → GoesFar t settings most is_check G M Q end
far_as {t} {settings} to reads f g = record {
  parts = g.parts;
  rest = g.rest;
  told = g.told;
  line = g.line;
  covers = g.covers;
  messages = g.messages;
  placed = g.placed;
  wanted = wanted_as to [] g.messages g.wanted;
  enough = (g.enough.0, to g.messages true g.enough.1, g.enough.2);
  reads = reads_as (WantMore settings.limits 0 g.parts) reads g.reads;
  read_failed = g.read_failed;
  came = f g.parts g.messages _ g.placed g.came;
  end_is = g.end_is;
}

pub ends_as : {t : Taken} {settings : Settings} {most : ℕ} {is_check : Bool} {F G : List Placed → Bool → Type 0} {N M : (size : ℕ) → Type 0} {P Q : List Placed → (told : List ℕ) → Type 0} {end : ExitStatus} → ((l : List Placed) (b : Bool) → F l b → G l b) → ((size : ℕ) → N size → M size)
    → ((parts : List Part) (items : List Placed) (told : List ℕ) → ArePlaced t.packets 1 0 parts items → P items told → Q items told) → Goes t settings most is_check F N P end → Goes t settings most is_check G M Q end
ends_as {t} {settings} to reads f g = elim g [
  | inl (through, seen) ↦ inl (goes_as to f through, λ faultless. reads_as (WantToSee settings.limits through.through.parts through.through.rest) reads (seen faultless))
  | inr far ↦ inr (far_as to reads f far)
]

pub stops_as : {t : Taken} {settings : Settings} {most : ℕ} {is_check : Bool} {F G : List Placed → Bool → Type 0} {P Q : List Placed → (told : List ℕ) → RunStop → Type 0} {stop : RunStop} → ((l : List Placed) (b : Bool) → F l b → G l b)
    → ((parts : List Part) (items : List Placed) (told : List ℕ) → ArePlaced t.packets 1 0 parts items → P items told stop → Q items told stop) → StopsWithin t settings most is_check F P stop → StopsWithin t settings most is_check G Q stop
stops_as {t} {settings} {most} {is_check} {F} {G} {P} {Q} {stop} to f s = record {
  parts = s.parts;
  rest = s.rest;
  told = s.told;
  covers = s.covers;
  messages = s.messages;
  placed = s.placed;
  wanted = wanted_as to [] s.messages s.wanted;
  unfilled = λ reads. to s.messages false (s.unfilled reads);
  more = s.more;
  all = more_as t settings most is_check to stop s.parts s.rest s.messages s.more s.all;
  caused = s.caused;
  came = f s.parts s.messages _ s.placed s.came;
}

-- what became of it, however far it went
pub taken_by : {t : Taken} {settings : Settings} {most : ℕ} {is_check : Bool} {F : List Placed → Bool → Type 0} {N : (size : ℕ) → Type 0} {P : List Placed → (told : List ℕ) → Type 0} {end : ExitStatus} → Goes t settings most is_check F N P end
    → (items : List Placed) × (told : List ℕ) × P items told
taken_by g = elim g [ inl (through, seen) ↦ (through.messages, _, through.came) | inr far ↦ (far.messages, _, far.came) ]

-- it went through, if it wants all messages
pub through_by : {t : Taken} {settings : Settings} {most : ℕ} {is_check : Bool} {F : List Placed → Bool → Type 0} {N : (size : ℕ) → Type 0} {P : List Placed → (told : List ℕ) → Type 0} {end : ExitStatus} → ((l : List Placed) (b : Bool) → F l b → WantsAll l b)
    → Goes t settings most is_check F N P end → (g : GoesThrough t settings most is_check F P end) × ReadsToSee settings g.fault g.through.parts g.through.rest N
through_by all g = elim g [ inl through ↦ through | inr far ↦ absurd (false≢true (sym (all far.messages true far.enough.1))) ]

-- what the first writer got, if nothing was gathered before
pub got_first : {W : Type 0} (held : W → Option (List ℕ)) (failures : W → ℕ) (w0 w1 : W) (c : Bool) (stop : RunStop) (bytes : List ℕ) → LeavesFirst held failures c stop bytes [] w0 w1 → GotFirst held failures c stop bytes w0 w1
got_first held failures w0 w1 c (ByCause WriteFailed) bytes p = p
got_first held failures w0 w1 c (ByCause cause) bytes p = passes_whole held failures bytes [] [] w0 w1 refl refl p
got_first held failures w0 w1 true Untold bytes p = p
got_first held failures w0 w1 false Untold bytes p = passes_whole held failures bytes [] [] w0 w1 refl refl p

-- of nothing, no write was made, and so none failed
pub got_nothing : {W : Type 0} (held : W → Option (List ℕ)) (failures : W → ℕ) (w0 w1 : W) (c : Bool) (stop : RunStop) (bytes : List ℕ) → LeavesFirst held failures c stop bytes [] w0 w1 → bytes ≡ [] → IsUnwritten stop × (w1 ≡ w0)
got_nothing held failures w0 w1 c (ByCause WriteFailed) bytes p nothing = absurd (p.some nothing)
got_nothing held failures w0 w1 c (ByCause cause) bytes p nothing = (tt, passes_unwritten held failures bytes [] [] w0 w1 refl nothing p)
got_nothing held failures w0 w1 true Untold bytes p nothing = absurd (p.some nothing)
got_nothing held failures w0 w1 false Untold bytes p nothing = (tt, passes_unwritten held failures bytes [] [] w0 w1 refl nothing p)

-- nothing is read for want of memory
pub unread : {S R W E : Type 0} (makes : S → List Placed → List ℕ → S → Type 0) (s : S) (filled : List Placed → Bool → Type 0) (is_check : Bool) (left : R → Option (List ℕ)) (calls read_failures : R → ℕ) (packets : R → Option Packets) (r : R) (held : W → Option (List ℕ)) (failures : W → ℕ) (w : W)
    (second_held : E → Option (List ℕ)) (second_failures : E → ℕ) (e0 e1 : E) (settings : Settings) (most : ℕ) (end : ExitStatus) → makes s [] [] s → end ≡ status.Failed → Told second_held second_failures e0 e1 Memory
    → GivesUp (taken (reading left calls read_failures packets r r)) settings most is_check filled (writing second_held second_failures e0 e1) (λ before. LeavesMade makes s is_check (writing held failures w w) (writing second_held second_failures e0 before)) end
unread makes s filled is_check left calls read_failures packets r held failures w second_held second_failures e0 e1 settings most end nothing failed told = record {
  failed = failed;
  stop = ByCause Memory;
  before = e0;
  within = record {
    parts = [];
    rest = [];
    told = [];
    covers = record { bytes = []; consumed = Consumes-nil (left r); called = (0, omega arith, omega arith); begin = refl; ends = λ e. absurd (false≢true e); tells = refl };
    more = [];
    all = inl refl;
    caused = refl;
    messages = [];
    placed = refl;
    wanted = tt;
    unfilled = λ never. absurd never;
    came = record {
      then = s;
      text = [];
      made = nothing;
      first = subst (λ (l : List ℕ). Wrote held failures w l w) (sym (first_nothing is_check)) (wrote_nothing held failures w);
      still = λ none. (tt, refl);
      second = told_nothing second_held second_failures is_check e0 e0 refl;
    };
  };
  tells = told;
}
