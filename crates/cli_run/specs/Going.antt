-- What is read and told of an input by settings, whatever takes its messages: whether refused
-- messages are explained, and whether they are passed over. most is how many reads may be made, and
-- is_check says whether an input without fault has a last line.
use Rattle.std.specs.Prelude.{◌≡◌, ◌≢◌, ℕ, zero, suc, ◌+◌, ◌-◌, Bool, true, false, List, [], ◌∷◌, ◌++◌, length, codes, decimal, Option, None, Some, is_some, ◌⊎◌, Result, Ok, Err}
use Rattle.std.specs.Option.{is_none}
use Rattle.std.specs.Io.KnownBytes.{Consumes, IsAtEnd}
use Rattle.dbus_value_model.specs.declared.fault.Fault.{Fault}
use Rattle.dbus_value_model.specs.declared.limits.Limits.{Limits}
use Rattle.cli_options.specs.declared.resync.Resync.TheVariants.{Within}
use Rattle.cli_options.specs.declared.settings.Settings.{Settings}
use Rattle.cli_report.specs.Telling.{IsJsonRefusal, IsToldBy}
use Rattle.cli_report.specs.declared.telling.RefusedMessage.{RefusedMessage}
use Rattle.cli_report.specs.declared.ending.ExitStatus.{ExitStatus}
use Rattle.cli_report.specs.declared.ending.ExitStatus.TheVariants as status
use Rattle.dbus_header.specs.MessageOutcomes.{IsRefused, IsPartial}
use Rattle.dbus_device.specs.Device.{one_more, RisesBy}
use Rattle.dbus_device.specs.Packets.{Packets}
use Rattle.dbus_stream.specs.Cut.{CutOutcome, IsOutcome}
use Rattle.dbus_stream.specs.CutEnds.{fault_at_end}
use Rattle.dbus_stream.specs.declared.read_fault.ReadFault.{ReadFault}
use Rattle.dbus_stream.specs.declared.read_fault.ReadFault.TheVariants as read
use Rattle.cli_report.specs.Devices.{Reading, RisesAtMost, Taken, Writing, taken}
use Rattle.cli_report.specs.declared.ending.Cause.{Cause}
use Rattle.cli_report.specs.declared.ending.Cause.TheVariants.{Memory, ReadFailed, WriteFailed, TooManyReads}
use Rattle.cli_run.specs.Inputs.{Part, Whole, PassedOver, size_of, sizes_of, reach_end, BeginWithParts, IsCutOff, IsLast, IsPassedBy, IsTellable, ArePlaced, Placed, looked_after, looked_in, seek_of}
use Rattle.cli_run.specs.Output.{ok_line, status_of}
use Rattle.cli_run.specs.declared.tally.Tally.{Tally}
use Rattle.cli_run.specs.Needed.{IsReadFor, ReadsOnlyIf, ReadsToSee, WantMore}
use Rattle.cli_run.specs.Refusals.{IsRefusedIn}
use Rattle.cli_run.specs.Told.{TellsStop}
use Rattle.cli_run.specs.Visiting.{AreWanted, FillsBy, IsOfReading}
use Rattle.cli_run.specs.declared.visitor.RunStop.{RunStop}
use Rattle.cli_run.specs.declared.visitor.RunStop.TheVariants.{Cause as ByCause, Untold}

-- What is told of the parts of an input, and of the rest, and how a run over them ends.

-- what is told of a refused message: a line of JSON; or its line, and then those that explain it,
-- if that is wanted
abbrev pub IsToldIn : (as_json goes_on explains : Bool) → Limits → RefusedMessage → (bytes text : List ℕ) → Type 0
IsToldIn true goes_on explains limits refusal bytes text = IsJsonRefusal limits refusal bytes text
IsToldIn false goes_on explains limits refusal bytes text = IsToldBy goes_on explains limits refusal bytes text

-- by these settings
abbrev pub IsTold : Settings → RefusedMessage → (bytes text : List ℕ) → Type 0
IsTold settings refusal bytes text = IsToldIn settings.as_json settings.keeps_going settings.explains settings.limits refusal bytes text

module _ (packets : Option Packets) (settings : Settings) where
  -- of the n-th one of an input, which begins at this offset: also the packet of its fault
  abbrev pub IsToldRefused : (n offset : ℕ) → (bytes : List ℕ) → Fault → List ℕ → Type 0
  IsToldRefused n offset bytes fault text = (packet : Option ℕ) × IsRefusedIn packets settings.limits offset bytes packet
      × IsTold settings (record { number = n; offset = offset; fault = fault; packet = packet }) bytes text

  -- what is told of a part: of a message nothing. One is passed over only if the run is to go on
  abbrev pub IsToldOf : (n offset looked : ℕ) → Part → List ℕ → Type 0
  IsToldOf n offset looked (Whole item) text = text ≡ []
  IsToldOf n offset looked (PassedOver front fault by size) text =
      (settings.keeps_going ≡ true) × IsPassedBy packets (seek_of settings.resync offset (looked + fault.at)) settings.limits offset front by size × IsToldRefused n offset front fault text

  -- of several
  abbrev pub AreTold : (n offset looked : ℕ) → List Part → List ℕ → Type 0
  AreTold n offset looked [] text = text ≡ []
  AreTold n offset looked (part ∷ parts) text = (one : List ℕ) × (more : List ℕ) × (text ≡ one ++ more)
      × IsToldOf n offset looked part one × AreTold (n + 1) (offset + size_of part) (looked_after part offset looked) parts more

  -- what is told of the fault of the rest after them
  abbrev pub IsToldLast : (n offset : ℕ) → (rest : List ℕ) → Option Fault → List ℕ → Type 0
  IsToldLast n offset rest None text = text ≡ []
  IsToldLast n offset rest (Some fault) text = IsToldRefused n offset rest fault text

-- how many parts are passed over, and how many bytes these have
abbrev pub passed_count : List Part → ℕ
passed_count [] = 0
passed_count (Whole item ∷ parts) = passed_count parts
passed_count (PassedOver front fault by size ∷ parts) = passed_count parts + 1

abbrev pub passed_sizes : List Part → ℕ
passed_sizes [] = 0
passed_sizes (Whole item ∷ parts) = passed_sizes parts
passed_sizes (PassedOver front fault by size ∷ parts) = passed_sizes parts + size

abbrev pub tally_of : List Part → Tally
tally_of parts = record { count = length parts; size = sizes_of parts; passed = passed_count parts; passed_size = passed_sizes parts; is_cut = false }

-- with one message more that is passed over, of which there are so many bytes: the input ends within
-- it, or in a capture with it
abbrev pub cut_tally : Tally → (there : ℕ) → (is_cut : Bool) → Tally
cut_tally t there is_cut = record { count = t.count + 1; size = t.size + there; passed = t.passed + 1; passed_size = t.passed_size + there; is_cut = is_cut }

-- of the parts, and of such a message after them if there is one
abbrev pub tally_with : (cut : Option (Option ℕ)) → List Part → (rest : List ℕ) → Tally
tally_with None parts rest = tally_of parts
tally_with (Some by) parts rest = cut_tally (tally_of parts) (length rest) (is_none by)

-- that the input ends within the last one
abbrev pub cut_text : Bool → List ℕ
cut_text false = []
cut_text true = codes ", the last one cut off"

-- how many messages of how many bytes are not passed over, and how many are
abbrev pub counts_line : Tally → List ℕ
counts_line t = decimal (t.count - t.passed) ++ (codes " messages " ++ (decimal (t.size - t.passed_size) ++ (codes " bytes, "
    ++ (decimal t.passed ++ (codes " passed over " ++ (decimal t.passed_size ++ (codes " bytes" ++ (cut_text t.is_cut ++ codes "\n"))))))))

-- the same as a line of JSON: an object of the messages that are not passed over and their bytes,
-- of those that are, and of whether the input ends within the last one. RFC 8259.
abbrev pub truth : Bool → List ℕ
truth false = codes "false"
truth true = codes "true"

abbrev pub counts_json : Tally → List ℕ
counts_json t = codes "{\"messages\":" ++ (decimal (t.count - t.passed) ++ (codes ",\"bytes\":" ++ (decimal (t.size - t.passed_size)
    ++ (codes ",\"passed_over\":" ++ (decimal t.passed ++ (codes ",\"passed_bytes\":" ++ (decimal t.passed_size
    ++ (codes ",\"cut_off\":" ++ (truth t.is_cut ++ codes "}\n")))))))))

-- in words, or as JSON
abbrev pub counts_in : (as_json : Bool) → (words : List ℕ) → Tally → List ℕ
counts_in false words t = words
counts_in true words t = counts_json t

-- the line of an input without fault, if there is one
abbrev pub whole_line : (as_json is_check : Bool) → Tally → List ℕ
whole_line as_json true t = counts_in as_json (ok_line t.count t.size) t
whole_line as_json false t = []

-- the last line: what was passed over, if anything was refused and the run is to go on; or that of
-- an input without fault
abbrev pub closing_line : (as_json is_check goes_on : Bool) → Tally → (passed : ℕ) → Option Fault → List ℕ
closing_line as_json is_check goes_on t zero None = whole_line as_json is_check t
closing_line as_json is_check false t zero (Some fault) = []
closing_line as_json is_check true t zero (Some fault) = counts_in as_json (counts_line t) t
closing_line as_json is_check goes_on t (suc n) fault = counts_in as_json (counts_line t) t

-- there is a last line: a message was passed over; or `check` found no fault; or a run that is to go
-- on found one
abbrev pub HasLastLine : (is_check goes_on : Bool) → (passed : ℕ) → Option Fault → Type 0
HasLastLine is_check goes_on passed fault = passed ≡ 0 → ((fault ≡ None) × (is_check ≡ true)) ⊎ ((is_some fault ≡ true) × (goes_on ≡ true))

-- anything was refused
abbrev pub status_at : (passed : ℕ) → Option Fault → ExitStatus
status_at zero fault = status_of fault
status_at (suc n) fault = status.Refused

-- why a run is given up by which a refused message is not passed over: the reader answers its fault
-- if it would have to hold bytes of packets
abbrev pub cause_of : ReadFault → Cause
cause_of read.Device = ReadFailed
cause_of read.TooManyReads = TooManyReads
cause_of fault = Memory

-- the source shows why it stopped
abbrev pub IsStopOf : Taken → (most : ℕ) → RunStop → Type 0
IsStopOf t most (ByCause ReadFailed) = t.failures1 ≡ one_more t.failures0
IsStopOf t most (ByCause TooManyReads) = (t.failures1 ≡ t.failures0) × RisesBy most t.calls0 t.calls1
IsStopOf t most stop = t.failures1 ≡ t.failures0

module _ (t : Taken) (settings : Settings) (most : ℕ) (is_check : Bool) where
  -- what was read is these parts and then the rest, and this is told of the parts
  pub record Covers (parts : List Part) (rest told : List ℕ) : Type 0 where
    pub bytes : List ℕ
    pub consumed : Consumes t.left0 t.left1 bytes
    pub called : RisesAtMost most t.calls0 t.calls1
    pub begin : BeginWithParts settings.limits bytes parts rest
    pub ends : reach_end parts ≡ true → IsAtEnd t.left1
    pub tells : AreTold t.packets settings 1 0 0 parts told

  -- this is told of the fault of the rest, if it has one
  pub record TellsRest (parts : List Part) (rest : List ℕ) (fault : Option Fault) (text : List ℕ) : Type 0 where
    pub outcome : CutOutcome
    pub outcome_is : IsOutcome settings.limits rest outcome
    pub fault_is : fault ≡ fault_at_end rest outcome
    pub told : IsToldLast t.packets settings (length parts + 1) (sizes_of parts) rest fault text

  -- all of the input was read, or all up to a message that is not passed over: this is told of its
  -- parts, and of the rest
  pub record IsThrough (tally : Tally) (fault : Option Fault) (told text : List ℕ) : Type 0 where
    pub parts : List Part
    pub rest : List ℕ
    pub covers : Covers parts rest told
    pub cut : Option (Option ℕ)
    pub tally_is : tally ≡ tally_with cut parts rest
    pub tells : TellsRest parts rest fault text
    pub last : IsLast t.packets cut settings settings.limits (sizes_of parts) (looked_in parts) rest tells.outcome (IsAtEnd t.left1)
    pub read_failed : t.failures1 ≡ t.failures0

  -- these texts are due after the parts: what is told of the fault of the rest, once it shows; and
  -- then the last line, if nothing follows
  abbrev pub AreDue : List Part → (rest more : List ℕ) → Type 0
  AreDue parts rest more = (fault : Option Fault) × (text : List ℕ) × (tells : TellsRest parts rest fault text)
      × ((IsTellable tells.outcome (IsAtEnd t.left1) × (more ≡ text))
      ⊎ ((cut : Option (Option ℕ)) × IsLast t.packets cut settings settings.limits (sizes_of parts) (looked_in parts) rest tells.outcome (IsAtEnd t.left1)
      × (more ≡ text ++ closing_line settings.as_json is_check settings.keeps_going (tally_with cut parts rest) (tally_with cut parts rest).passed fault)))

  -- all is told but the last line
  abbrev pub LacksLast : List Part → (rest more : List ℕ) → Type 0
  LacksLast parts rest more = (fault : Option Fault) × (tells : TellsRest parts rest fault more)
      × (cut : Option (Option ℕ)) × IsLast t.packets cut settings settings.limits (sizes_of parts) (looked_in parts) rest tells.outcome (IsAtEnd t.left1) × HasLastLine is_check settings.keeps_going (tally_with cut parts rest).passed fault

  -- a refused message was told, of which not all bytes came
  abbrev pub IsHalfPassed : List Part → (rest more : List ℕ) → Type 0
  IsHalfPassed parts rest more = (fault : Fault) × IsRefused settings.limits rest fault × (by : Option ℕ) × IsCutOff t.packets (seek_of settings.resync (sizes_of parts) (looked_in parts + fault.at)) settings.limits (sizes_of parts) rest by
      × (settings.keeps_going ≡ true) × IsToldLast t.packets settings (length parts + 1) (sizes_of parts) rest (Some fault) more

  -- one was told, and it is looked for where messages begin again, or passed over since that is nowhere
  abbrev pub IsSought : List Part → (rest more : List ℕ) → Type 0
  IsSought parts rest more = (fault : Fault) × TellsRest parts rest (Some fault) more × (settings.keeps_going ≡ true) × (window : ℕ) × (settings.resync ≡ Within window)

  -- all that was read was taken and told: the rest is neither a message nor refused, or a refused
  -- message was told, and is to be passed over
  abbrev pub IsAllOf : List Part → (rest more : List ℕ) → Type 0
  IsAllOf parts rest more = (IsPartial settings.limits rest × (more ≡ [])) ⊎ (IsHalfPassed parts rest more ⊎ IsSought parts rest more)

-- a message that is passed over is not the last part
abbrev pub EndsWhole : List Part → Type 0
EndsWhole [] = Unit {0}
EndsWhole (Whole item ∷ parts) = EndsWhole parts
EndsWhole (PassedOver front fault by size ∷ parts) = (parts ≢ []) × EndsWhole parts

-- filled says of messages whether no more are wanted after them
module _ (t : Taken) (settings : Settings) (most : ℕ) (is_check : Bool) (filled : List Placed → Bool → Type 0) where
  -- the last line is due after the parts, since no more is wanted after their messages: nothing
  -- after the last one is looked at
  abbrev pub IsEnough : List Part → List Placed → (more : List ℕ) → Type 0
  IsEnough parts messages more = EndsWhole parts × filled messages true × (more ≡ closing_line settings.as_json is_check settings.keeps_going (tally_of parts) (passed_count parts) None)

  -- this was told after the parts, or was to be told if a write of it failed
  abbrev pub IsMore : RunStop → List Part → (rest : List ℕ) → List Placed → (more : List ℕ) → Type 0
  IsMore (ByCause Memory) parts rest messages more = (more ≡ []) ⊎ (LacksLast t settings most is_check parts rest more ⊎ IsSought t settings most is_check parts rest more)
  IsMore (ByCause ReadFailed) parts rest messages more = IsAllOf t settings most is_check parts rest more
  IsMore (ByCause WriteFailed) parts rest messages more = more ≡ []
  IsMore (ByCause TooManyReads) parts rest messages more = IsAllOf t settings most is_check parts rest more
  IsMore Untold parts rest messages more = AreDue t settings most is_check parts rest more ⊎ IsEnough parts messages more

  -- some of the first parts were taken, and told, each message when more were wanted; and so was
  -- each read made. left says what became of them
  pub record StopsWithin (left : List Placed → (told : List ℕ) → RunStop → Type 0) (stop : RunStop) : Type 0 where
    pub parts : List Part
    pub rest : List ℕ
    pub told : List ℕ
    pub covers : Covers t settings most is_check parts rest told
    pub messages : List Placed
    pub placed : ArePlaced t.packets 1 0 parts messages
    pub wanted : AreWanted filled [] messages
    pub unfilled : IsOfReading stop → filled messages false
    pub more : List ℕ
    pub all : IsMore stop parts rest messages more
    pub caused : IsStopOf t most stop
    pub came : left messages (told ++ more) stop

  -- all was taken and told, each message when more were wanted, as they are after the last one too;
  -- and then the last line. done says what became of it
  pub record GoesThrough (done : List Placed → (told : List ℕ) → Type 0) (end : ExitStatus) : Type 0 where
    pub tally : Tally
    pub fault : Option Fault
    pub told : List ℕ
    pub text : List ℕ
    pub through : IsThrough t settings most is_check tally fault told text
    pub messages : List Placed
    pub placed : ArePlaced t.packets 1 0 through.parts messages
    pub wanted : AreWanted filled [] messages
    pub unfilled : filled messages false
    pub came : done messages (told ++ text ++ closing_line settings.as_json is_check settings.keeps_going tally tally.passed fault)
    pub end_is : end ≡ status_at tally.passed fault

  -- the first parts were taken and told, up to the message after which no more were wanted; and
  -- then the last line, of these parts. done says what became of it, and needed whether so many
  -- bytes were needed of the input
  pub record GoesFar (needed : (size : ℕ) → Type 0) (done : List Placed → (told : List ℕ) → Type 0) (end : ExitStatus) : Type 0 where
    pub parts : List Part
    pub rest : List ℕ
    pub told : List ℕ
    pub line : List ℕ
    pub covers : Covers t settings most is_check parts rest told
    pub messages : List Placed
    pub placed : ArePlaced t.packets 1 0 parts messages
    pub wanted : AreWanted filled [] messages
    pub enough : IsEnough parts messages line
    -- a read was made only if more bytes than had come were wanted for them
    pub reads : ReadsOnlyIf (WantMore settings.limits 0 parts) needed
    pub read_failed : t.failures1 ≡ t.failures0
    pub came : done messages (told ++ line)
    pub end_is : end ≡ status_at (passed_count parts) None

  -- it was given up, and the second writer was told why
  pub record GivesUp {E : Type 0} (e : Writing E) (left : E → List Placed → (told : List ℕ) → RunStop → Type 0) (end : ExitStatus) : Type 0 where
    pub failed : end ≡ status.Failed
    pub stop : RunStop
    pub before : E
    pub within : StopsWithin (left before) stop
    pub tells : TellsStop e.held e.failures is_check stop before e.new

  -- all was taken and told, and no more was read to see that; or as much as was wanted
  abbrev pub Goes : (needed : (size : ℕ) → Type 0) → (done : List Placed → (told : List ℕ) → Type 0) → (end : ExitStatus) → Type 0
  Goes needed done end = ((g : GoesThrough done end) × ReadsToSee settings g.fault g.through.parts g.through.rest needed) ⊎ GoesFar needed done end

module _ {R : Type 0} (r : Reading R) (settings : Settings) (most : ℕ) (is_check : Bool) {S : Type 0} (takes : S → S → List Placed → (told : List ℕ) → Type 0) (leaves : S → S → List Placed → (told : List ℕ) → RunStop → Type 0)
    (full : S → Bool) (s0 s1 : S) where
  abbrev pub PassesAll : Result ExitStatus RunStop → Type 0
  PassesAll (Ok end) = Goes (taken r) settings most is_check (FillsBy takes full s0) (IsReadFor r) (takes s0 s1) end
  PassesAll (Err stop) = StopsWithin (taken r) settings most is_check (FillsBy takes full s0) (leaves s0 s1) stop

module _ {S : Type 0} (takes : S → S → List Placed → (told : List ℕ) → Type 0) (leaves : S → S → List Placed → (told : List ℕ) → RunStop → Type 0) where
  -- the last line was told, if there is one, and this is the status; or a write of it failed; or
  -- for want of memory it was not told
  abbrev pub Closes : (as_json is_check goes_on : Bool) → Tally → Option Fault → S → S → Result ExitStatus RunStop → Type 0
  Closes as_json is_check goes_on tally fault a b (Ok end) = takes a b [] (closing_line as_json is_check goes_on tally tally.passed fault) × (end ≡ status_at tally.passed fault)
  Closes as_json is_check goes_on tally fault a b (Err (ByCause Memory)) = (b ≡ a) × HasLastLine is_check goes_on tally.passed fault
  Closes as_json is_check goes_on tally fault a b (Err (ByCause cause)) = ⊥
  Closes as_json is_check goes_on tally fault a b (Err Untold) = leaves a b [] (closing_line as_json is_check goes_on tally tally.passed fault) Untold
