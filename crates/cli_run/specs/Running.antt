-- What a command does with what it reads, what it writes of it, and why it gives up. limits are
-- those that each message keeps, and most is how many reads may be made.
use Rattle.std.specs.Prelude.{◌⊎◌, ℕ, List, None, ◌≡◌, ◌≢◌, Option}
use Rattle.dbus_device.specs.Device.{Wrote, Stopped, one_more}
use Rattle.dbus_device.specs.Packets.{Packets}
use Rattle.dbus_value_model.specs.declared.limits.Limits.{Limits}
use Rattle.cli_options.specs.declared.command.Command.{Command}
use Rattle.cli_options.specs.declared.command.Output.TheVariants.{Nothing}
use Rattle.cli_options.specs.declared.settings.Settings.{Settings}
use Rattle.cli_run.specs.Going.{IsStopOf}
use Rattle.cli_run.specs.Inputs.{ArePlaced, Placed, wholes}
use Rattle.cli_run.specs.Learning.{known}
use Rattle.cli_run.specs.Output.{IsOutputOfAll, form_of, is_check, IsFirstOutput, IsFront, second_output, status_of, whole_output}
use Rattle.cli_run.specs.Making.{LeavesMade, RunsBy, WritesMade}
use Rattle.cli_run.specs.Needed.{IsReadFor, ReadsOnlyIf, WantToSee}
use Rattle.cli_run.specs.Refusals.{IsFaultIn}
use Rattle.cli_run.specs.Rendering.{Makes, first_state, is_full}
use Rattle.cli_report.specs.Devices.{Reading, Writing, taken, RisesAtMost}
use Rattle.cli_report.specs.declared.ending.ExitStatus.{ExitStatus}
use Rattle.cli_run.specs.declared.visitor.RunStop.{RunStop}
use Rattle.std.specs.Io.KnownBytes.{Appends, Consumes, IsAtEnd}
use Rattle.dbus_value_model.specs.declared.fault.Fault.{Fault}
use Rattle.dbus_header.specs.MessageOutcomes.{IsPartial}
use Rattle.dbus_stream.specs.Cut.{CutMessage, BeginWith, IsCut, CutOutcome, Refused}
use Rattle.dbus_stream.specs.CutEnds.{fault_at_end, sizes}
use Rattle.cli_report.specs.Telling.{Told}
use Rattle.cli_report.specs.declared.ending.ExitStatus.TheVariants as status
use Rattle.cli_report.specs.declared.ending.Cause.{Cause}
use Rattle.cli_report.specs.declared.ending.Cause.TheVariants.{ReadFailed, WriteFailed, TooManyReads}
use Rattle.cli_run.specs.declared.visitor.RunStop.TheVariants.{Cause as ByCause}

-- the second writer got this line, and the status is that of the fault; or a write failed after the
-- first bytes of the line
abbrev pub TellsLine : {E : Type 0} → Writing E → List ℕ → Option Fault → ExitStatus → Type 0
TellsLine e line fault end = (Wrote e.held e.failures e.old line e.new × (end ≡ status_of fault))
    ⊎ ((n : ℕ) × Stopped e.held e.failures e.old line n e.new × (end ≡ status.Failed))

-- what the command makes of all messages within the limits that the bytes begin with was written
pub record WritesMessages (packets : Option Packets) (limits : Limits) (command : Command) (bytes written : List ℕ) : Type 0 where
  pub items : List CutMessage
  pub rest : List ℕ
  pub messages : BeginWith limits bytes items rest
  pub partial : IsPartial limits rest
  pub handed : List Placed
  pub placed : ArePlaced packets 1 0 (wholes items) handed
  pub texts : List (List ℕ)
  pub output : IsOutputOfAll command (known command.selection None) handed texts
  pub written_is : written ≡ whole_output (form_of command.output) handed texts

-- where reading was given up, all messages that were read were written
abbrev pub WritesBefore : Option Packets → Limits → Command → Cause → List ℕ → List ℕ → Type 0
WritesBefore packets limits command ReadFailed bytes written = WritesMessages packets limits command bytes written
WritesBefore packets limits command TooManyReads bytes written = WritesMessages packets limits command bytes written
WritesBefore packets limits command cause bytes written = Unit {0}

-- a write counts as failed if that is the cause
abbrev pub CountsWrite : Cause → ℕ → ℕ → Type 0
CountsWrite WriteFailed old new = new ≡ one_more old
CountsWrite cause old new = new ≡ old

module _ {R W E : Type 0} (r : Reading R) (w : Writing W) (e : Writing E) (limits : Limits) (most : ℕ) (command : Command) where
  -- the first writer got what the command makes of what was read, and the second the line of its
  -- fault
  pub record Answers (end : ExitStatus) : Type 0 where
    pub bytes : List ℕ
    pub items : List CutMessage
    pub rest : List ℕ
    pub outcome : CutOutcome
    pub out : List ℕ
    pub consumed : Consumes (r.left r.old) (r.left r.new) bytes
    pub called : RisesAtMost most (r.calls r.old) (r.calls r.new)
    pub read_failed : r.failures r.new ≡ r.failures r.old
    pub cut : IsCut limits bytes items rest outcome
    -- without a fault that bytes show, all was read
    pub at_end : ((f : Fault) → outcome ≡ Refused f → ⊥) → IsAtEnd (r.left r.new)
    -- and no more was read once that showed
    pub reads : end ≢ status.Failed → ReadsOnlyIf (WantToSee limits (wholes items) rest) (IsReadFor r)
    pub packet : Option ℕ
    pub packet_is : IsFaultIn (r.packets r.old) limits (sizes items) rest (fault_at_end rest outcome) packet
    pub output : IsFirstOutput (r.packets r.old) command items (fault_at_end rest outcome) packet out
    pub first : Wrote w.held w.failures w.old out w.new
    pub second : TellsLine e (second_output command (sizes items) (fault_at_end rest outcome) packet) (fault_at_end rest outcome) end

  -- the first writer got a prefix of what the command makes of what was read
  pub record Fails (cause : Cause) : Type 0 where
    pub bytes : List ℕ
    pub written : List ℕ
    pub consumed : Consumes (r.left r.old) (r.left r.new) bytes
    pub called : RisesAtMost most (r.calls r.old) (r.calls r.new)
    pub appended : Appends (w.held w.old) (w.held w.new) written
    pub front : (items : List CutMessage) (rest : List ℕ) (outcome : CutOutcome) → IsCut limits bytes items rest outcome
        → IsFront (r.packets r.old) limits command items rest (fault_at_end rest outcome) written
    pub before : WritesBefore (r.packets r.old) limits command cause bytes written
    -- the devices count the one call that failed, or none
    pub read_caused : IsStopOf (taken r) most (ByCause cause)
    pub write_caused : CountsWrite cause (w.failures w.old) (w.failures w.new)

  -- and the second the cause
  pub record GaveUp (end : ExitStatus) : Type 0 where
    pub failed : end ≡ status.Failed
    pub cause : Cause
    pub fails : Fails cause
    pub told : Told e.held e.failures e.old e.new cause

-- what a command does with what r reads, by the writers w and e
abbrev pub Runs : {R W E : Type 0} → Reading R → Writing W → Writing E → Limits → ℕ → Command → ExitStatus → Type 0
Runs r w e limits most command end = Answers r w e limits most command end ⊎ GaveUp r w e limits most command end

-- `check` of all messages
abbrev pub check : Command
check = record { output = Nothing; selection = None }

-- what a command makes of messages was written, and this was told; and the same, as far as a stop
-- let it come
abbrev pub Writes : {W E : Type 0} → Writing W → Writing E → Settings → Command → List Placed → (told : List ℕ) → Type 0
Writes w e settings command = WritesMade Makes (first_state command settings.window) (is_check command.output) w e

abbrev pub WritesSome : {W E : Type 0} → Writing W → Writing E → Settings → Command → List Placed → (told : List ℕ) → RunStop → Type 0
WritesSome w e settings command = LeavesMade Makes (first_state command settings.window) (is_check command.output) w e

-- what a command does with what r reads, by the writers w and e, under these settings
abbrev pub RunsWith : {R W E : Type 0} → Reading R → Writing W → Writing E → Settings → ℕ → Command → ExitStatus → Type 0
RunsWith r w e settings most command end = RunsBy Makes (first_state command settings.window) is_full (is_check command.output) r w e settings most end
