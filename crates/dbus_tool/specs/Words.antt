-- What the program does for the words of its command line.
use Rattle.std.specs.Prelude.{◌≡◌, ℕ, List, ◌++◌, Bool, true, false, codes, decimal, string_bytes, ◌⊎◌, ◌^◌, ◌&&◌, Option, Result, Ok, Err, IfOk, if◌then◌else◌}
use Rattle.dbus_rule.specs.declared.fault.RuleReason.{RuleReason}
use Rattle.dbus_rule.specs.Faults.{rule_reason_text}
use Rattle.cli_options.specs.declared.usage_fault.RefusedRule.{RefusedRule}
use Rattle.dbus_explain.specs.Explained.{IsExplainedRule}
use Rattle.clap.specs.Words.{Text}
use Rattle.dbus_device.specs.Device.{Wrote, Stopped, WritesAll}
use Rattle.dbus_device.specs.Packets.{Packets}
use Rattle.dbus_device.specs.declared.packet.Packet.{Packet}
use Rattle.dbus_device.specs.declared.writing.WrittenOnly.{WrittenOnly}
use Rattle.cli_options.specs.Named.{IsNamedBy}
use Rattle.cli_options.specs.Told.{TellsFault}
use Rattle.cli_options.specs.Owners.{lacks_owner}
use Rattle.cli_run.specs.ByName.{CountsByName}
use Rattle.cli_run.specs.CallListing.{ListsCalls}
use Rattle.cli_run.specs.CallSumming.{SumsCalls}
use Rattle.cli_run.specs.LineListing.{ListsLines}
use Rattle.cli_encode.specs.Runs.{EncodesLines}
use Rattle.cli_encode.specs.declared.encoding.Encoding.{Encoding}
use Rattle.cli_report.specs.Devices.{Reading, Writing, writing}
use Rattle.cli_run.specs.Running.{RunsWith}
use Rattle.cli_report.specs.Telling.{Told}
use Rattle.dbus_handshake_input.specs.declared.fault.HandshakeFault.{HandshakeFault}
use Rattle.dbus_handshake_input.specs.declared.read_ahead.ReadAhead.{ReadAhead}
use Rattle.cli_options.specs.declared.asked.Asked.{Asked}
use Rattle.cli_options.specs.declared.asked.Asked.TheVariants.{Messages, Encode, Handshake}
use Rattle.cli_options.specs.declared.command.Request.{Request}
use Rattle.cli_options.specs.declared.command.Task.{Task}
use Rattle.cli_options.specs.declared.command.Task.TheVariants.{Write, Count, Lines, Calls}
use Rattle.cli_options.specs.declared.selection.Selection.{Selection}
use Rattle.dbus_call_lines.specs.declared.form.Form.TheVariants.{Text as InWords, Json as InJson}
use Rattle.dbus_call_lines.specs.declared.wanted.Wanted.{Wanted}
use Rattle.cli_options.specs.declared.settings.Settings.{Settings}
use Rattle.cli_options.specs.declared.wanted_calls.WantedCalls.{WantedCalls}
use Rattle.cli_options.specs.declared.wanted_encoding.WantedEncoding.{WantedEncoding}
use Rattle.cli_options.specs.declared.usage_fault.UsageFault.{UsageFault}
use Rattle.cli_options.specs.declared.usage_fault.UsageFault.TheVariants.{Memory, Help, Version, Usage, Rule}
use Rattle.cli_report.specs.declared.ending.ExitStatus.{ExitStatus}
use Rattle.cli_report.specs.declared.ending.ExitStatus.TheVariants as status
use Rattle.cli_report.specs.declared.ending.Cause.TheVariants as cause
use Rattle.dbus_tool.specs.Handshaking.{Shows, StopsBy, TakesHandshake, TellsHandshake, ahead, Lists}

-- What is written of a rule that is refused.

-- the offset of a rule's fault and its reason
abbrev pub rule_line : ℕ → RuleReason → List ℕ
rule_line at why = codes "rule refused at " ++ (decimal at ++ (codes ": " ++ (rule_reason_text why ++ codes "\n")))

-- that line, and then what explains it, if that is wanted
abbrev pub IsRuleToldBy : (explains : Bool) → (rule : List ℕ) → (at : ℕ) → RuleReason → List ℕ → Type 0
IsRuleToldBy false rule at why text = text ≡ rule_line at why
IsRuleToldBy true rule at why text = (explained : List ℕ) × IsExplainedRule rule at explained × (text ≡ rule_line at why ++ explained)

abbrev pub IsRuleTold : RefusedRule → List ℕ → Type 0
IsRuleTold refused text = IsRuleToldBy refused.explains (string_bytes refused.text) refused.at refused.reason text

-- the rule's fault was told, or a write failed; or memory was wanted
abbrev pub RefusesRule : {E : Type 0} → (E → Option (List ℕ)) → (E → ℕ) → RefusedRule → E → E → ExitStatus → Type 0
RefusesRule held failures refused old new end = ((text : List ℕ) × IsRuleTold refused text × Shows held failures old new status.Usage text end)
    ⊎ StopsBy held failures old new cause.Memory end

-- the text was written, or a write failed after its first bytes, which the second writer was told
abbrev pub ShowsText : {W E : Type 0} → Writing W → Writing E → List ℕ → ExitStatus → Type 0
ShowsText w e text end = ((end ≡ status.Done) × Wrote w.held w.failures w.old text w.new × (e.new ≡ e.old))
    ⊎ ((end ≡ status.Failed) × Told e.held e.failures e.old e.new cause.WriteFailed × (n : ℕ) × Stopped w.held w.failures w.old text n w.new)

-- the list that `calls` asks for
abbrev pub calls_wanted : (as_json : Bool) → WantedCalls → Wanted
calls_wanted as_json wanted = record { form = if as_json then InJson else InWords; unanswered = wanted.unanswered; errors = wanted.errors; slower = wanted.slower }

-- how lines are encoded, as `encode` asks for it
abbrev pub encoding_wanted : WantedEncoding → Encoding
encoding_wanted wanted = record { limits = wanted.limits; order = wanted.order; safe_integers = wanted.safe_integers; explains = wanted.explains; keeps_going = wanted.keeps_going; most = wanted.max_line }

-- calls are summed up by their members, or listed
abbrev pub DoesCalls : {R W E : Type 0} → Reading R → Writing W → Writing E → Settings → (by_member : Bool) → Wanted → ExitStatus → Type 0
DoesCalls r w e settings true wanted end = SumsCalls r w e settings wanted (2 ^ 32) end
DoesCalls r w e settings false wanted end = ListsCalls r w e settings wanted (2 ^ 32) end

-- what is done with the messages that are selected, by settings: something is written of each, they
-- are counted by their names, they are listed, or their calls are listed or summed up
abbrev pub DoesBy : {R W E : Type 0} → Reading R → Writing W → Writing E → Settings → Option Selection → Task → ExitStatus → Type 0
DoesBy r w e settings selection (Write output) end = RunsWith r w e settings (2 ^ 32) (record { output = output; selection = selection }) end
DoesBy r w e settings selection Count end = CountsByName r w e settings selection (2 ^ 32) end
DoesBy r w e settings selection (Lines width) end = ListsLines r w e settings (record { selection = selection; width = width }) (2 ^ 32) end
DoesBy r w e settings selection (Calls wanted) end = DoesCalls r w e settings wanted.by_member (calls_wanted settings.as_json wanted) end

-- what is said of a rule whose sender has no owner
abbrev pub owner_note : List ℕ
owner_note = codes "note: no owner is known for a rule's sender; --owner NAME=UNIQUE gives one, and --learn-owners takes them from the input\n"

-- it was written, if it is due, or a write of it failed
abbrev pub Notes : {E : Type 0} → (E → Option (List ℕ)) → (E → ℕ) → (is_due : Bool) → E → E → Result (Unit {0}) WrittenOnly → Type 0
Notes held failures false old new (Ok x) = new ≡ old
Notes held failures false old new (Err n) = ⊥
Notes held failures true old new result = WritesAll held failures old owner_note new result

module _ {R W E : Type 0} (left : R → Option (List ℕ)) (calls failures : R → ℕ) (packets : R → Option Packets) (packet : R → Option Packet) (old new : ReadAhead R) (w : Writing W) (e : Writing E) where
  -- what is asked for is done with all that the reader gives, or with what follows the handshake of
  -- a side; or none was read, which was told
  abbrev pub DoesTask : Request → ExitStatus → Type 0
  DoesTask request end =
      ((begun : ReadAhead R) × TakesHandshake left calls failures packets packet request.settings.handshake old begun (Ok tt) × DoesBy (ahead left calls failures packets packet begun new) w e request.settings request.selection request.task end)
      ⊎ ((why : HandshakeFault) × TakesHandshake left calls failures packets packet request.settings.handshake old new (Err why) × (w.new ≡ w.old) × TellsHandshake e.held e.failures e.old e.new why end)

-- a note is due: an owner is not known, and explanations are asked for
abbrev pub is_noted : Request → Bool
is_noted request = request.settings.explains && lacks_owner request.selection

module _ {R W E : Type 0} (left : R → Option (List ℕ)) (calls failures : R → ℕ) (packets : R → Option Packets) (packet : R → Option Packet) (old new : ReadAhead R) (w : Writing W) (e : Writing E) where
  -- the note is written before the task is done, if it is due; or a write of it failed
  abbrev pub RunsNoted : Request → ExitStatus → Type 0
  RunsNoted request end =
      ((begun : E) × Notes e.held e.failures (is_noted request) e.old begun (Ok tt)
      × DoesTask left calls failures packets packet old new w (writing e.held e.failures begun e.new) request end)
      ⊎ ((new ≡ old) × (w.new ≡ w.old) × (end ≡ status.Failed) × (n : WrittenOnly) × Notes e.held e.failures (is_noted request) e.old e.new (Err n))

  -- what is done for messages, for `encode`, for the side whose handshake is listed, or for words
  -- that name nothing
  abbrev pub Does : Result Asked UsageFault → ExitStatus → Type 0
  Does (Ok (Messages request)) end = RunsNoted request end
  Does (Ok (Encode wanted)) end = EncodesLines (ahead left calls failures packets packet old new) w e (encoding_wanted wanted) (2 ^ 32) end
  Does (Ok (Handshake side)) end = Lists left calls failures packets packet old new w e side end
  Does (Err Memory) end = (new ≡ old) × (w.new ≡ w.old) × StopsBy e.held e.failures e.old e.new cause.Memory end
  Does (Err (Help text)) end = (new ≡ old) × ShowsText w e (string_bytes text) end
  Does (Err (Version text)) end = (new ≡ old) × ShowsText w e (string_bytes text) end
  Does (Err (Usage text)) end = (new ≡ old) × (w.new ≡ w.old) × Shows e.held e.failures e.old e.new status.Usage (string_bytes text) end
  Does (Err (Rule refused)) end = (new ≡ old) × (w.new ≡ w.old) × RefusesRule e.held e.failures refused e.old e.new end

  -- the words were told from one another, and it did what they say
  pub record RunsWords (words : List Text) (end : ExitStatus) : Type 0 where
    pub answer : Result Asked UsageFault
    pub named : IfOk answer (IsNamedBy words)
    pub told : TellsFault words answer
    pub does : Does answer end
