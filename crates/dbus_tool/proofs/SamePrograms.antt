-- Two runs of the program by words that name one way, over the same input, end alike.
use Rattle.std.proofs.Common.{◌≡◌, ◌≢◌, ◌+◌, ℕ, Bool, true, false, ◌&&◌, List, [], ◌∷◌, ◌++◌, length, None, Some, Option, Result, Ok, Err, IfOk, string_bytes, codes, refl, sym, ap, ◌∙◌, subst, arith, inl, inr, append-nil}
use Rattle.std.proofs.Math.Path.{fun_ext, transport}
use Rattle.std.specs.Io.KnownBytes.{Appends}
use Rattle.std.specs.declared.alloc.Global.{Global}
use Rattle.clap.specs.Words.{Row, Text, subcommand_of}
use Rattle.clap.specs.Kinds.{IsAmong}
use Rattle.clap.specs.Faults.{fault_of}
use Rattle.clap.specs.declared.error.kind.ErrorKind.TheVariants.{DisplayHelp, DisplayVersion}
use Rattle.dbus_device.specs.Device.{Wrote}
use Rattle.dbus_device.specs.Packets.{Packets, PacketsAfter}
use Rattle.dbus_device.specs.declared.packet.Packet.{Packet}
use Rattle.dbus_value_model.proofs.Numbers.{IsBytes-rest}
use Rattle.dbus_count.specs.Tables.{OneTable}
use Rattle.dbus_handshake_input.specs.Alike.{GoesOnAlike, IsOfInput}
use Rattle.dbus_handshake_input.specs.declared.fault.HandshakeFault.{HandshakeFault}
use Rattle.dbus_handshake_input.specs.declared.fault.HandshakeFault.TheVariants.{Memory as OutOfMemory, Device, Refused}
use Rattle.dbus_handshake_input.specs.declared.fault.HandshakeReason.{HandshakeReason}
use Rattle.dbus_handshake_input.specs.Ahead.{packets_of}
use Rattle.dbus_handshake_input.specs.declared.read_ahead.ReadAhead.{ReadAhead}
use Rattle.dbus_handshake_input.specs.declared.size.HandshakeSize.{HandshakeSize}
use Rattle.dbus_handshake_input.proofs.SameHandshakes.{one_handshake, one_passing}
use Rattle.dbus_rule.proofs.FaultLaws.{not_both}
use Rattle.dbus_rule.specs.declared.rule.Rule.{Rule}
use Rattle.dbus_rule.specs.Rules.{SpellsRule}
use Rattle.dbus_rule.specs.RuleViews.{rule_pairs}
use Rattle.cli_options.specs.CommandLine.{wire_app}
use Rattle.cli_options.specs.Named.{AreRulesOf, HasRefused, HasRuleFault, IsNamedBy, IsSelectionGiven, Names}
use Rattle.cli_options.specs.Selections.{AreSameSelected}
use Rattle.cli_options.specs.Told.{TellsFault}
use Rattle.cli_options.specs.Owners.{lacks_owner}
use Rattle.cli_options.specs.declared.asked.Asked.{Asked}
use Rattle.cli_options.specs.declared.file_form.FileForm.{FileForm}
use Rattle.cli_options.specs.declared.file_form.FileForm.TheVariants.{AsRead, Raw}
use Rattle.cli_options.specs.declared.asked.Asked.TheVariants.{Messages, Encode, Handshake}
use Rattle.cli_options.specs.declared.command.Request.{Request}
use Rattle.cli_options.specs.declared.command.Task.{Task}
use Rattle.cli_options.specs.declared.command.Task.TheVariants.{Write, Count, Lines, Calls}
use Rattle.dbus_handshake_input.specs.declared.side.Side.{Side}
use Rattle.cli_options.specs.declared.selection.Selection.{Selection}
use Rattle.cli_options.specs.declared.settings.Settings.{Settings}
use Rattle.cli_options.specs.declared.wanted_encoding.WantedEncoding.{WantedEncoding}
use Rattle.cli_options.specs.declared.usage_fault.RefusedRule.{RefusedRule}
use Rattle.cli_options.specs.declared.usage_fault.UsageFault.{UsageFault}
use Rattle.cli_options.specs.declared.usage_fault.UsageFault.TheVariants.{Memory, Help, Version, Usage, Rule as BadRule}
use Rattle.cli_report.specs.Devices.{Reading, Writing, writing}
use Rattle.cli_report.specs.declared.ending.ExitStatus.{ExitStatus}
use Rattle.cli_report.specs.declared.ending.ExitStatus.TheVariants as status
use Rattle.cli_report.specs.Gathering.{Passes}
use Rattle.cli_report.specs.declared.gathering.Unwritten.{Unwritten}
use Rattle.cli_run.specs.Laws.{AreOfOneInput, AreOfSamePackets, AreToldAlike, EndAlike, GotAlike, ReadAlike, TellsOne}
use Rattle.dbus_call_lines.specs.declared.wanted.Wanted.{Wanted}
use Rattle.cli_run.specs.Output.{AreAlike, form_of}
use Rattle.cli_run.specs.VisitorLaws.{wrote_both, wrote_nothing}
use Rattle.cli_run.proofs.SameRuns.{one_calls, one_count, one_run, one_sums}
use Rattle.cli_encode_laws.proofs.OneEncoding.{one_encoding}
use Rattle.dbus_tool.specs.Alike.{AskAlike, IsOneTask, IsOneWay, OneProgram, RunAlike, TaskAlike, TellsOneBehind}
use Rattle.dbus_tool.specs.Handshaking.{TakesHandshake, TellsHandshake, ahead, handshake_line, EndsList, IsListed, Lengthens, Lists, WritesLines, last_line}
use Rattle.dbus_tool.specs.Words.{Does, DoesBy, DoesCalls, DoesTask, Notes, RunsNoted, calls_wanted, encoding_wanted, owner_note}
use Rattle.cli_options.proofs.Nothing.{no_task}
use Rattle.dbus_tool.proofs.SameAsked.{AreSameAsked, request, same_asked, same_by, same_lacks}

-- ---- words that name something have no rule that is refused

spelled_at : (before after : List Text) (text : Text) (rules : List (Rule Global)) → AreRulesOf (before ++ text ∷ after) rules → (rule : Rule Global) × SpellsRule text (rule_pairs rule)
spelled_at [] after text [] h = absurd h
spelled_at [] after text (rule ∷ rules) h = (rule, h.0)
spelled_at (first ∷ before) after text [] h = absurd h
spelled_at (first ∷ before) after text (rule ∷ rules) h = spelled_at before after text rules h.1

none_refused : (name : Text) (rows : List Row) (selection : Selection) (refused : RefusedRule) → IsSelectionGiven name rows selection → HasRefused rows refused → ⊥
none_refused name rows selection refused given fault =
    let first = fault.first in
    let rules = subst (λ (l : List Text). AreRulesOf l selection.rules.items) first.texts_are given.rules in
    let at = spelled_at first.before first.after (string_bytes refused.text) selection.rules.items rules in
    not_both (string_bytes refused.text) (rule_pairs at.0) refused.reason refused.at at.1 first.fault

no_fault : (sub : Option (Text × List Row)) (asked : Asked) (refused : RefusedRule) → Names sub asked → HasRuleFault sub refused → ⊥
no_fault None asked refused p h = p
no_fault (Some sub) (Messages request) refused p h = none_refused sub.0 sub.1 p.selection.0 refused p.selection.1 h.0
no_fault (Some sub) (Encode wanted) refused p h = (no_task sub.0 sub.1 h.1.0 h.1.1).1 p.0
no_fault (Some sub) (Handshake side) refused p h = (no_task sub.0 sub.1 h.1.0 h.1.1).0 p.0

module _ {R W E : Type 0} (left : R → Option (List ℕ)) (calls failures : R → ℕ) (packets : R → Option Packets) (packet : R → Option Packet) (old new : ReadAhead R) (w : Writing W) (e : Writing E) (words : List Text) (named_one : Asked) (named_is : IsNamedBy words named_one) (faultless : fault_of wire_app words ≡ []) (end : ExitStatus) (done : end ≢ status.Failed) where
  pub answer_is : (answer : Result Asked UsageFault) → IfOk answer (IsNamedBy words) → TellsFault words answer → Does left calls failures packets packet old new w e answer end
      → (asked : Asked) × IsNamedBy words asked × Does left calls failures packets packet old new w e (Ok asked) end
  answer_is (Ok asked) named told does = (asked, named, does)
  answer_is (Err Memory) named told does = absurd (done does.2.0)
  answer_is (Err (Help text)) named told does = absurd (subst (λ l. IsAmong DisplayHelp l) faultless told)
  answer_is (Err (Version text)) named told does = absurd (subst (λ l. IsAmong DisplayVersion l) faultless told)
  answer_is (Err (Usage text)) named told does = elim told [
    | inl fault ↦ absurd (subst (λ l. IsAmong fault.kind l) faultless fault.found)
    | inr none ↦ absurd (none.1.none_asked named_one named_is)
  ]
  answer_is (Err (BadRule refused)) named told does = absurd (no_fault (subcommand_of wire_app words) named_one refused named_is told.1)

-- ---- what is done in one way

one_way_too : (end : ExitStatus) (a b : Asked) → AreSameAsked a b → IsOneWay end a → IsOneWay end b
one_way_too end = same_by (λ a b. IsOneWay end a → IsOneWay end b) (λ task settings a b same one. one) (λ wanted one. one) (λ side one. one)

-- without a note
module _ {R W E : Type 0} (left : R → Option (List ℕ)) (calls failures : R → ℕ) (packets : R → Option Packets) (packet : R → Option Packet) (old new : ReadAhead R) (w : Writing W) (e : Writing E) (request : Request) where
  pub unnoted : (end : ExitStatus) → end ≢ status.Failed → request.settings.explains ≡ false → RunsNoted left calls failures packets packet old new w e request end → DoesTask left calls failures packets packet old new w e request end
  unnoted end done off does = elim does [
    | inl h ↦ (
        let same : h.0 ≡ e.old = subst (λ (b : Bool). Notes e.held e.failures (b && lacks_owner request.selection) e.old h.0 (Ok tt)) off h.1 in
        subst (λ (x : E). DoesTask left calls failures packets packet old new w (writing e.held e.failures x e.new) request end) same h.2
        )
    | inr h ↦ absurd (done h.2)
  ]

wrote_none : {W : Type 0} (held : W → Option (List ℕ)) (failures : W → ℕ) (old new : W) → new ≡ old → Wrote held failures old [] new
wrote_none held failures old new same = subst (λ (x : _). Wrote held failures old [] x) (sym same) (wrote_nothing held failures old)

-- with the note that is due
abbrev note_if : Bool → List ℕ
note_if false = []
note_if true = owner_note

noted : {E : Type 0} (held : E → Option (List ℕ)) (failures : E → ℕ) (is_due : Bool) (old new : E) → Notes held failures is_due old new (Ok tt) → Wrote held failures old (note_if is_due) new
noted held failures false old new same = wrote_none held failures old new same
noted held failures true old new wrote = wrote

-- ---- what is written of a handshake

wrote_gathered : {W : Type 0} (held : W → Option (List ℕ)) (failures : W → ℕ) (old new : W) (bytes : List ℕ) → Passes held failures bytes [] [] old new → Wrote held failures old bytes new
wrote_gathered held failures old new bytes h =
    record { appended = subst (λ l. Appends (held old) (held new) l) (sym (h.joined ∙ append-nil h.written)) h.appended; failed = h.failed }

module _ {E : Type 0} (e : Writing E) (end : ExitStatus) (done : end ≢ status.Failed) where
  fault_of_input : (T : Type 0) (why : HandshakeFault) → TellsHandshake e.held e.failures e.old e.new why end → IsOfInput {T = T} (Err why)
  fault_of_input T OutOfMemory told = absurd (done told.0)
  fault_of_input T Device told = absurd (done told.0)
  fault_of_input T (Refused at why) told = tt

  refused_told : (at : ℕ) (why : HandshakeReason) → TellsHandshake e.held e.failures e.old e.new (Refused at why) end
      → (end ≡ status.Refused) × Wrote e.held e.failures e.old (handshake_line at why) e.new
  refused_told at why told = elim told [
    | inl shown ↦ elim shown [
      | inl h ↦ h
      | inr h ↦ absurd (done h.0)
    ]
    | inr h ↦ absurd (done h.0)
  ]

module _ {E F : Type 0} (e : Writing E) (f : Writing F) (end other : ExitStatus) (done : end ≢ status.Failed) (other_done : other ≢ status.Failed) where
  tells_alike : (why because : HandshakeFault) → why ≡ because → TellsHandshake e.held e.failures e.old e.new why end → TellsHandshake f.held f.failures f.old f.new because other
      → (other ≡ end) × GotAlike e f
  tells_alike OutOfMemory because same told telling = absurd (done told.0)
  tells_alike Device because same told telling = absurd (done told.0)
  tells_alike (Refused at why) because same told telling =
      let h = refused_told e end done at why told in
      let k = refused_told f other other_done at why (subst (λ (x : HandshakeFault). TellsHandshake f.held f.failures f.old f.new x other) (sym same) telling) in
      (k.0 ∙ sym h.0, (handshake_line at why, h.1, k.1))

  lists_alike : (read other_read : Result HandshakeSize HandshakeFault) → read ≡ other_read → EndsList e read (Ok tt) end → EndsList f other_read (Ok tt) other → (other ≡ end) × GotAlike e f
  lists_alike (Ok size) (Ok other_size) same h k = (k.0 ∙ sym h.0, ([], wrote_none e.held e.failures e.old e.new h.1, wrote_none f.held f.failures f.old f.new k.1))
  lists_alike (Err why) (Err because) same h k = (let is : why ≡ because = cc in tells_alike why because is h k)
  lists_alike (Ok size) (Err because) same h k = absurd cc
  lists_alike (Err why) (Ok other_size) same h k = absurd cc

-- a list that was written
module _ {R W E : Type 0} (left : R → Option (List ℕ)) (calls failures : R → ℕ) (packets : R → Option Packets) (packet : R → Option Packet) (old new : ReadAhead R) (w : Writing W) (e : Writing E) (side : Side) (end : ExitStatus) (done : end ≢ status.Failed) where
  record IsWritten : Type 0 where
    read : Result HandshakeSize HandshakeFault
    of : IsOfInput read
    text : List ℕ
    listed : IsListed left calls packets packet old new side read text
    wrote : Wrote w.held w.failures w.old (text ++ last_line read) w.new
    ends : EndsList e read (Ok tt) end

  written : Lists left calls failures packets packet old new w e side end → IsWritten
  written h = by_put h.read h.put h.lines h.ends
    where
      of_read : (read : Result HandshakeSize HandshakeFault) → EndsList e read (Ok tt) end → IsOfInput read
      of_read (Ok size) ends = tt
      of_read (Err why) ends = fault_of_input e end done HandshakeSize why ends

      by_put : (read : Result HandshakeSize HandshakeFault) (put : Result (Unit {0}) Unwritten) → WritesLines left calls packets packet old new w side read put → EndsList e read put end → IsWritten
      by_put read (Ok x) lines ends =
          record { read = read; of = of_read read ends; text = lines.0; listed = lines.1; wrote = wrote_gathered w.held w.failures w.old w.new (lines.0 ++ last_line read) lines.2; ends = ends }
      by_put read (Err u) lines ends = absurd (done ends.0)

-- ---- two runs

-- after as many bytes of the same packets what is left is of the same ones
same_after : (n : ℕ) (a b c d : Option Packets) (all : Packets) → PacketsAfter n a c → PacketsAfter n b d → a ≡ Some all → b ≡ Some all → (rest : Packets) × (c ≡ Some rest) × (d ≡ Some rest)
same_after n None b c d all h k e f = absurd cc
same_after n (Some x) None c d all h k e f = absurd cc
same_after n (Some x) (Some y) None d all h k e f = absurd h
same_after n (Some x) (Some y) (Some c) None all h k e f = absurd k
same_after n (Some x) (Some y) (Some c) (Some d) all h k e f =
    let is : y ≡ x = let z : Some y ≡ Some x = f ∙ sym e in cc in
    (c, refl, ap (λ (l : Packets). Some l) (fun_ext (λ i. k i ∙ ap (λ (l : Packets). l (n + i)) is ∙ sym (h i))))

module _ {R S W V : Type 0} (one_table : OneTable) (left : R → Option (List ℕ)) (calls failures : R → ℕ) (packets : R → Option Packets) (packet : R → Option Packet) (other_left : S → Option (List ℕ)) (other_calls other_failures : S → ℕ)
    (other_packets : S → Option Packets) (other_packet : S → Option Packet) (r0 r1 : ReadAhead R)
    (s0 s1 : ReadAhead S) (w : Writing W) (v : Writing V) (end other : ExitStatus) (input : ReadAlike (ahead left calls failures packets packet r0 r1) (ahead other_left other_calls other_failures other_packets other_packet s0 s1))
    (done : end ≢ status.Failed) (other_done : other ≢ status.Failed) where
  -- both inputs are of the same packets
  abbrev Same : ReadAhead R → ReadAhead S → Type 0
  Same r s = AreOfSamePackets (ahead left calls failures packets packet r r1) (ahead other_left other_calls other_failures other_packets other_packet s s1)

  -- what follows in both sources is the same, and of the same packets if the inputs are
  abbrev FromHere : ReadAhead R → ReadAhead S → Type 0
  FromHere r s = ReadAlike (ahead left calls failures packets packet r r1) (ahead other_left other_calls other_failures other_packets other_packet s s1) × (Same r0 s0 → Same r s)

  taken_alike : (side : Option Side) (r : ReadAhead R) (s : ReadAhead S) (a b : Result (Unit {0}) HandshakeFault) → IsOfInput a → IsOfInput b
      → TakesHandshake left calls failures packets packet side r0 r a → TakesHandshake other_left other_calls other_failures other_packets other_packet side s0 s b → (a ≡ b) × IfOk a (λ x. FromHere r s)
  taken_alike None r s (Ok x) (Ok y) of other_of h k =
      (refl, subst (λ (t : ReadAhead S). FromHere r t) (sym k) (subst (λ (t : ReadAhead R). FromHere t s0) (sym h) (input, λ same. same)))
  taken_alike None r s (Err why) b of other_of h k = absurd h
  taken_alike None r s (Ok x) (Err because) of other_of h k = absurd k
  taken_alike (Some side) r s a b of other_of h k =
      let one = one_passing left calls packets packet other_left other_calls other_packets other_packet side input.0 r0 r s0 s a b input.2 input.3 of other_of h.0 k.0 in
      (one.0, begun a one.1)
    where
      begun : (a : Result (Unit {0}) HandshakeFault) → IfOk a (λ x. (bytes : List ℕ) × GoesOnAlike left calls packets packet other_left other_calls other_packets other_packet input.0 bytes r0 r s0 s) → IfOk a (λ x. FromHere r s)
      begun (Ok x) (bytes, (follows, after, also)) = (
        (follows.0, IsBytes-rest input.0 bytes follows.0 follows.1 input.1, follows.2, follows.3),
        λ same.
            let all = same_after (length bytes) _ _ _ _ same.all after also same.one same.same in
            record { all = all.0; one = all.1; same = all.2 },
      )
      begun (Err why) g = tt

  -- what is told of refused messages is the same
  abbrev Told : (r : ReadAhead R) (s : ReadAhead S) → Type 0
  Told r s = AreToldAlike (ahead left calls failures packets packet r r1) (ahead other_left other_calls other_failures other_packets other_packet s s1) end

  told_from : (r : ReadAhead R) (s : ReadAhead S) → FromHere r s → Told r0 s0 → Told r s
  told_from r s here told = elim told [ inl same ↦ inl (here.1 same) | inr all ↦ inr all ]

  -- each refused message behind the handshake is told by one text
  abbrev Behind : Settings → Type 0
  Behind settings = TellsOneBehind left calls failures packets packet other_left other_calls other_failures other_packets other_packet r0 r1 s0 s1 end settings

  -- and so is what a command writes in this form
  abbrev Runs : FileForm → Type 0
  Runs form = RunAlike left calls failures packets packet other_left other_calls other_failures other_packets other_packet r0 r1 s0 s1 end form

  told_of : (form : FileForm) → Runs form → Told r0 s0
  told_of Raw run = run
  told_of AsRead run = inl run

  placed_alike : (form : FileForm) → Runs form → (r : ReadAhead R) (s : ReadAhead S) → FromHere r s → AreAlike form (packets_of packets packet r) (packets_of other_packets other_packet s)
  placed_alike Raw run r s here = tt
  placed_alike AsRead run r s here = let all = here.1 run in (all.all, all.one, all.same)

  module _ {E F : Type 0} (e : Writing E) (f : Writing F) (settings : Settings) where
    module _ (task : Task) (a b : Option Selection) where
      -- tasks end alike that do so with what follows a handshake
      tasks_alike : ((r : ReadAhead R) (s : ReadAhead S) → FromHere r s → ((bytes : List ℕ) → (ahead left calls failures packets packet r r1).left r ≡ Some bytes → TellsOne (packets_of packets packet r) settings bytes end)
          → DoesBy (ahead left calls failures packets packet r r1) w e settings a task end → DoesBy (ahead other_left other_calls other_failures other_packets other_packet s s1) v f settings b task other → EndAlike w v e f end other)
          → Behind settings → DoesTask left calls failures packets packet r0 r1 w e (request task settings a) end → DoesTask other_left other_calls other_failures other_packets other_packet s0 s1 v f (request task settings b) other → EndAlike w v e f end other
      tasks_alike from tells (inl h) (inl k) = from h.0 k.0 (taken_alike settings.handshake h.0 k.0 (Ok tt) (Ok tt) tt tt h.1 k.1).1 (λ bytes is. tells h.0 bytes h.1 is) h.2 k.2
      tasks_alike from tells (inl h) (inr k) =
          let one = taken_alike settings.handshake h.0 s1 (Ok tt) (Err k.0) tt (fault_of_input f other other_done (Unit {0}) k.0 k.3) h.1 k.1 in
          absurd (let is : ◌≡◌ {A = Result (Unit {0}) HandshakeFault} (Ok tt) (Err k.0) = one.0 in cc)
      tasks_alike from tells (inr h) (inl k) =
          let one = taken_alike settings.handshake r1 k.0 (Err h.0) (Ok tt) (fault_of_input e end done (Unit {0}) h.0 h.3) tt h.1 k.1 in
          absurd (let is : ◌≡◌ {A = Result (Unit {0}) HandshakeFault} (Err h.0) (Ok tt) = one.0 in cc)
      tasks_alike from tells (inr h) (inr k) =
          let one = taken_alike settings.handshake r1 s1 (Err h.0) (Err k.0) (fault_of_input e end done (Unit {0}) h.0 h.3) (fault_of_input f other other_done (Unit {0}) k.0 k.3) h.1 k.1 in
          let same : h.0 ≡ k.0 = let is : ◌≡◌ {A = Result (Unit {0}) HandshakeFault} (Err h.0) (Err k.0) = one.0 in cc in
          let all = tells_alike e f end other done other_done h.0 k.0 same h.3 k.3 in
          record { status_is = all.0; first = ([], wrote_none w.held w.failures w.old w.new h.2, wrote_none v.held v.failures v.old v.new k.2); second = all.1 }

    either_alike : (r : Reading (ReadAhead R)) (s : Reading (ReadAhead S)) (by_member : Bool) (wanted : Wanted) → AreOfSamePackets r s → DoesCalls r w e settings by_member wanted end → DoesCalls s v f settings by_member wanted other
        → AreOfOneInput r s settings end other → EndAlike w v e f end other
    either_alike r s true wanted same does doing is = one_sums (ReadAhead R) (ReadAhead S) W V E F r s w v e f settings wanted _ _ end other does doing is same
    either_alike r s false wanted same does doing is = one_calls (ReadAhead R) (ReadAhead S) W V E F r s w v e f settings wanted _ _ end other does doing is same

    -- what is asked for of the same messages
    done_alike : (task : Task) (a b : Option Selection) → AreSameSelected a b → IsOneTask task → TaskAlike left calls failures packets packet other_left other_calls other_failures other_packets other_packet r0 r1 s0 s1 end task → Behind settings
        → DoesTask left calls failures packets packet r0 r1 w e (request task settings a) end → DoesTask other_left other_calls other_failures other_packets other_packet s0 s1 v f (request task settings b) other → EndAlike w v e f end other
    done_alike (Write output) a b same exact run = tasks_alike (Write output) a b (λ r s here tells does doing.
        (one_run (ReadAhead R) (ReadAhead S) W V E F (ahead left calls failures packets packet r r1) (ahead other_left other_calls other_failures other_packets other_packet s s1) w v e f settings _ _ (record { output = output; selection = a }) (record { output = output; selection = b }) end other (refl, same) does doing
        (record { input = here.0; told = told_from r s here (told_of (form_of output) run); one = tells here.0.0 here.0.2; done = done; other_done = other_done })).1 exact (placed_alike (form_of output) run r s here))
    done_alike Count a b same exact run = tasks_alike Count a b (λ r s here tells does doing.
        (one_count (ReadAhead R) (ReadAhead S) W V E F one_table (ahead left calls failures packets packet r r1) (ahead other_left other_calls other_failures other_packets other_packet s s1) w v e f settings _ _ a b end other same does doing
        (record { input = here.0; told = inl (here.1 run); one = tells here.0.0 here.0.2; done = done; other_done = other_done })).1 (here.1 run))
    done_alike (Calls wanted) a b same exact run = tasks_alike (Calls wanted) a b (λ r s here tells does doing.
        either_alike (ahead left calls failures packets packet r r1) (ahead other_left other_calls other_failures other_packets other_packet s s1) wanted.by_member (calls_wanted settings.as_json wanted) (here.1 run) does doing
        (record { input = here.0; told = inl (here.1 run); one = tells here.0.0 here.0.2; done = done; other_done = other_done }))
    done_alike (Lines width) a b same exact run = absurd exact

  module _ {E F : Type 0} (e : Writing E) (f : Writing F) where
    listed_alike : (side : Side) → Lists left calls failures packets packet r0 r1 w e side end → Lists other_left other_calls other_failures other_packets other_packet s0 s1 v f side other → EndAlike w v e f end other
    listed_alike side lists listing =
        let h = written left calls failures packets packet r0 r1 w e side end done lists in
        let k = written other_left other_calls other_failures other_packets other_packet s0 s1 v f side other other_done listing in
        let one = one_handshake left calls packets packet other_left other_calls other_packets other_packet Lengthens Lengthens side input.0 r0 r1 s0 s1 [] h.text [] k.text h.read k.read input.2 input.3 h.of k.of h.listed k.listed in
        let texts : h.text ≡ k.text = one.2 ∙ sym one.3 in
        let all : h.text ++ last_line h.read ≡ k.text ++ last_line k.read = λ i. texts i ++ last_line (one.1 i) in
        let ends = lists_alike e f end other done other_done h.read k.read one.1 h.ends k.ends in
        record { status_is = ends.0; first = (h.text ++ last_line h.read, h.wrote, subst (λ l. Wrote v.held v.failures v.old l v.new) (sym all) k.wrote); second = ends.1 }

    -- after a note that is due, or is not
    noted_alike : (task : Task) (settings : Settings) (a b : Option Selection) → AreSameSelected a b → IsOneTask task → TaskAlike left calls failures packets packet other_left other_calls other_failures other_packets other_packet r0 r1 s0 s1 end task → Behind settings
        → RunsNoted left calls failures packets packet r0 r1 w e (request task settings a) end → RunsNoted other_left other_calls other_failures other_packets other_packet s0 s1 v f (request task settings b) other → EndAlike w v e f end other
    noted_alike task settings a b same exact run tells (inl h) (inl k) =
        let all = done_alike (writing e.held e.failures h.0 e.new) (writing f.held f.failures k.0 f.new) settings task a b same exact run tells h.2 k.2 in
        let due = settings.explains && lacks_owner a in
        let here = noted e.held e.failures due e.old h.0 h.1 in
        let there = noted f.held f.failures due f.old k.0 (subst (λ (l : Bool). Notes f.held f.failures (settings.explains && l) f.old k.0 (Ok tt)) (sym (same_lacks a b same)) k.1) in
        let told = all.second in
        record {
          status_is = all.status_is;
          first = all.first;
          second = (note_if due ++ told.0, wrote_both e.held e.failures (note_if due) told.0 e.old h.0 e.new here told.1, wrote_both f.held f.failures (note_if due) told.0 f.old k.0 f.new there told.2);
        }
    noted_alike task settings a b same exact run tells (inl h) (inr k) = absurd (other_done k.2)
    noted_alike task settings a b same exact run tells (inr h) doing = absurd (done h.2)

    -- two that ask for the same
    abbrev DoAlike : Asked → Asked → Type 0
    DoAlike a b = IsOneWay end a → Does left calls failures packets packet r0 r1 w e (Ok a) end → Does other_left other_calls other_failures other_packets other_packet s0 s1 v f (Ok b) other
        → AskAlike left calls failures packets packet other_left other_calls other_failures other_packets other_packet r0 r1 s0 s1 end a → EndAlike w v e f end other

    encoded_alike : (wanted : WantedEncoding) → DoAlike (Encode wanted) (Encode wanted)
    encoded_alike wanted one does doing told =
        let both = one_encoding (ReadAhead R) (ReadAhead S) W V E F (ahead left calls failures packets packet r0 r1) (ahead other_left other_calls other_failures other_packets other_packet s0 s1) w v e f (encoding_wanted wanted) _ _ end other input done other_done does doing in
        record { status_is = both.status_is; first = both.first; second = both.second one }

    alike : (a b : Asked) → AreSameAsked a b → DoAlike a b
    alike = same_by DoAlike (λ task settings a b same one does doing told. noted_alike task settings a b same one told.0 told.1 does doing) encoded_alike (λ side one does doing told. listed_alike side does doing)

pub one_program : (R S W V E F : Type 0) → OneTable → OneProgram R S W V E F
one_program R S W V E F one_table left calls failures packets packet other_left other_calls other_failures other_packets other_packet r0 r1 s0 s1 w v e f words end other one input done other_done runs ran told =
    let a = answer_is left calls failures packets packet r0 r1 w e words one.asked one.named one.faultless end done runs.answer runs.named runs.told runs.does in
    let b = answer_is other_left other_calls other_failures other_packets other_packet s0 s1 v f words one.asked one.named one.faultless other other_done ran.answer ran.named ran.told ran.does in
    alike one_table left calls failures packets packet other_left other_calls other_failures other_packets other_packet r0 r1 s0 s1 w v end other input done other_done e f a.0 b.0 (same_asked words a.0 b.0 a.1 b.1)
    (one_way_too end one.asked a.0 (same_asked words one.asked a.0 one.named a.1) one.one_way) a.2 b.2 (told a.0 a.1)
