use Rattle.std.proofs.Common.{true, ◌≤◌, ◌<◌, ◌∙◌, List, ℕ, Bool, Ok, Err, length, length-append, ap, refl, subst, sym, arith}
use Rattle.dbus_auth_lines.specs.CutterStates.{cutter_state}
use Rattle.dbus_handshake_input.specs.Ahead.{HasMore, kept_of}
use Rattle.dbus_handshake_input.specs.Heard.{ReadsLine}
use Rattle.dbus_handshake_input.specs.declared.fault.HandshakeFault.{HandshakeFault}
use Rattle.dbus_auth_lines.proofs.Cuts.{short_by}
use Rattle.dbus_handshake_input.proofs.AheadSteps.{went, went_on}
use Rattle.dbus_handshake_input.proofs.LineSteps.{Answers, CutsLine, CutsNone, cuts_line, cuts_none, part_begins, part_ends, part_faulty, part_whole, part_goes_on, some_kept, took_same}
use Rattle.dbus_handshake_input.proofs.lines.next_line.Goals as goal

pub pieces-init : goal.pieces-init
pieces-init g c = (part_begins g.R.Source.left g.R.Source.calls g.R.Source.packets g.R.Source.packet c.args.input.now (cutter_state c.new-cutter.result) c.new-cutter.ensures, refl, refl)

pub returns-in-Ok-false-clause-reads : goal.returns-in-Ok-false-clause-reads
returns-in-Ok-false-clause-reads g c =
    let more = subst (λ (b : Bool). HasMore g.R.Source.left c.has_more.new.self (Ok b)) c.in-Ok-false.field-0-test c.in-Ok-false.ensures.more in
    part_ends g.R.Source.left g.R.Source.calls g.R.Source.packets g.R.Source.packet g.row.A.Denot c.args.side c.args.input.now c.pieces.input c.has_more.new.self (cutter_state c.pieces.cutter) c.pieces.size c.pieces.invariant.0
    (went g.R.Source.left g.R.Source.calls g.R.Source.packets g.R.Source.packet true _ _ _ c.has_more.ensures.took) more.0 more.1

pub returns-in-Err-clause-reads : goal.returns-in-Err-clause-reads
returns-in-Err-clause-reads g c = (
  (cutter_state c.pieces.cutter).kept,
  took_same g.R.Source.left g.R.Source.calls g.R.Source.packets g.R.Source.packet c.args.input.now c.pieces.input c.has_more.new.self (cutter_state c.pieces.cutter).kept
      c.pieces.invariant.0.took c.in-Err.ensures.took,
)

pub pass-requires : goal.pass-requires
pass-requires g c =
    let h = c.in-Ok-default-Some in
    let cuts = cuts_line g.row.A.Denot (cutter_state c.pieces.cutter) c.kept.result.now h.field-0-1 h.line h.count (cutter_state c.take.new.self)
    c.pieces.invariant.0.no_fault h.field-0-1-is h.ensures.taken in
    subst (λ (l : List ℕ). h.count ≤ length l) c.kept.ensures cuts.within

pub returns-in-Ok-default-Some-clause-reads : goal.returns-in-Ok-default-Some-clause-reads
returns-in-Ok-default-Some-clause-reads g c =
    let h = c.in-Ok-default-Some in
    let cuts = cuts_line g.row.A.Denot (cutter_state c.pieces.cutter) c.kept.result.now h.field-0-1 h.line h.count (cutter_state c.take.new.self)
    c.pieces.invariant.0.no_fault h.field-0-1-is h.ensures.taken in (
      cuts.is_line,
      part_whole g.R.Source.left g.R.Source.calls g.R.Source.packets g.R.Source.packet c.args.input.now c.pieces.input c.has_more.new.self c.pass.new.self (cutter_state c.pieces.cutter) h.line.items c.pieces.size h.count
          c.pieces.invariant.0 (went_on g.R.Source.left g.R.Source.calls g.R.Source.packets g.R.Source.packet true _ _ _ c.in-Ok-true.field-0-test c.in-Ok-true.ensures.took)
          (subst (λ (l : List ℕ). CutsLine (cutter_state c.pieces.cutter).kept l h.line.items h.count) c.kept.ensures cuts) c.pass.ensures.rests c.pass.ensures.rest,
    )

pub pass-requires-in-Ok-default-None : goal.pass-requires-in-Ok-default-None
pass-requires-in-Ok-default-None g c =
    let h = c.in-Ok-default-None in
    let cuts = cuts_none g.row.A.Denot (cutter_state c.pieces.cutter) c.kept.result.now h.field-0-1 h.count (cutter_state c.take.new.self) c.pieces.invariant.0.no_fault
    h.field-0-1-is h.ensures.taken in
    let all = cuts.all ∙ ap length c.kept.ensures in
    omega (arith, all)

pub overflow_add-size : goal.overflow_add-size
overflow_add-size g c =
    let h = c.in-Ok-default-None in
    let cuts = cuts_none g.row.A.Denot (cutter_state c.pieces.cutter) c.kept.result.now h.field-0-1 h.count (cutter_state c.take.new.self) c.pieces.invariant.0.no_fault
    h.field-0-1-is h.ensures.taken in
    let all = cuts.all in
    let size = c.pieces.invariant.0.size_is in
    let short = short_by _ cuts.unfinished in
    let joined = length-append (cutter_state c.pieces.cutter).kept c.kept.result.now in
    omega (arith, all, size, short, joined)

pub pieces-smaller : goal.pieces-smaller
pieces-smaller g c =
    let h = c.in-Ok-default-None in
    let cuts = cuts_none g.row.A.Denot (cutter_state c.pieces.cutter) c.kept.result.now h.field-0-1 h.count (cutter_state c.take.new.self) c.pieces.invariant.0.no_fault
    h.field-0-1-is h.ensures.taken in
    let all = cuts.all in
    let size = c.pieces.invariant.0.size_is in
    let short = short_by _ cuts.unfinished in
    let joined = length-append (cutter_state c.pieces.cutter).kept c.kept.result.now in
    let some : 0 < length (kept_of c.has_more.new.self) = some_kept (kept_of c.has_more.new.self)
    (subst (λ (b : Bool). HasMore g.R.Source.left c.has_more.new.self (Ok b)) c.in-Ok-true.field-0-test c.in-Ok-true.ensures.more) in
    let same = ap length c.kept.ensures in
    omega (arith, all, size, short, joined, some, same)

pub pieces-preserved : goal.pieces-preserved
pieces-preserved g c =
    let h = c.in-Ok-default-None in
    let cuts = cuts_none g.row.A.Denot (cutter_state c.pieces.cutter) c.kept.result.now h.field-0-1 h.count (cutter_state c.take.new.self) c.pieces.invariant.0.no_fault
    h.field-0-1-is h.ensures.taken in (
      part_goes_on g.R.Source.left g.R.Source.calls g.R.Source.packets g.R.Source.packet c.args.input.now c.pieces.input c.has_more.new.self c.pass-in-Ok-default-None.new.self (cutter_state c.pieces.cutter)
          (cutter_state c.take.new.self) c.pieces.size h.count c.pieces.invariant.0 (went_on g.R.Source.left g.R.Source.calls g.R.Source.packets g.R.Source.packet true _ _ _ c.in-Ok-true.field-0-test c.in-Ok-true.ensures.took)
          (subst (λ (l : List ℕ). CutsNone (cutter_state c.pieces.cutter).kept l h.count (cutter_state c.take.new.self)) c.kept.ensures cuts)
          c.pass-in-Ok-default-None.ensures.rests c.pass-in-Ok-default-None.ensures.rest,
      ap g.R.Source.failures c.pass-in-Ok-default-None.ensures.rests.source ∙ c.in-Ok-true.ensures.failed ∙ c.pieces.invariant.1,
      ap g.R.Source.reference c.pass-in-Ok-default-None.ensures.rests.source ∙ c.has_more.ensures.same_reference ∙ c.pieces.invariant.2,
    )

pub returns-in-Err-take-clause-reads : goal.returns-in-Err-take-clause-reads
returns-in-Err-take-clause-reads g c =
    let state = cutter_state c.pieces.cutter in
    let fault = c.in-Err-take.fault in
    subst (λ (f : HandshakeFault). ReadsLine {Z = g.row.A.Denot} g.R.Source.left g.R.Source.calls g.R.Source.packets g.R.Source.packet c.args.side c.args.input.now c.has_more.new.self (Err f)) (sym c.fault_of.ensures)
    (part_faulty g.R.Source.left g.R.Source.calls g.R.Source.packets g.R.Source.packet g.row.A.Denot c.args.side c.args.input.now c.pieces.input c.has_more.new.self state (cutter_state c.take.new.self) c.pieces.size fault
    c.pieces.invariant.0 (went_on g.R.Source.left g.R.Source.calls g.R.Source.packets g.R.Source.packet true _ _ _ c.in-Ok-true.field-0-test c.in-Ok-true.ensures.took)
    (subst (λ (l : List ℕ). Answers g.row.A.Denot state l (Err fault) (cutter_state c.take.new.self)) c.kept.ensures c.in-Err-take.ensures.taken))
