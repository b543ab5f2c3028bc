use Rattle.std.proofs.Common.{◌≡◌, ◌∙◌, ◌+◌, false, Bool, ℕ, Ok, Err, inl, length, ap, refl, sym, subst, arith}
use Rattle.std.specs.Prelude.{◌||◌, Result}
use Rattle.std.specs.declared.alloc.AllocError.{AllocError}
use Rattle.dbus_handshake_input.specs.Heard.{Reads}
use Rattle.dbus_handshake_input.specs.Passing.{SeesMessages}
use Rattle.dbus_handshake_input.specs.declared.fault.HandshakeFault.{HandshakeFault}
use Rattle.dbus_handshake_input.specs.declared.fault.HandshakeFault.TheVariants.{Memory}
use Rattle.dbus_handshake_input.specs.declared.lines.Said.{Said}
use Rattle.dbus_handshake_input.specs.declared.lines.Said.TheVariants as says
use Rattle.dbus_handshake_input.proofs.AheadSteps.{took_at_last, went, went_on}
use Rattle.dbus_handshake_input.proofs.LineSteps.{hears_as}
use Rattle.dbus_handshake_input.proofs.HandshakeSteps.{HeardLines, greets_no, heard_begin, heard_more, heard_same, reads_accepted, reads_begun, refuses_command, refuses_many, refuses_read, stops}
use Rattle.dbus_handshake_input.proofs.handshake.read_handshake.Goals as goal
use Rattle.dbus_handshake_input.proofs.handshake.read_handshake.Goals.{After-sees_messages}

-- the line that was heard is one more of them
more : (g : _) (c : After-sees_messages g) → HeardLines g.R.Source.left g.R.Source.calls g.R.Source.packets g.R.Source.packet g.V.LineVisitor.hears c.args.side c.args.input.now c.next_line.new.input c.args.visitor.now c.hear_line.new.visitor
    (c.lines.count + 1) (c.lines.bytes + (c.len.result + 2)) (c.lines.accepted || c.in-Ok-GoesOn.is_ok)
more g c =
    let hears = g.V.LineVisitor.hears in
    let line = c.in-Ok-next_line.line.items in
    let is : ◌≡◌ {A = Result Said AllocError} (Ok c.in-Ok-GoesOn.field-0) (Ok (says.GoesOn c.in-Ok-GoesOn.is_ok)) = ap (λ (said : Said). Ok said) c.in-Ok-GoesOn.field-0-is in
    let h = hears_as AllocError hears c.args.side c.lines.bytes c.as_slice.result.now line c.lines.visitor c.hear_line.new.visitor (Ok c.in-Ok-GoesOn.field-0) (Ok (says.GoesOn c.in-Ok-GoesOn.is_ok))
    c.as_slice.ensures.value is c.in-Ok-GoesOn.ensures in
    let size : c.len.result ≡ length line = c.len.ensures ∙ c.in-Ok-next_line.line.ok.0 in
    subst (λ (n : ℕ). HeardLines g.R.Source.left g.R.Source.calls g.R.Source.packets g.R.Source.packet hears c.args.side c.args.input.now c.next_line.new.input c.args.visitor.now c.hear_line.new.visitor (c.lines.count + 1)
    (c.lines.bytes + (n + 2)) (c.lines.accepted || c.in-Ok-GoesOn.is_ok)) (sym size)
    (heard_more g.R.Source.left g.R.Source.calls g.R.Source.packets g.R.Source.packet hears c.args.side g.met.V.LineVisitor.joins c.args.input.now c.lines.input c.next_line.new.input c.args.visitor.now c.lines.visitor c.hear_line.new.visitor
    c.lines.count c.lines.bytes c.lines.accepted c.in-Ok-GoesOn.is_ok line c.lines.invariant.0 c.in-Ok-next_line.ensures.reads.1 c.in-Ok-next_line.ensures.reads.0 h.0 h.1)

pub returns-in-Err-clause-reads : goal.returns-in-Err-clause-reads
returns-in-Err-clause-reads g c =
    greets_no g.R.Source.left g.R.Source.calls g.R.Source.packets g.R.Source.packet g.V.LineVisitor.hears c.args.side g.met.V.LineVisitor.nothing c.args.input.now c.greeted.new.input c.args.visitor.now c.in-Err.fault c.in-Err.ensures.greets

pub lines-init : goal.lines-init
lines-init g c =
    let e = c.in-Ok.ensures in (
      heard_begin g.R.Source.left g.R.Source.calls g.R.Source.packets g.R.Source.packet g.V.LineVisitor.hears c.args.side g.met.V.LineVisitor.nothing c.args.input.now c.greeted.new.input c.args.visitor.now c.in-Ok.count e.greets.0 e.greets.1,
      e.failed,
      e.same_reference,
      inl refl,
    )

pub placed-requires-clause-low : goal.placed-requires-clause-low
placed-requires-clause-low g c =
    let low = c.lines.invariant.0.taken.low in
    let few = c.lines-test.true in
    omega (arith, low, few)

pub returns-in-Err-next_line-clause-reads : goal.returns-in-Err-next_line-clause-reads
returns-in-Err-next_line-clause-reads g c =
    let hears = g.V.LineVisitor.hears in
    subst (λ (f : HandshakeFault). Reads hears c.args.side g.R.Source.left g.R.Source.calls g.R.Source.packets g.R.Source.packet c.args.input.now c.next_line.new.input c.args.visitor.now c.lines.visitor (Err f)) (sym c.placed.ensures)
    (refuses_read g.R.Source.left g.R.Source.calls g.R.Source.packets g.R.Source.packet hears c.args.side g.row.A.Denot c.args.input.now c.lines.input c.next_line.new.input c.args.visitor.now c.lines.visitor c.lines.count c.lines.bytes c.lines.accepted
    c.in-Err-next_line.fault
    c.lines.invariant.0 c.lines-test.true
    c.lines.invariant.3 c.in-Err-next_line.ensures.reads)

pub overflow_add-bytes-in-lines : goal.overflow_add-bytes-in-lines
overflow_add-bytes-in-lines g c =
    let low = c.lines.invariant.0.taken.low in
    let few = c.lines-test.true in
    let short = c.in-Ok-next_line.ensures.reads.0.short in
    let size : c.len.result ≡ length c.in-Ok-next_line.line.items = c.len.ensures ∙ c.in-Ok-next_line.line.ok.0 in
    omega (arith, low, few, short, size)

pub returns-in-Ok-Begin-clause-reads : goal.returns-in-Ok-Begin-clause-reads
returns-in-Ok-Begin-clause-reads g c =
    let hears = g.V.LineVisitor.hears in
    let line = c.in-Ok-next_line.line.items in
    let is : ◌≡◌ {A = Result Said AllocError} (Ok c.in-Ok-Begin.field-0) (Ok says.Begin) = ap (λ (said : Said). Ok said) c.in-Ok-Begin.field-0-is in
    let h = hears_as AllocError hears c.args.side c.lines.bytes c.as_slice.result.now line c.lines.visitor c.hear_line.new.visitor (Ok c.in-Ok-Begin.field-0) (Ok says.Begin)
    c.as_slice.ensures.value is c.in-Ok-Begin.ensures in
    let size : c.len.result ≡ length line = c.len.ensures ∙ c.in-Ok-next_line.line.ok.0 in
    reads_begun g.R.Source.left g.R.Source.calls g.R.Source.packets g.R.Source.packet hears c.args.side g.met.V.LineVisitor.joins c.args.input.now c.lines.input c.next_line.new.input c.args.visitor.now c.lines.visitor c.hear_line.new.visitor
    c.lines.count c.lines.bytes c.lines.accepted line (record { lines = c.lines.count + 1; bytes = c.lines.bytes + (c.len.result + 2) })
    c.lines.invariant.0 c.lines-test.true c.in-Ok-next_line.ensures.reads.1 c.in-Ok-next_line.ensures.reads.0 h.0 h.1 refl (ap (λ n. c.lines.bytes + (n + 2)) size)

pub returns-in-Ok-Nothing-clause-reads : goal.returns-in-Ok-Nothing-clause-reads
returns-in-Ok-Nothing-clause-reads g c =
    let hears = g.V.LineVisitor.hears in
    let line = c.in-Ok-next_line.line.items in
    let is : ◌≡◌ {A = Result Said AllocError} (Ok c.in-Ok-Nothing.field-0) (Ok says.Nothing) = ap (λ (said : Said). Ok said) c.in-Ok-Nothing.field-0-is in
    let h = hears_as AllocError hears c.args.side c.lines.bytes c.as_slice.result.now line c.lines.visitor c.hear_line.new.visitor (Ok c.in-Ok-Nothing.field-0) (Ok says.Nothing)
    c.as_slice.ensures.value is c.in-Ok-Nothing.ensures in
    subst (λ (v : _). Reads hears c.args.side g.R.Source.left g.R.Source.calls g.R.Source.packets g.R.Source.packet c.args.input.now c.next_line.new.input c.args.visitor.now v (Err c.refused.result)) (sym h.1)
    (subst (λ (f : HandshakeFault). Reads hears c.args.side g.R.Source.left g.R.Source.calls g.R.Source.packets g.R.Source.packet c.args.input.now c.next_line.new.input c.args.visitor.now c.lines.visitor (Err f)) (sym c.refused.ensures)
    (refuses_command g.R.Source.left g.R.Source.calls g.R.Source.packets g.R.Source.packet hears c.args.side c.args.input.now c.lines.input c.next_line.new.input c.args.visitor.now c.lines.visitor c.lines.count c.lines.bytes c.lines.accepted line
    c.lines.invariant.0 c.lines-test.true
    c.lines.invariant.3
    c.in-Ok-next_line.ensures.reads.1 c.in-Ok-next_line.ensures.reads.0 h.0))

pub returns-in-Err-hear_line-clause-reads : goal.returns-in-Err-hear_line-clause-reads
returns-in-Err-hear_line-clause-reads g c =
    let hears = g.V.LineVisitor.hears in
    let line = c.in-Ok-next_line.line.items in
    let same = hears_as AllocError hears c.args.side c.lines.bytes c.as_slice.result.now line c.lines.visitor c.hear_line.new.visitor (Err c.in-Err-hear_line.field-0) (Err c.in-Err-hear_line.field-0)
    c.as_slice.ensures.value refl c.in-Err-hear_line.ensures in
    subst (λ (v : _). Reads hears c.args.side g.R.Source.left g.R.Source.calls g.R.Source.packets g.R.Source.packet c.args.input.now c.next_line.new.input c.args.visitor.now v (Err Memory)) (sym same)
    (stops g.R.Source.left g.R.Source.calls g.R.Source.packets g.R.Source.packet hears c.args.side c.args.input.now c.lines.input c.next_line.new.input c.args.visitor.now c.lines.visitor c.lines.count c.lines.bytes c.lines.accepted _
    c.lines.invariant.0 (took_at_last g.R.Source.left g.R.Source.calls g.R.Source.packets g.R.Source.packet _ _ _ c.in-Ok-next_line.ensures.reads.1))

pub returns-in-Ok-true-clause-reads : goal.returns-in-Ok-true-clause-reads
returns-in-Ok-true-clause-reads g c =
    let few = c.lines-test.true in
    let accepted = c.lines.accepted || c.in-Ok-GoesOn.is_ok in
    reads_accepted g.R.Source.left g.R.Source.calls g.R.Source.packets g.R.Source.packet g.V.LineVisitor.hears c.args.side c.args.input.now c.next_line.new.input c.sees_messages.new.input c.args.visitor.now c.hear_line.new.visitor
    (c.lines.count + 1) (c.lines.bytes + (c.len.result + 2)) accepted (record { lines = c.lines.count + 1; bytes = c.lines.bytes + (c.len.result + 2) })
    (more g (goal.at.returns-in-Ok-true-clause-reads g c).After-sees_messages) (omega (arith, few)) (went g.R.Source.left g.R.Source.calls g.R.Source.packets g.R.Source.packet false _ _ _ c.sees_messages.ensures.took)
    (subst (λ (b : Bool). SeesMessages g.R.Source.left accepted c.sees_messages.new.input (Ok b)) c.in-Ok-true.field-0-test c.in-Ok-true.ensures.sees) refl refl

pub returns-in-Err-sees_messages-clause-reads : goal.returns-in-Err-sees_messages-clause-reads
returns-in-Err-sees_messages-clause-reads g c =
    stops g.R.Source.left g.R.Source.calls g.R.Source.packets g.R.Source.packet g.V.LineVisitor.hears c.args.side c.args.input.now c.next_line.new.input c.sees_messages.new.input c.args.visitor.now c.hear_line.new.visitor
    (c.lines.count + 1) (c.lines.bytes + (c.len.result + 2)) (c.lines.accepted || c.in-Ok-GoesOn.is_ok) _ (more g (goal.at.returns-in-Err-sees_messages-clause-reads g c).After-sees_messages)
    (went g.R.Source.left g.R.Source.calls g.R.Source.packets g.R.Source.packet false _ _ _ c.sees_messages.ensures.took)

pub lines-preserved : goal.lines-preserved
lines-preserved g c =
    let accepted = c.lines.accepted || c.in-Ok-GoesOn.is_ok in (
      heard_same g.R.Source.left g.R.Source.calls g.R.Source.packets g.R.Source.packet g.V.LineVisitor.hears c.args.side c.args.input.now c.next_line.new.input c.sees_messages.new.input c.args.visitor.now c.hear_line.new.visitor
          (c.lines.count + 1) (c.lines.bytes + (c.len.result + 2)) accepted (more g (goal.at.lines-preserved g c).After-sees_messages)
          (went_on g.R.Source.left g.R.Source.calls g.R.Source.packets g.R.Source.packet false _ _ _ c.in-Ok-false.field-0-test c.in-Ok-false.ensures.took),
      c.in-Ok-false.ensures.failed ∙ c.in-Ok-next_line.ensures.failed ∙ c.lines.invariant.1,
      c.sees_messages.ensures.same_reference ∙ c.next_line.ensures.same_reference ∙ c.lines.invariant.2,
      subst (λ (b : Bool). SeesMessages g.R.Source.left accepted c.sees_messages.new.input (Ok b)) c.in-Ok-false.field-0-test c.in-Ok-false.ensures.sees,
    )

pub returns-clause-reads : goal.returns-clause-reads
returns-clause-reads g c =
    let hears = g.V.LineVisitor.hears in
    let past = c.lines-test.false in
    let within = c.lines.auto.count-end in
    let n : c.lines.count ≡ 1024 = omega (arith, past, within) in
    subst (λ (f : HandshakeFault). Reads hears c.args.side g.R.Source.left g.R.Source.calls g.R.Source.packets g.R.Source.packet c.args.input.now c.lines.input c.args.visitor.now c.lines.visitor (Err f)) (sym c.refused-2.ensures)
    (refuses_many g.R.Source.left g.R.Source.calls g.R.Source.packets g.R.Source.packet hears c.args.side c.args.input.now c.lines.input c.args.visitor.now c.lines.visitor c.lines.bytes c.lines.accepted
    (subst (λ (k : ℕ). HeardLines g.R.Source.left g.R.Source.calls g.R.Source.packets g.R.Source.packet hears c.args.side c.args.input.now c.lines.input c.args.visitor.now c.lines.visitor k c.lines.bytes c.lines.accepted) n c.lines.invariant.0) c.lines.invariant.3)
