use Rattle.std.proofs.Common.{◌≡◌, ◌≤◌, ◌<◌, ◌^◌, ◌+◌, ◌++◌, Err, IfOk, Ok, Some, is_some, inl, arith, refl, sym, ap, ◌∙◌, subst}
use Rattle.dbus_header.proofs.OutcomeLaws.{whole_inside}
use Rattle.dbus_stream.specs.Gathering.{gathering}
use Rattle.dbus_stream.specs.RawReading.{KeepsPackets, limits_of, done_of, kept}
use Rattle.cli_run.specs.ByName.{stopped_by}
use Rattle.cli_run.specs.Handing.{GivesNext}
use Rattle.cli_run.specs.Inputs.{time_of}
use Rattle.cli_run.specs.Onward.{HasKnownPackets, RawHandsOn}
use Rattle.cli_run.specs.declared.place.MessagePlace.{MessagePlace}
use Rattle.cli_run.proofs.KnownPackets.{lent_packet, lent_time}
use Rattle.cli_run.proofs.ReadSteps.{length-sizes}
use Rattle.cli_run.proofs.HandSteps.{HasHanded, hands_none, hands_more, hands_end, hands_stopped, hands_not, item_of, settled_last, still, took_lent}
use Rattle.cli_run.proofs.OutputSteps.{lent_validated}
use Rattle.cli_run.proofs.handing.hand_all.Goals as goal
use Rattle.cli_run.proofs.handing.hand_all.Goals.{In-Ok-Some}

pub messages-init : goal.messages-init
messages-init g c = (
  hands_none gathering g.R.Source.left g.R.Source.calls g.R.Source.failures g.V.MessageVisitor.takes g.V.MessageVisitor.full c.args.limits (kept c.args.messages.now) c.args.before
      (HasKnownPackets g.R.Source.packets g.R.Source.packet c.args.messages.now) g.met.V.MessageVisitor.adds_up.nothing
      c.args.messages.now.reader c.args.visitor.now c.requires.within c.requires.unstopped,
  refl,
  λ all has. has,
  refl,
)

-- what the reader lends
lent : (g : _) (c : In-Ok-Some g) → GivesNext g.R.Source.left g.R.Source.calls g.R.Source.failures g.V.MessageVisitor.takes g.V.MessageVisitor.leaves g.V.MessageVisitor.settled g.V.MessageVisitor.full
    c.messages.messages c.next_message.new.messages c.messages.visitor c.next_message.new.visitor (Ok (Some c.in-Ok-Some.validated))
lent g c = rw c.in-Ok-Some.field-0-is at c.in-Ok-Some.ensures.gives

pub overflow_add-count : goal.overflow_add-count
overflow_add-count g c =
    let h = c.messages.invariant.0 in
    let given = lent g (goal.at.overflow_add-count g c).In-Ok-Some in
    let few : done_of c.next_message.new.messages ≤ 2 ^ 50 = c.in-Ok-Some.ensures.few in
    omega (arith, h.count_is, length-sizes c.args.limits (kept c.args.messages.now ++ h.read.bytes) h.items (kept c.messages.messages) h.read.messages, h.done, given.1.done, given.2.1.gives.done, few, c.requires.few)

pub take-requires : goal.take-requires
take-requires g c =
    let given = lent g (goal.at.take-requires g c).In-Ok-Some in
    let limits = given.1.unread.limits ∙ c.messages.invariant.0.read.limits_are in
    lent_validated c.args.limits (kept given.0 ++ given.2.0.bytes) c.message.result.now c.in-Ok-Some.validated given.0 c.next_message.new.messages c.message.ensures limits given.2.1

pub messages-preserved : goal.messages-preserved
messages-preserved g c =
    let laws = g.met.V.MessageVisitor.adds_up in
    let new = c.next_message.new.messages in
    let given = lent g (goal.at.messages-preserved g c).In-Ok-Some in
    let l = given.2.1 in
    let h = still laws c.args.messages.now c.messages.messages given.0 c.messages.invariant.0 given.1 in
    let place : MessagePlace = record { number = c.messages.count + 1; offset = c.done-offset.result; time = c.time_of.result; in_packet = c.is_some.result } in
    let one = took_lent g.V.MessageVisitor.takes g.V.MessageVisitor.leaves c.next_message.new.visitor c.take.new.self c.args.limits (kept given.0 ++ given.2.0.bytes) c.message.result.now c.in-Ok-Some.validated
    given.0 new c.message.ensures h.read.limits_are l place (Ok tt) c.in-Ok.ensures in
    let keeps : KeepsPackets g.R.Source.packets g.R.Source.packet c.args.messages.now new = λ all has. c.next_message.ensures.packets all (c.messages.invariant.2 all has) in
    let time = lent_time g.R.Source.packets g.R.Source.packet c.args.messages.now given.0 new (kept given.0 ++ given.2.0.bytes) c.in-Ok-Some.validated keeps l c.time_of.result (c.time_of.ensures ∙ ap time_of c.packet-packet.ensures) in
    let packet = lent_packet g.R.Source.packets g.R.Source.packet c.args.messages.now given.0 new (kept given.0 ++ given.2.0.bytes) c.in-Ok-Some.validated keeps l c.is_some.result (c.is_some.ensures ∙ ap is_some c.packet-packet.ensures) in
    let more = hands_more laws h given.2.0 given.2.3 given.2.5 (item_of l) l.gives.whole given.2.2 place refl (c.done-offset.ensures ∙ sym given.1.done) time packet
    l.gives.done l.gives.unstopped one in (
      subst (λ v. HasHanded gathering g.R.Source.left g.R.Source.calls g.R.Source.failures g.V.MessageVisitor.takes g.V.MessageVisitor.full c.args.limits (kept c.args.messages.now) c.args.before
          (HasKnownPackets g.R.Source.packets g.R.Source.packet c.args.messages.now) (c.messages.count + 1) c.args.messages.now.reader new.reader v c.args.visitor.now c.take.new.self) (sym l.gives.kept) more,
      c.next_message.ensures.same_reference ∙ c.messages.invariant.1,
      keeps,
      c.next_message.ensures.looked ∙ c.messages.invariant.3,
    )

pub messages-smaller : goal.messages-smaller
messages-smaller g c =
    let given = lent g (goal.at.messages-smaller g c).In-Ok-Some in
    let l = given.2.1 in
    let few : done_of c.next_message.new.messages ≤ 2 ^ 50 = c.in-Ok-Some.ensures.few in
    let some : 0 < l.size = (whole_inside (limits_of given.0) (kept given.0 ++ given.2.0.bytes) l.gives.order l.gives.message l.size l.gives.whole).0 in
    omega (arith, given.1.done, l.gives.done, few, some)

pub returns-in-Err-take-clause-hands : goal.returns-in-Err-take-clause-hands
returns-in-Err-take-clause-hands g c =
    let laws = g.met.V.MessageVisitor.adds_up in
    let given = lent g (goal.at.returns-in-Err-take-clause-hands g c).In-Ok-Some in
    let h = still laws c.args.messages.now c.messages.messages given.0 c.messages.invariant.0 given.1 in
    let place : MessagePlace = record { number = c.messages.count + 1; offset = c.done-offset.result; time = c.time_of.result; in_packet = c.is_some.result } in
    let keeps : KeepsPackets g.R.Source.packets g.R.Source.packet c.args.messages.now c.next_message.new.messages = λ all has. c.next_message.ensures.packets all (c.messages.invariant.2 all has) in
    let time = lent_time g.R.Source.packets g.R.Source.packet c.args.messages.now given.0 c.next_message.new.messages (kept given.0 ++ given.2.0.bytes) c.in-Ok-Some.validated keeps given.2.1 c.time_of.result
    (c.time_of.ensures ∙ ap time_of c.packet-packet.ensures) in
    let packet = lent_packet g.R.Source.packets g.R.Source.packet c.args.messages.now given.0 c.next_message.new.messages (kept given.0 ++ given.2.0.bytes) c.in-Ok-Some.validated keeps given.2.1 c.is_some.result
    (c.is_some.ensures ∙ ap is_some c.packet-packet.ensures) in
    let one = took_lent g.V.MessageVisitor.takes g.V.MessageVisitor.leaves c.next_message.new.visitor c.take.new.self c.args.limits (kept given.0 ++ given.2.0.bytes) c.message.result.now c.in-Ok-Some.validated
    given.0 c.next_message.new.messages c.message.ensures h.read.limits_are given.2.1 place (Err c.in-Err-take.cause) c.in-Err-take.ensures in
    hands_not laws h given.2.0 given.2.3 given.2.5 (item_of given.2.1) given.2.1.gives.whole given.2.2 place refl (c.done-offset.ensures ∙ sym given.1.done) time packet
    c.in-Err-take.cause one

pub returns-in-Ok-None-clause-hands : goal.returns-in-Ok-None-clause-hands
returns-in-Ok-None-clause-hands g c =
    inl (hands_end g.met.V.MessageVisitor.adds_up c.args.messages.now c.messages.messages c.messages.invariant.0 c.next_message.new.messages c.next_message.new.visitor c.done.result c.done.ensures
    (rw c.in-Ok-None.field-0-is at c.in-Ok-None.ensures.gives))

pub returns-in-Ok-None-clause-settled : goal.returns-in-Ok-None-clause-settled
returns-in-Ok-None-clause-settled g c = c.in-Ok-None.ensures.gives.2.4 c.in-Ok-None.field-0-is

pub returns-in-Err-clause-hands : goal.returns-in-Err-clause-hands
returns-in-Err-clause-hands g c =
    let stop = c.in-Err.stop in
    let answer : c.stopped_by.result ≡ stopped_by c.messages.count (done_of c.next_message.new.messages) stop
    = c.stopped_by.ensures ∙ ap (λ n. stopped_by c.messages.count n stop) c.done-in-Err.ensures in
    subst (λ x. RawHandsOn g.R.Source.left g.R.Source.calls g.R.Source.failures g.R.Source.packets g.R.Source.packet g.V.MessageVisitor.takes g.V.MessageVisitor.leaves g.V.MessageVisitor.full c.args.limits c.args.before c.args.messages.now c.next_message.new.messages
    c.args.visitor.now c.next_message.new.visitor x) (sym answer)
    (hands_stopped g.met.V.MessageVisitor.adds_up c.args.messages.now c.messages.messages c.messages.invariant.0 c.next_message.new.messages c.next_message.new.visitor stop c.in-Err.ensures.gives)

pub returns-in-Err-clause-settled : goal.returns-in-Err-clause-settled
returns-in-Err-clause-settled g c =
    let stop = c.in-Err.stop in
    let answer : c.stopped_by.result ≡ stopped_by c.messages.count (done_of c.next_message.new.messages) stop
    = c.stopped_by.ensures ∙ ap (λ n. stopped_by c.messages.count n stop) c.done-in-Err.ensures in
    subst (λ x. IfOk x (λ _. g.V.MessageVisitor.settled c.next_message.new.visitor)) (sym answer)
    (settled_last g.met.V.MessageVisitor.adds_up c.args.messages.now c.messages.messages c.messages.invariant.0 c.next_message.new.messages c.next_message.new.visitor stop c.in-Err.ensures.gives)

pub returns-in-Err-take-clause-packets : goal.returns-in-Err-take-clause-packets
returns-in-Err-take-clause-packets g c = λ all has. c.next_message.ensures.packets all (c.messages.invariant.2 all has)

pub returns-in-Ok-None-clause-packets : goal.returns-in-Ok-None-clause-packets
returns-in-Ok-None-clause-packets g c = λ all has. c.next_message.ensures.packets all (c.messages.invariant.2 all has)

pub returns-in-Err-clause-packets : goal.returns-in-Err-clause-packets
returns-in-Err-clause-packets g c = λ all has. c.next_message.ensures.packets all (c.messages.invariant.2 all has)
