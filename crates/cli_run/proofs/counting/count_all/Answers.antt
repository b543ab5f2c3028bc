use Rattle.std.proofs.Common.{false, ◌≡◌, ◌≤◌, ◌<◌, ◌^◌, ◌+◌, ◌++◌, [], drop, None, Ok, arith, refl, sym, ap, ◌∙◌, subst}
use Rattle.dbus_header.proofs.OutcomeLaws.{whole_inside}
use Rattle.dbus_stream.specs.CheckReading.{GivesLength, limits_of, Reads, lengths}
use Rattle.dbus_stream.specs.Cut.{CutMessage}
use Rattle.dbus_stream.specs.Reading.{done_of, most_reads_of, source_of}
use Rattle.cli_run.specs.ByName.{Tallies, ended_by}
use Rattle.cli_report.specs.Devices.{reading}
use Rattle.cli_run.proofs.ReadSteps.{length-sizes}
use Rattle.cli_run.specs.Refusals.{number_of}
use Rattle.cli_run.proofs.HandSteps.{hands_none, hands_more, hands_ended, hands_faulted}
use Rattle.cli_run.proofs.KnownPackets.{check_begins, keeps_if}
use Rattle.cli_run.proofs.CountSteps.{adds_up, check_faults, counts, never_full, none_known, read_kept, tallied}
use Rattle.cli_run.proofs.counting.count_all.Goals as goal
use Rattle.cli_run.proofs.counting.count_all.Goals.{In-Ok-Some}

pub messages-init : goal.messages-init
messages-init g c =
    let new = c.requires in (
      [],
      new.kept,
      hands_none lengths g.R.Source.left g.R.Source.calls g.R.Source.failures counts never_full (limits_of c.args.messages.now) [] 0 none_known adds_up.nothing c.args.messages.now tt refl new.stopped,
      refl,
      check_begins g.R.Source.packets g.R.Source.packet c.args.messages.now _ _ new,
    )

-- what the reader gave
given : (g : _) (c : In-Ok-Some g) → (r : Reads g.R.Source.left g.R.Source.calls c.messages.invariant.0 c.messages.messages c.next.new.self)
    × GivesLength (c.messages.invariant.0 ++ r.bytes) c.in-Ok-Some.field-0-0 c.messages.messages c.next.new.self
given g c =
    let rest = c.messages.invariant.0 in
    let read = rw c.in-Ok-Some.field-0-is at (c.in-Ok-Some.ensures.read rest c.messages.invariant.1) in
    let gives = read.1 c.messages.invariant.2.unstopped in
    (read.0, subst (λ size. GivesLength (rest ++ read.0.bytes) size c.messages.messages c.next.new.self) (sym gives.2) gives.1)

pub overflow_add-count : goal.overflow_add-count
overflow_add-count g c =
    let h = c.messages.invariant.2 in
    let gives = (given g (goal.at.overflow_add-count g c).In-Ok-Some).1 in
    let few : done_of c.next.new.self ≤ 2 ^ 50 = c.in-Ok-Some.ensures.few in
    omega (arith, h.count_is, length-sizes (limits_of c.args.messages.now) h.read.bytes h.items c.messages.invariant.0 h.read.messages, h.done, gives.done, few)

pub messages-preserved : goal.messages-preserved
messages-preserved g c =
    let given = given g (goal.at.messages-preserved g c).In-Ok-Some in
    let gives = given.1 in
    let item : CutMessage = record { order = gives.order; message = gives.message; size = c.in-Ok-Some.field-0-0 } in (
      drop item.size (c.messages.invariant.0 ++ given.0.bytes),
      gives.kept,
      hands_more adds_up c.messages.invariant.2 given.0 {s2 = tt} tt refl item gives.whole c.in-Ok-Some.ensures.failed
          (record { number = c.messages.count + 1; offset = done_of c.messages.messages; time = None; in_packet = false }) refl refl (λ packets never. absurd never) (λ packets never. absurd never) gives.done gives.unstopped tt,
      c.next.ensures.same_reference ∙ c.messages.invariant.3,
      keeps_if g.R.Source.packets g.R.Source.packet c.messages.messages c.next.new.self _ c.next.ensures.packets c.messages.invariant.4,
    )

pub messages-smaller : goal.messages-smaller
messages-smaller g c =
    let given = given g (goal.at.messages-smaller g c).In-Ok-Some in
    let gives = given.1 in
    let some : 0 < c.in-Ok-Some.field-0-0 = (whole_inside (limits_of c.messages.messages) (c.messages.invariant.0 ++ given.0.bytes) gives.order gives.message c.in-Ok-Some.field-0-0 gives.whole).0 in
    let few : done_of c.next.new.self ≤ 2 ^ 50 = c.in-Ok-Some.ensures.few in
    omega (arith, gives.done, few, some)

pub returns-in-Ok-None-clause-counts : goal.returns-in-Ok-None-clause-counts
returns-in-Ok-None-clause-counts g c =
    let rest = c.messages.invariant.0 in
    let h = c.messages.invariant.2 in
    let read = rw c.in-Ok-None.field-0-is at (c.in-Ok-None.ensures.read rest c.messages.invariant.1) in
    let answer = read.1 h.unstopped in
    let known = keeps_if g.R.Source.packets g.R.Source.packet c.messages.messages c.next.new.self _ c.next.ensures.packets c.messages.invariant.4 in
    let kept = answer.2.kept in
    λ settings no_more same.
    tallied g.R.Source.left g.R.Source.calls g.R.Source.failures g.R.Source.packets g.R.Source.packet c.args.messages.now c.next.new.self c.requires known settings no_more same (Ok _)
    (hands_ended adds_up h read.0 {s2 = tt} tt refl _ refl c.done.ensures answer.2.done refl answer.0 answer.1 c.in-Ok-None.ensures.failed (read_kept _ kept.held c.next.new.self kept.size kept.bytes))

pub returns-in-Err-clause-counts : goal.returns-in-Err-clause-counts
returns-in-Err-clause-counts g c =
    let rest = c.messages.invariant.0 in
    let h = c.messages.invariant.2 in
    let fault = c.in-Err.fault in
    let read = c.in-Err.ensures.read rest c.messages.invariant.1 in
    let answer : c.ended_by.result ≡ ended_by c.messages.count (done_of c.next.new.self) fault = c.ended_by.ensures ∙ ap (λ n. ended_by c.messages.count n fault) c.done-in-Err.ensures in
    let known = keeps_if g.R.Source.packets g.R.Source.packet c.messages.messages c.next.new.self _ c.next.ensures.packets c.messages.invariant.4 in
    λ settings no_more same.
    subst (λ x. Tallies (reading g.R.Source.left g.R.Source.calls g.R.Source.failures g.R.Source.packets (source_of c.args.messages.now) (source_of c.next.new.self)) settings (most_reads_of c.args.messages.now)
    (number_of (g.R.Source.packet (source_of c.next.new.self))) x) (sym answer)
    (tallied g.R.Source.left g.R.Source.calls g.R.Source.failures g.R.Source.packets g.R.Source.packet c.args.messages.now c.next.new.self c.requires known settings no_more same (ended_by c.messages.count (done_of c.next.new.self) fault)
    (hands_faulted adds_up h read.0 {s2 = tt} tt refl fault (check_faults (rest ++ read.0.bytes) c.messages.messages c.next.new.self fault (read.1 h.unstopped)) c.in-Err.ensures.failed tt))
