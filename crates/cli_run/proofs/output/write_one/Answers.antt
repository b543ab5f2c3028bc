use Rattle.std.proofs.Common.{[], refl, ap, subst, OnOk}
use Rattle.dbus_message_model.specs.Messages.{message_bytes}
use Rattle.cli_run.specs.Handing.{after_front}
use Rattle.cli_run.specs.Output.{framed, is_framed, seen_if, shown_text, told_place}
use Rattle.cli_run.specs.declared.framing.Front.{Front}
use Rattle.cli_run.proofs.OutputSteps.{bytes_are, validated_short}
use Rattle.cli_run.proofs.output.write_one.Goals as goal

pub write_message-requires : goal.write_message-requires
write_message-requires g c = validated_short c.args.lent.now.limits c.args.lent.now.bytes.now c.args.lent.now.validated c.requires

pub returns-in-Nothing-clause-writes : goal.returns-in-Nothing-clause-writes
returns-in-Nothing-clause-writes g c = λ order m whole. rw c.in-Nothing.is ([], refl, g.met.D.Draft.nothing c.args.draft.now)

pub returns-in-Text-clause-writes : goal.returns-in-Text-clause-writes
returns-in-Text-clause-writes g c = λ order m whole.
    let place = told_place c.in-Text.times c.args.lent.now.place in
    rw c.in-Text.is (seen_if c.in-Text.escapes (shown_text order m place), refl, c.show.ensures order m whole)

pub returns-in-JsonLine-clause-writes : goal.returns-in-JsonLine-clause-writes
returns-in-JsonLine-clause-writes g c = λ order m whole. rw c.in-JsonLine.is (c.write_json_line.ensures order m whole)

pub returns-in-InOrder-clause-writes : goal.returns-in-InOrder-clause-writes
returns-in-InOrder-clause-writes g c = λ order m whole.
    let form = c.in-InOrder.form in
    let wanted = c.in-InOrder.wanted in
    let place = c.args.lent.now.place in
    let written = subst (λ (f : Front). OnOk c.swap.result (g.D.Draft.gains c.args.draft.now (after_front f (message_bytes wanted m)) c.swap.new.draft)) c.of-front.ensures (c.swap.ensures.swaps order m whole) in
    rw c.in-InOrder.is (framed (is_framed form place) place.time (message_bytes wanted m), refl, written)

pub returns-in-AsIs-clause-writes : goal.returns-in-AsIs-clause-writes
returns-in-AsIs-clause-writes g c = λ order m whole.
    let form = c.in-AsIs.form in
    let place = c.args.lent.now.place in
    let bytes = c.args.lent.now.bytes.now in
    let is = bytes_are c.args.lent.now.limits bytes order m whole in
    let written = subst (λ (f : Front). g.D.Draft.gains c.args.draft.now (after_front f bytes) c.write_message.new.draft) c.of-front-in-AsIs.ensures c.write_message.ensures in
    rw c.in-AsIs.is (framed (is_framed form place) place.time bytes, ap (framed (is_framed form place) place.time) is, written)
