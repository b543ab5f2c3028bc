use Rattle.std.proofs.Common.{refl}
use Rattle.dbus_show.proofs.FieldTexts.{then}
use Rattle.dbus_validate.proofs.WholeParts.{noted_there}
use Rattle.dbus_list.specs.BriefLaws.{are_brief}
use Rattle.dbus_list.proofs.Shown.{types_are, types_ascii, views_it}
use Rattle.dbus_list.proofs.line.write_text.Goals as goal

pub signature-types-requires : goal.signature-types-requires
signature-types-requires g c =
    let is = c.requires.validated in
    record { noted = (is.message.fields, noted_there c.args.whole.now.limits c.args.whole.now.bytes.now c.args.whole.now.validated.now is) }

pub write_about-requires : goal.write_about-requires
write_about-requires g c =
    let is = c.requires.validated in
    let w = c.args.whole.now in
    let typed = c.signature-types.ensures is.message.fields (noted_there w.limits w.bytes.now w.validated.now is) in
    record { ascii = types_ascii w.limits w.bytes.now w.validated.now is c.signature-types.result.now typed }

pub returns : goal.returns
returns g c = λ m whole.
    let is = c.requires.validated in
    let w = c.args.whole.now in
    let j = w.validated.now in
    let views = views_it w.limits w.bytes.now c.of_validated-view.result j.order m j.length c.of_validated-view.ensures.viewed c.requires.all whole in
    let typed = c.signature-types.ensures is.message.fields (noted_there w.limits w.bytes.now j is) in
    let types = types_are w.limits w.bytes.now j is c.signature-types.result.now typed m whole in
    let body = c.write_body.ensures.written m whole in (
      _,
      record { values = body.0; brief = are_brief m.body body.0 body.1; is = refl },
      then g.D.Draft.gains g.met.D.Draft.joins (c.write_columns.ensures j.order m views) (then g.D.Draft.gains g.met.D.Draft.joins (c.write_about.ensures j.order m views types) body.2),
    )
