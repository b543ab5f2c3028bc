use Rattle.std.proofs.Math.Path.{transport}
use Rattle.dbus_list.specs.Lines.{IsLine}
use Rattle.dbus_list.specs.Told.{told_seen}
use Rattle.cli_run.proofs.OutputSteps.{validated_whole}
use Rattle.cli_run.proofs.line_listing.write_listed.Goals as goal

pub returns : goal.returns
returns g c = λ order m whole.
    let lent = c.args.lent.now in
    let own = validated_whole lent.limits lent.bytes.now lent.validated order m c.requires whole in
    let written = c.write_line.ensures m own.1 in
    (written.0, transport (λ i. IsLine c.args.width (c.line_place.ensures i) (told_seen c.args.told) (own.0 i) m written.0) written.1, written.2)
