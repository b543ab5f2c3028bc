use Rattle.std.proofs.Common.{sym}
use Rattle.std.proofs.lemmas.List.{length-take-le}
use Rattle.dbus_header.proofs.StatedLengths.{whole_states}
use Rattle.dbus_validate.proofs.Headed.{own_validated}
use Rattle.dbus_validate.proofs.WholeParts.{inside}
use Rattle.dbus_connection.proofs.Given.{counted}
use Rattle.dbus_connection.proofs.reading.given.Goals as goal

pub slice_bounds-of_validated-end : goal.slice_bounds-of_validated-end
slice_bounds-of_validated-end c =
    sym (length-take-le _ _ (inside c.args.settings.limits c.args.bytes.now c.args.validated c.requires.validated))

pub of_validated-view-requires : goal.of_validated-view-requires
of_validated-view-requires c =
    let own = own_validated c.args.settings.limits c.args.bytes.now c.args.validated c.requires.validated in
    record { validated = own.validated; all = own.all }

pub returns-clause-read : goal.returns-clause-read
returns-clause-read c =
    let limits = c.args.settings.limits in
    let bytes = c.args.bytes.now in
    let j = c.args.validated in
    let is = c.requires.validated in
    let viewed = c.of_validated-view.ensures.viewed in (
      viewed,
      inside limits bytes j is,
      counted limits bytes j c.of_validated-view.result c.fd_count-fds.result is viewed c.fd_count-fds.ensures,
      c.requires.fits j.length (whole_states limits bytes j.order is.message j.length is.whole).0,
    )

pub returns-clause-inside : goal.returns-clause-inside
returns-clause-inside c = inside c.args.settings.limits c.args.bytes.now c.args.validated c.requires.validated
