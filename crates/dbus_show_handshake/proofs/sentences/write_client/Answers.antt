use Rattle.std.proofs.Common.{sym}
use Rattle.dbus_show.proofs.FieldTexts.{then}
use Rattle.dbus_show_handshake.proofs.sentences.write_client.Goals as goal

pub returns-in-AuthBy : goal.returns-in-AuthBy
returns-in-AuthBy g c =
    rw (c.in-AuthBy.is, sym c.as_slice.ensures.value, sym c.as_slice-in-AuthBy.ensures.value)
    (then g.D.Draft.gains g.met.D.Draft.joins c.push_str-in-AuthBy.ensures (then g.D.Draft.gains g.met.D.Draft.joins c.write_shown.ensures c.write_response.ensures))

pub returns-in-DataOf : goal.returns-in-DataOf
returns-in-DataOf g c = rw (c.in-DataOf.is, sym c.as_slice-in-DataOf.ensures.value) c.write_words.ensures

pub returns-in-Negotiate : goal.returns-in-Negotiate
returns-in-Negotiate g c = rw c.in-Negotiate.is c.push_str-in-Negotiate.ensures
