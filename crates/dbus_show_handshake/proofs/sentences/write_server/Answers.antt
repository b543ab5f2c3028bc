use Rattle.std.proofs.Common.{sym}
use Rattle.dbus_show.proofs.FieldTexts.{then}
use Rattle.dbus_show_handshake.proofs.sentences.write_server.Goals as goal

pub returns-in-Rejected : goal.returns-in-Rejected
returns-in-Rejected g c =
    rw (c.in-Rejected.is, sym c.as_slice.ensures.value) (then g.D.Draft.gains g.met.D.Draft.joins c.push_str.ensures c.write_offers.ensures)

pub returns-in-Accepted : goal.returns-in-Accepted
returns-in-Accepted g c = rw c.in-Accepted.is (then g.D.Draft.gains g.met.D.Draft.joins c.push_str-in-Accepted.ensures c.write_hex.ensures)

pub returns-in-DataOf : goal.returns-in-DataOf
returns-in-DataOf g c = rw (c.in-DataOf.is, sym c.as_slice-in-DataOf.ensures.value) c.write_words.ensures

pub returns-in-Agree : goal.returns-in-Agree
returns-in-Agree g c = rw c.in-Agree.is c.push_str-in-Agree.ensures
