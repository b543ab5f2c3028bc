use Rattle.dbus_auth.proofs.AnyCut.{same_outcome}
use Rattle.dbus_auth.proofs.Finishes.{finishes_first, singly}
use Rattle.dbus_auth.proofs.LastOk.{last_ok}
use Rattle.dbus_auth.proofs.Likewise.{bounded_handshake}
use Rattle.dbus_auth.proofs.Few.{client_stays_within, server_stays_within}
use Rattle.dbus_auth.proofs.laws.bounds_law.Goals as goal

pub returns-clause-handshake : goal.returns-clause-handshake
returns-clause-handshake c = bounded_handshake

pub returns-clause-last_ok : goal.returns-clause-last_ok
returns-clause-last_ok c = last_ok

pub returns-clause-any_cut : goal.returns-clause-any_cut
returns-clause-any_cut c = same_outcome

pub returns-clause-some_cut : goal.returns-clause-some_cut
returns-clause-some_cut c = λ left s bytes. (singly bytes, finishes_first left s bytes)

pub returns-clause-server : goal.returns-clause-server
returns-clause-server c = server_stays_within

pub returns-clause-client : goal.returns-clause-client
returns-clause-client c = client_stays_within
