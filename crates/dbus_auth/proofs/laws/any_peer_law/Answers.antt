use Rattle.std.specs.Prelude.{None}
use Rattle.dbus_auth.proofs.LastOk.{last_ok}
use Rattle.dbus_auth.proofs.AnyCut.{same_outcome}
use Rattle.dbus_auth.proofs.Finishes.{singly, finishes_first}
use Rattle.dbus_auth.proofs.laws.any_peer_law.Goals as goal

pub returns-clause-last_ok : goal.returns-clause-last_ok
returns-clause-last_ok c = last_ok None

pub returns-clause-any_cut : goal.returns-clause-any_cut
returns-clause-any_cut c = same_outcome None

pub returns-clause-some_cut : goal.returns-clause-some_cut
returns-clause-some_cut c = λ s bytes. (singly bytes, finishes_first None s bytes)
