use Rattle.std.proofs.Common.{[]}
use Rattle.dbus_list.proofs.joined_draft.JoinedDraft.new.Goals as goal

pub returns-clause-begins : goal.returns-clause-begins
returns-clause-begins g c = record { front = []; gained = g.met.D.Draft.nothing c.args.draft.now; whole = c.new.ensures }
