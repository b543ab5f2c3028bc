use Rattle.dbus_list.proofs.JoinSteps.{passes}
use Rattle.dbus_list.proofs.joined_draft.JoinedDraft.push_past.Goals as goal

pub returns : goal.returns
returns g c =
    passes g.D.Draft.gains g.met.D.Draft.joins c.args.self.now _ c.finish.new.self.draft.now c.args.text.now c.finish.ensures.same c.finish.ensures.written c.push_str.ensures c.finish.ensures.none
