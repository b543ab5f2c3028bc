use Rattle.std.proofs.Common.{refl}
use Rattle.dbus_list.specs.declared.cut_draft.Room.TheVariants as room
use Rattle.dbus_list.proofs.CutSteps.{full, stepped, unbounded}
use Rattle.dbus_list.proofs.cut_draft.CutDraftDraft.push_str.Goals as goal

pub returns-in-Unbounded : goal.returns-in-Unbounded
returns-in-Unbounded g c =
    stepped g.D.Draft.gains c.args.self.now _ c.args.text.now refl c.utf8.text room.Unbounded room.Unbounded c.in-Unbounded.is c.in-Unbounded.is
    (unbounded g.D.Draft.gains g.met.D.Draft.joins c.args.self.now.draft.now c.push_str.new.self c.args.text.now c.push_str.ensures)

pub returns-in-Full : goal.returns-in-Full
returns-in-Full g c =
    stepped g.D.Draft.gains c.args.self.now c.args.self.now c.args.text.now refl c.utf8.text room.Full room.Full c.in-Full.is c.in-Full.is
    (full g.D.Draft.gains c.args.self.now.draft.now c.args.text.now)
