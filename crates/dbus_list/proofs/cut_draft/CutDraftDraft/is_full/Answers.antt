use Rattle.std.proofs.Common.{refl}
use Rattle.dbus_list.specs.declared.cut_draft.Room.TheVariants as room
use Rattle.dbus_list.proofs.CutSteps.{full, stepped}
use Rattle.dbus_list.proofs.cut_draft.CutDraftDraft.is_full.Goals as goal

pub returns-in-Full : goal.returns-in-Full
returns-in-Full g c = λ is text utf8.
    stepped g.D.Draft.gains c.args.self.now c.args.self.now text refl utf8 room.Full room.Full c.in-Full.is c.in-Full.is
    (full g.D.Draft.gains c.args.self.now.draft.now text)
