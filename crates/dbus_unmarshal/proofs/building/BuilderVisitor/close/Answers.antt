use Rattle.dbus_unmarshal.proofs.Gathering.{closed}
use Rattle.dbus_unmarshal.proofs.building.BuilderVisitor.close.Goals as goal

pub returns-clause-takes : goal.returns-clause-takes
returns-clause-takes g c = λ v is_of. closed c.place.result c.args.gathered.now c.place.new.gathered c.args.held v c.in_ok-made.made (c.in_ok-made.ensures v) c.place.ensures
