use Rattle.dbus_unmarshal.proofs.Gathering.{placed}
use Rattle.dbus_unmarshal.proofs.building.BuilderVisitor.short_text.Goals as goal

pub returns-clause-takes : goal.returns-clause-takes
returns-clause-takes g c = λ v rest s. placed c.place.result c.args.gathered.now c.place.new.gathered v c.in_ok-made.made (λ u done us next. c.in_ok-made.ensures v rest s) c.place.ensures
