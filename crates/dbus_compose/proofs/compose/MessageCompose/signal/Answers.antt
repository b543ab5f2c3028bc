use Rattle.std.proofs.Common.{[]}
use Rattle.dbus_compose.specs.Drafts.{begun, name_field, path_field, with_field, drafted}
use Rattle.dbus_compose.proofs.FieldPlaces.{first_step, next_step}
use Rattle.dbus_compose.proofs.compose.MessageCompose.signal.Goals as goal

pub returns : goal.returns
returns g c =
    let path = path_field c.args.path.now in
    let interface = name_field 2 c.args.interface.now in
    let member = name_field 3 c.args.member.now in
    next_step (with_field interface (with_field path (begun 4 1 []))) (with_field member) (drafted c.name.result) (drafted c.name-2.result)
    (next_step (with_field path (begun 4 1 [])) (with_field interface) (drafted c.path.result) (drafted c.name.result)
    (first_step (begun 4 1 []) (with_field path) (drafted c.begin.result) (drafted c.path.result) c.begin.ensures c.path.ensures) c.name.ensures) c.name-2.ensures
