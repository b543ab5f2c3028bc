use Rattle.std.proofs.Common.{[]}
use Rattle.dbus_compose.specs.Drafts.{begun, name_field, path_field, with_field, drafted}
use Rattle.dbus_compose.proofs.FieldPlaces.{first_step, next_step}
use Rattle.dbus_compose.proofs.compose.MessageCompose.call.Goals as goal

pub returns : goal.returns
returns g c =
    let path = path_field c.args.path.now in
    let member = name_field 3 c.args.member.now in
    next_step (with_field path (begun 1 0 [])) (with_field member) (drafted c.path.result) (drafted c.name.result)
    (first_step (begun 1 0 []) (with_field path) (drafted c.begin.result) (drafted c.path.result) c.begin.ensures c.path.ensures) c.name.ensures
