use Rattle.std.proofs.Common.{ℕ, List, Bor, option_map}
use Rattle.dbus_compose.specs.Drafts.{begun, fields_to, name_field, with_field, drafted}
use Rattle.dbus_compose.proofs.FieldPlaces.{next_step}
use Rattle.dbus_compose.proofs.builder.MessageBuilder.error.Goals as goal

pub returns : goal.returns
returns g c =
    next_step (begun 3 1 (fields_to c.args.serial (option_map (λ (s : Bor (List ℕ)). s.now) c.args.sender))) (with_field (name_field 4 c.args.name.now)) (drafted c.begin_reply.result) (drafted c.name.result) c.begin_reply.ensures c.name.ensures
