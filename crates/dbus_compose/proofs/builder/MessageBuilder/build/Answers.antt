use Rattle.dbus_compose.proofs.FieldPlaces.{refused}
use Rattle.dbus_compose.proofs.builder.MessageBuilder.build.Goals as goal

pub returns-in-Err : goal.returns-in-Err
returns-in-Err g c =
    refused c.args.self.parts c.in_ok-parts.field-0 c.in_ok-parts-2.parts c.in-Err.fault c.in_ok-parts.was c.in_ok-parts-2.ensures.signed c.in_ok-parts-2.ensures.body c.in-Err.ensures.built.1
