use Rattle.std.proofs.Common.{subst}
use Rattle.dbus_value_model.specs.Values.{ValueTree}
use Rattle.dbus_value_model.proofs.ValueRows.{tree-U32}
use Rattle.dbus_compose.specs.Drafts.{Becomes, field_of, with_field, drafted}
use Rattle.dbus_compose.proofs.builder.MessageBuilder.unix_fds.Goals as goal

pub returns : goal.returns
returns g c = subst (λ (v : ValueTree). Becomes (drafted c.args.self) (with_field (field_of 9 v)) (drafted c.field.result)) (tree-U32 _ c.args.count) c.field.ensures
