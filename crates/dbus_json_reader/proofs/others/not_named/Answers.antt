use Rattle.std.proofs.Common.{sym, ◌∙◌, subst}
use Rattle.std.proofs.lemmas.Option.{IfSome_then}
use Rattle.json.specs.Value.{members_view}
use Rattle.dbus_json_reader.specs.JsonMessages.{other_names}
use Rattle.dbus_json_reader.specs.JsonNames.{AreNamed}
use Rattle.dbus_json_reader.proofs.Shapes.{no_object, object_seen, objects_same}
use Rattle.dbus_json_reader.proofs.others.not_named.Goals as goal

pub returns-in-Object : goal.returns-in-Object
returns-in-Object g c =
    let l = c.as_slice.result.now in
    let seen = object_seen c.args.json.now c.in-Object.members l c.in-Object.is c.as_slice.ensures.value in
    record {
      none = λ e. record { ms = members_view l; is = seen; are = c.strange_member.ensures.none e };
      some = IfSome_then c.strange_member.result c.strange_member.ensures.refused (λ why none h. none (subst (AreNamed other_names) (objects_same h.ms (members_view l) (sym h.is ∙ seen)) h.are));
    }

pub returns-in_default-clause-some : goal.returns-in_default-clause-some
returns-in_default-clause-some g c = λ h. no_object c.args.json.now c.in_default.not-Object h.ms (sym h.is)
