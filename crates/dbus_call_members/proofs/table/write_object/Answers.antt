use Rattle.std.proofs.Common.{List, ℕ, decimal, subst}
use Rattle.dbus_json.specs.JsonValues.{string}
use Rattle.dbus_show.proofs.FieldTexts.{then}
use Rattle.dbus_call_members.specs.Tables.{times_members}
use Rattle.dbus_call_members.proofs.TableTexts.{object_is}
use Rattle.dbus_call_members.proofs.table.write_object.Goals as goal

pub returns : goal.returns
returns g c =
    let gains = g.D.Draft.gains in
    let joins = g.met.D.Draft.joins in
    let sum = c.args.sum in
    subst (λ (t : List ℕ). gains c.args.draft.now t c.push_str-6.new.self) (object_is (string c.args.member.now) (decimal sum.calls) (decimal sum.replies) (decimal sum.errors) (decimal sum.unanswered) (times_members sum))
    (then gains joins c.push_str.ensures (then gains joins c.write_string.ensures (then gains joins c.push_str-2.ensures (then gains joins c.write_integer.ensures (then gains joins c.push_str-3.ensures (then gains joins c.write_integer-2.ensures
    (then gains joins c.push_str-4.ensures (then gains joins c.write_integer-3.ensures (then gains joins c.push_str-5.ensures (then gains joins c.write_integer-4.ensures (then gains joins c.write_times_members.ensures c.push_str-6.ensures)))))))))))
