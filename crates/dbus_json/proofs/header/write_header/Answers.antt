use Rattle.std.proofs.Common.{ℕ, List, [], ◌∷◌, ◌++◌, codes, decimal, refl, subst}
use Rattle.dbus_show.proofs.FieldTexts.{then}
use Rattle.dbus_json.specs.JsonMessages.{head_members, type_text}
use Rattle.dbus_json.specs.JsonValues.{array, member, object, plain}
use Rattle.dbus_message_model.specs.Messages.{order_byte}
use Rattle.dbus_json.proofs.OneLines.{header_is}
use Rattle.dbus_json.proofs.header.write_header.Goals as goal

pub returns : goal.returns
returns g c = record {
  written = λ fs rest s.
      let gains = g.D.Draft.gains in
      let joins = g.met.D.Draft.joins in
      let order = c.args.order in
      let w = c.write_header_fields.ensures.written fs rest s in
      let first = member (codes "order") (plain (order_byte order ∷ [])) in
      let later = member (codes "type") (type_text c.args.kind) ∷ member (codes "flags") (decimal c.args.flags) ∷ member (codes "serial") (decimal c.args.serial) ∷ [] in (
        object (head_members order c.args.kind c.args.flags c.args.serial ++ (w.0 ++ (member (codes "fields") (array w.1) ∷ []))),
        record { known = w.0; others = w.1; fields = w.2; is = refl },
        subst (λ (t : List ℕ). gains c.args.draft.now t c.push_code-2.new.self) (header_is first later w.0 w.1)
            (then gains joins c.push_code.ensures (then gains joins c.write_head.ensures (then gains joins w.3 c.push_code-2.ensures))),
      );
}
