use Rattle.std.proofs.Common.{[], ◌∷◌, append-nil, sym, subst}
use Rattle.dbus_show.proofs.FieldTexts.{then}
use Rattle.dbus_json.specs.JsonMessages.{type_text}
use Rattle.dbus_json.proofs.header.write_front.Goals as goal

pub returns : goal.returns
returns g c =
    let gains = g.D.Draft.gains in
    let joins = g.met.D.Draft.joins in
    let letter = subst (λ b. gains c.push_str.new.self (b ∷ []) c.push_code.new.self) c.order_byte.ensures.named c.push_code.ensures in
    let kind = subst (λ s. gains c.push_str-2.new.self s c.write_type.new.draft) (sym (append-nil (type_text c.args.kind))) c.write_type.ensures in
    then gains joins c.push_str.ensures (then gains joins letter (then gains joins c.push_str-2.ensures kind))
