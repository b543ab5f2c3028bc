use Rattle.std.proofs.Common.{◌∷◌, [], append-nil, sym, subst}
use Rattle.dbus_show.specs.ShownMessages.{kind_text}
use Rattle.dbus_show.proofs.FieldTexts.{then}
use Rattle.dbus_show.proofs.show.write_front.Goals as goal

pub returns : goal.returns
returns g c =
    let gains = g.D.Draft.gains in
    let joins = g.met.D.Draft.joins in
    let letter = subst (λ b. gains c.push_code-2.new.self (b ∷ []) c.push_code-3.new.self) c.order_byte.ensures.named c.push_code-3.ensures in
    let kind = subst (λ s. gains c.push_code-4.new.self s c.write_kind.new.draft) (sym (append-nil (kind_text c.args.kind))) c.write_kind.ensures in
    then gains joins c.push_code.ensures (then gains joins c.write_integer.ensures (then gains joins c.push_code-2.ensures (then gains joins letter (then gains joins c.push_code-4.ensures kind))))
