use Rattle.std.proofs.Common.{◌≡◌, ℕ, List, Vec, length, ap, subst, ◌∙◌}
use Rattle.std.specs.Slice.{IsItemAt}
use Rattle.dbus_types.specs.declared.sig_type.SigType as ty
use Rattle.dbus_types.specs.declared.sig_type.SigType.{SigType}
use Rattle.dbus_value_model.specs.Values.{type_of}
use Rattle.dbus_unmarshal.proofs.Gathering.{field_there, next_field, next_element}
use Rattle.dbus_unmarshal.proofs.opening.next_type.Goals as goal

pub returns-in-Fields : goal.returns-in-Fields
returns-in-Fields g c = λ v x done us n.
    let ts = c.in-Fields.types.value.items in
    let k = length c.in-Fields.values.items in
    let list : c.deref-in-Fields.result.now ≡ ts = c.deref-in-Fields.ensures.value ∙ ap (λ (l : Vec (SigType g.row.A.Denot) g.row.A.Denot). l.items) c.deref.ensures in
    let long : c.len.result ≡ k = c.len.ensures ∙ c.in-Fields.values.ok.0 in
    let found = next_field c.args.gathered.now v x done us n c.in-Fields.types c.in-Fields.values c.in-Fields.is in
    field_there c.get.result ts k (type_of x)
    (subst (λ (l : List (SigType g.row.A.Denot)). IsItemAt l k c.get.result) list (subst (λ (i : ℕ). IsItemAt c.deref-in-Fields.result.now i c.get.result) long c.get.ensures.lookup))
    (found ty.Byte).0 (λ d. (found d).1)

pub returns-in-Elements : goal.returns-in-Elements
returns-in-Elements g c = λ v x done us n. next_element c.args.gathered.now v x done us n c.in-Elements.item c.in-Elements.field-1 c.in-Elements.is
