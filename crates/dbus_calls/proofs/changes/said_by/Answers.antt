use Rattle.std.proofs.Common.{◌≡◌, false, None, option_map, codes, if◌then◌else◌, sym, ap, ◌∙◌}
use Rattle.dbus_message_model.specs.KnownFields.{field_value}
use Rattle.dbus_message_model.specs.declared.field_code.TheConstants as field
use Rattle.dbus_calls.specs.OwnerChanges.{changed_by, has_text, is_text, name_told}
use Rattle.dbus_calls.specs.OwnerChanges.Change.{Owned, Lost}
use Rattle.dbus_calls.proofs.Said.{text_seen}
use Rattle.dbus_calls.proofs.changes.said_by.Goals as goal

pub returns : goal.returns
returns c = λ order m v.
    let member = sym (text_seen c.member-member.result (field_value field.MEMBER m.fields) (c.member-member.ensures order m v)) in
    let changed : has_text field.MEMBER m (codes "NameOwnerChanged") ≡ false = ap (λ t. is_text t (codes "NameOwnerChanged")) member ∙ (sym c.is_text.ensures ∙ c.if-is_text.false) in
    let acquired : has_text field.MEMBER m (codes "NameAcquired") ≡ false = ap (λ t. is_text t (codes "NameAcquired")) member ∙ (sym c.is_text-2.ensures ∙ c.if-is_text-2.false) in
    let lost : has_text field.MEMBER m (codes "NameLost") ≡ false = ap (λ t. is_text t (codes "NameLost")) member ∙ (sym c.is_text-3.ensures ∙ c.if-is_text-3.false) in
    sym (λ i. if changed i then changed_by m else if acquired i then option_map Owned (name_told m) else if lost i then option_map Lost (name_told m) else None)
