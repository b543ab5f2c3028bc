use Rattle.std.proofs.Common.{sym, subst}
use Rattle.dbus_show.proofs.FieldTexts.{then}
use Rattle.dbus_value_model.specs.FaultTexts.{reason_text}
use Rattle.dbus_value_model.specs.declared.fault.Reason.{Reason}
use Rattle.dbus_page.proofs.reason.write_reason.Goals as goal

pub returns-in-FieldMissing : goal.returns-in-FieldMissing
returns-in-FieldMissing g c =
    subst (λ (r : Reason). g.D.Draft.gains c.args.draft.now (reason_text r) c.push_str-in-FieldMissing.new.self) (sym c.in-FieldMissing.is)
    (then g.D.Draft.gains g.met.D.Draft.joins c.push_str.ensures (then g.D.Draft.gains g.met.D.Draft.joins c.write_integer.ensures c.push_str-in-FieldMissing.ensures))

pub returns-in-ArrayTooLong : goal.returns-in-ArrayTooLong
returns-in-ArrayTooLong g c =
    subst (λ (r : Reason). g.D.Draft.gains c.args.draft.now (reason_text r) c.push_str-in-ArrayTooLong.new.self) (sym c.in-ArrayTooLong.is) c.push_str-in-ArrayTooLong.ensures

pub returns-in-MessageTooLong : goal.returns-in-MessageTooLong
returns-in-MessageTooLong g c =
    subst (λ (r : Reason). g.D.Draft.gains c.args.draft.now (reason_text r) c.push_str-in-MessageTooLong.new.self) (sym c.in-MessageTooLong.is) c.push_str-in-MessageTooLong.ensures

pub returns-in-NameTooLong : goal.returns-in-NameTooLong
returns-in-NameTooLong g c =
    subst (λ (r : Reason). g.D.Draft.gains c.args.draft.now (reason_text r) c.push_str-in-NameTooLong.new.self) (sym c.in-NameTooLong.is) c.push_str-in-NameTooLong.ensures
