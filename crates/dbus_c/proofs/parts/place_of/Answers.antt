use Rattle.std.proofs.Common.{Option, None, sym, subst, ◌∙◌}
use Rattle.dbus_value_model.specs.Values.{ValueTree}
use Rattle.dbus_message_model.specs.KnownFields.{field_value}
use Rattle.dbus_validate.specs.Seen.{IsNotedOf}
use Rattle.dbus_validate.specs.declared.seen.FieldPlace.{FieldPlace}
use Rattle.dbus_c.proofs.parts.place_of.Goals as goal

pub returns-in-Some-clause-own : goal.returns-in-Some-clause-own
returns-in-Some-clause-own c = λ order bytes fs noted placed known v is. c.from.ensures ∙ placed c.args.code v c.in-Some.place known is (sym c.in-Some.ensures)

pub returns-in-None-clause-own : goal.returns-in-None-clause-own
returns-in-None-clause-own c = λ order bytes fs noted placed known v is.
    let none = subst (λ (p : Option FieldPlace). IsNotedOf (field_value c.args.code fs) bytes p) (sym c.in-None.ensures) (noted c.args.code known) in
    absurd (subst (λ (u : Option ValueTree). IsNotedOf u bytes None) is none)
