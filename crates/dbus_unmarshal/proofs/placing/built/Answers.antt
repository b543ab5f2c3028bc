use Rattle.dbus_unmarshal.proofs.Gathering.{close_fields, close_elements, close_none}
use Rattle.dbus_unmarshal.proofs.placing.built.Goals as goal

pub returns-in-Fields : goal.returns-in-Fields
returns-in-Fields g c = λ v. close_fields v c.in-Fields.field-0 c.in-Fields.values c.in-Fields.is

pub returns-in-Elements : goal.returns-in-Elements
returns-in-Elements g c = λ v. close_elements v c.in-Elements.item c.in-Elements.values c.in-Elements.is

pub returns : goal.returns
returns g c = λ v. close_none c.args.held v _ c.in_default.not-Held c.in_default.not-Both c.in_default.not-Fields c.in_default.not-Elements
