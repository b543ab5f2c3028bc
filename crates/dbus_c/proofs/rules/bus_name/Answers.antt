use Rattle.dbus_texts.specs.declared.text_kind.TextKind.TheVariants.{BusName, Text}
use Rattle.dbus_texts.proofs.KindFacts.{is_kind_of, kind_is, name_is_text, text_utf8}
use Rattle.dbus_c.proofs.rules.bus_name.Goals as goal

pub returns-in_default : goal.returns-in_default
returns-in_default c = λ name.
    let w = c.args.text.now in
    let text = kind_is Text w (name_is_text BusName w tt (is_kind_of BusName w name)) in
    c.in_default.ensures.cases.0 (text_utf8 w text.0).0
