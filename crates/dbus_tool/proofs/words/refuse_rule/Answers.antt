use Rattle.std.proofs.Common.{List, ℕ, inl, string_bytes, subst}
use Rattle.dbus_tool.specs.Handshaking.{Shows}
use Rattle.cli_report.specs.declared.ending.ExitStatus.TheVariants.{Usage}
use Rattle.dbus_tool.proofs.words.refuse_rule.Goals as goal

pub returns-in-Ok : goal.returns-in-Ok
returns-in-Ok g c =
    inl (string_bytes c.in-Ok.text, c.in-Ok.ensures, subst (λ (t : List ℕ). Shows g.E.Sink.held g.E.Sink.failures c.args.second.now c.show.new.second Usage t c.show.result) c.as_str.ensures.value c.show.ensures)
