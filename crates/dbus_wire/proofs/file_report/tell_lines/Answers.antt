use Rattle.std.proofs.Common.{List, ℕ, ◌∙◌, inl, subst}
use Rattle.dbus_tool.specs.Handshaking.{Shows}
use Rattle.dbus_wire.proofs.file_report.tell_lines.Goals as goal

pub returns-in-Ok : goal.returns-in-Ok
returns-in-Ok g c =
    inl (subst (λ (t : List ℕ). Shows g.E.Sink.held g.E.Sink.failures c.args.second.now c.tell.new.second c.args.status t c.tell.result) (c.as_str.ensures.value ∙ c.in-Ok.ensures) c.tell.ensures)
