use Rattle.std.proofs.Common.{ℕ, List, subst, ◌∙◌}
use Rattle.dbus_device.specs.Device.{Stopped}
use Rattle.cli_encode.proofs.writing.tell_refused.Goals as goal

pub returns-in-Ok : goal.returns-in-Ok
returns-in-Ok g c = (
  c.in-Err-write_all.field-0.0,
  subst (λ (l : List ℕ). Stopped g.E.Sink.held g.E.Sink.failures c.args.second.now l c.in-Err-write_all.field-0.0 c.write_all.new.sink) (c.as_bytes.ensures.value ∙ c.in-Ok.ensures) c.in-Err-write_all.ensures.writes,
)
