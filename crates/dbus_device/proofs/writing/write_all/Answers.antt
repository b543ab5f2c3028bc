use Rattle.std.proofs.Common.{subst, sym, ◌∙◌}
use Rattle.std.proofs.lemmas.List.{take_rest}
use Rattle.dbus_device.specs.declared.device_fault.DeviceFault.{DeviceFault}
use Rattle.dbus_device.proofs.WriteSteps.{WritesUpTo, more_written}
use Rattle.dbus_device.proofs.writing.write_all.Goals as goal

pub writing-preserved : goal.writing-preserved
writing-preserved g c =
    let rest = c.writing.rest.now in (
      subst (λ l. WritesUpTo g.W.Sink.held g.W.Sink.failures c.args.sink.now c.args.bytes.now l c.write.new.self) (sym (take_rest rest c.in-Ok.count))
          (more_written g.W.Sink.held g.W.Sink.failures DeviceFault c.args.sink.now c.writing.sink c.write.new.self c.args.bytes.now rest c.in-Ok.count
          c.writing.invariant.0 c.if-count-eq0.false c.in-Ok.ensures.bytes c.in-Ok.ensures.failed),
      c.write.ensures.same_reference ∙ c.writing.invariant.1,
    )
