use Rattle.std.proofs.Common.{ap, arith}
use Rattle.dbus_values.specs.States.{ElementsState}
use Rattle.dbus_values.proofs.NumberRuns.{elements_within}
use Rattle.dbus_values.proofs.elements.Elements.bytes_left.Goals as goal

pub overflow_sub-result : goal.overflow_sub-result
overflow_sub-result c = omega (arith, elements_within c.self.invariant.3)

pub returns : goal.returns
returns c = λ xs rest l.
    let is = c.self.view_is in
    omega (arith, l.ends, ap (λ (s : ElementsState). s.at) is, ap (λ (s : ElementsState). s.end) is)
