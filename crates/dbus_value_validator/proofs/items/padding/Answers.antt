use Rattle.std.proofs.Common.{◌≡◌, ◌+◌, ◌-◌, drop, arith, sym, ◌∙◌}
use Rattle.dbus_value_laws.proofs.ReadSteps.{goes_on_zeros, breaks_zeros, padding_is, padding_overruns, zeros_done}
use Rattle.dbus_value_model.specs.Reading.{padding}
use Rattle.dbus_value_validator.proofs.ReadParts.{not_faulty}
use Rattle.dbus_value_validator.proofs.items.padding.Goals as goal

pub loop-i-preserved : goal.loop-i-preserved
loop-i-preserved c =
    let stop = c.args.at + c.gap-gap.result in
    sym (goes_on_zeros (stop - c.loop-i.i) (stop - (c.loop-i.i + 1)) c.loop-i.i c.args.bytes.now (omega arith) (omega arith) c.if-bytes-i-ne0.false) ∙ c.loop-i.invariant

pub returns-clause-gives : goal.returns-clause-gives
returns-clause-gives c =
    let gap = c.gap-gap.result in
    let here : c.loop-i.i ≡ c.args.at + gap = omega arith in
    padding_is c.args.boundary c.args.end c.args.at gap _ (omega arith) (omega arith) ∙ sym c.loop-i.invariant ∙ zeros_done (c.args.at + gap) c.loop-i.i c.args.bytes.now here

pub returns-then-end-at-clause-none : goal.returns-then-end-at-clause-none
returns-then-end-at-clause-none c = λ none.
    not_faulty (padding c.args.boundary c.args.end c.args.at (drop c.args.at c.args.bytes.now)) _ (padding_overruns c.args.boundary c.args.end c.args.at c.gap-gap.result (drop c.args.at c.args.bytes.now) (omega arith) (omega arith))

pub returns-then-bytes-i-ne0-clause-none : goal.returns-then-bytes-i-ne0-clause-none
returns-then-bytes-i-ne0-clause-none c = λ none.
    let gap = c.gap-gap.result in
    let stop = c.args.at + gap in
    not_faulty (padding c.args.boundary c.args.end c.args.at (drop c.args.at c.args.bytes.now)) _ (
    padding_is c.args.boundary c.args.end c.args.at gap (drop c.args.at c.args.bytes.now) (omega arith) (omega arith) ∙ sym c.loop-i.invariant
    ∙ breaks_zeros (stop - c.loop-i.i) (stop - (c.loop-i.i + 1)) c.loop-i.i c.args.bytes.now (omega arith) (omega arith) c.if-bytes-i-ne0.true
    )
