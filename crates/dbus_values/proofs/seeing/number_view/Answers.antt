use Rattle.std.proofs.Common.{◌≡◌, ℕ, take, drop, get_or, sym, ap, ◌∙◌, arith}
use Rattle.dbus_texts.specs.Types.{NumberCode, BYTE}
use Rattle.dbus_types.specs.Alignments.{width}
use Rattle.dbus_value_laws.proofs.ReadSteps.{one_byte}
use Rattle.dbus_value_model.specs.Reading.{number_of}
use Rattle.dbus_value_model.specs.Values.{NumberValue}
use Rattle.dbus_walk.proofs.ReadThere.{byte_code}
use Rattle.dbus_values.proofs.seeing.number_view.Goals as goal

pub returns-in-121-clause-seen : goal.returns-in-121-clause-seen
returns-in-121-clause-seen c = λ k n e formed read.
    let is : k ≡ BYTE = byte_code k (e ∙ c.in-121.is) in
    let here = c.requires.inside BYTE (sym c.in-121.is) in
    let bytes = c.args.source.now.bytes.now in
    let byte : get_or bytes c.args.start 0 ≡ n =
    one_byte c.args.source.now.order bytes c.args.start (omega (arith, here)) ∙ ap (λ (j : NumberCode). number_of c.args.source.now.order (take (width j) (drop c.args.start bytes))) (sym is) ∙ read in
    ap (λ (j : NumberCode). NumberValue j n) is ∙ ap (λ (m : ℕ). NumberValue BYTE m) (sym byte)
