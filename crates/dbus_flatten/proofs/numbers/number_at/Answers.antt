use Rattle.std.proofs.Common.{◌≡◌, take, drop, ℕ, ap, ◌∙◌, arith}
use Rattle.dbus_value_model.specs.Reading.{number_of}
use Rattle.dbus_value_laws.proofs.ReadSteps.{one_byte}
use Rattle.dbus_flatten.proofs.numbers.number_at.Goals as goal

pub returns-in-1 : goal.returns-in-1
returns-in-1 c =
    let bytes = c.args.source.now.bytes.now in
    let one : 1 ≡ c.args.size = omega (arith, c.in-1.is) in
    c.from.ensures ∙ one_byte c.args.source.now.order bytes c.args.start (omega (arith, c.requires.inside, one)) ∙ ap (λ (n : ℕ). number_of c.args.source.now.order (take n (drop c.args.start bytes))) one
