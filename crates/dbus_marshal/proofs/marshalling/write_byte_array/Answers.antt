use Rattle.std.proofs.Common.{◌++◌, length, take, sym, ap, ◌∙◌, arith}
use Rattle.std.proofs.lemmas.List.{length-append, length-take-le}
use Rattle.dbus_value_model.specs.SizeLimits.{with_padding}
use Rattle.dbus_value_model.specs.Bytes.{num}
use Rattle.dbus_value_model.proofs.Numbers.{length-num}
use Rattle.dbus_marshal.proofs.Spells.{written_bytes, length_bytes}
use Rattle.dbus_marshal.proofs.marshalling.write_byte_array.Goals as goal

pub write_number-place-requires-clause-space : goal.write_number-place-requires-clause-space
write_number-place-requires-clause-space c =
    omega (arith, length_bytes c.args.order c.args.bytes.now (take c.args.at c.args.out.now) (λ i. omega (arith, c.type_inv.bytes i)), c.requires.space)

pub write_bytes-requires : goal.write_bytes-requires
write_bytes-requires c =
    let front = take c.args.at c.args.out.now in
    let n = c.write_number-place in
    let long = length-append (with_padding 4 front) (num c.args.order 4 (length c.args.bytes.now)) in
    let four = length-num c.args.order 4 (length c.args.bytes.now) in
    record { space = omega (arith, length_bytes c.args.order c.args.bytes.now front (λ i. omega (arith, c.type_inv.bytes i)), ap length n.ensures.written, long, four, length-take-le n.result n.new.out n.ensures.within, n.auto.out, c.requires.space) }

pub returns-clause-written : goal.returns-clause-written
returns-clause-written c =
    c.write_bytes.ensures.written ∙ ap (λ l. l ++ c.args.bytes.now) c.write_number-place.ensures.written
    ∙ sym (written_bytes c.args.order c.args.bytes.now (take c.args.at c.args.out.now) (λ i. omega (arith, c.type_inv.bytes i)))
