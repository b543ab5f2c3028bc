use Rattle.std.proofs.Common.{◌≡◌, [], length, subst, ap, arith}
use Rattle.std.proofs.lemmas.List.{length-set, length-take}
use Rattle.dbus_message_model.specs.Messages.{MessageTree, message_bytes}
use Rattle.dbus_header.proofs.OutcomeLaws.{one_whole, whole_inside}
use Rattle.dbus_swap.specs.Byteswapping.{other}
use Rattle.dbus_swap.proofs.MessageParts.{whole_other, long, fields_there, types_few, body_there, message_byteswapped}
use Rattle.dbus_swap.proofs.messages.byteswap.Goals as goal

pub slice_bounds-source-end : goal.slice_bounds-source-end
slice_bounds-source-end c = omega (arith, (whole_inside c.args.limits c.args.bytes.now c.args.validated.now.order c.requires.validated.message c.args.validated.now.length c.requires.validated.whole).1, length-take c.args.validated.now.length c.args.bytes.now)

pub bounds-copy-0 : goal.bounds-copy-0
bounds-copy-0 c = omega (arith, long c.requires.validated, ap length c.requires.copied)

pub byteswap_4-requires : goal.byteswap_4-requires
byteswap_4-requires c = omega (arith, long c.requires.validated, ap length c.requires.copied, length-set c.args.copy.now 0 c.other_byte.result)

pub byteswap_4-requires-2 : goal.byteswap_4-requires-2
byteswap_4-requires-2 c = omega (arith, long c.requires.validated, ap length c.requires.copied, length-set c.args.copy.now 0 c.other_byte.result, c.byteswap_4.auto.out)

pub byteswap_fields-requires-clause-stand : goal.byteswap_fields-requires-clause-stand
byteswap_fields-requires-clause-stand c = let j = c.requires.validated in (j.message.fields, _, fields_there j)

pub lengths_of-requires : goal.lengths_of-requires
lengths_of-requires c = let j = c.requires.validated in record { few = types_few j c.signature-types.result.now (c.signature-types.ensures j.message.fields j.fields) }

pub byteswap_values-requires-clause-stand : goal.byteswap_values-requires-clause-stand
byteswap_values-requires-clause-stand c =
    let j = c.requires.validated in
    (j.message.body, [], body_there j c.signature-types.result.now (c.signature-types.ensures j.message.fields j.fields))

pub returns-clause-byteswapped : goal.returns-clause-byteswapped
returns-clause-byteswapped c = λ m whole.
    let j = c.requires.validated in
    let order = c.args.validated.now.order in
    let same = (one_whole c.args.limits c.args.bytes.now order order j.message m c.args.validated.now.length c.args.validated.now.length j.whole whole).1 in
    let fields = c.byteswap_fields.ensures.byteswapped j.message.fields _ (fields_there j) in
    let values = c.byteswap_values.ensures.byteswapped j.message.body [] (body_there j c.signature-types.result.now (c.signature-types.ensures j.message.fields j.fields)) in
    subst (λ (n : MessageTree). c.byteswap_values.new.out ≡ message_bytes (other order) n) same
    (message_byteswapped j c.args.copy.now c.byteswap_4.new.out c.byteswap_4-2.new.out c.byteswap_fields.new.out c.byteswap_values.new.out c.other_byte.result c.requires.copied c.other_byte.ensures c.byteswap_4.ensures c.byteswap_4-2.ensures fields values)

pub returns-clause-whole : goal.returns-clause-whole
returns-clause-whole c = λ m whole. whole_other c.args.limits c.args.validated.now.order m c.args.validated.now.length c.args.bytes.now c.byteswap_values.new.out whole (returns-clause-byteswapped c m whole)
