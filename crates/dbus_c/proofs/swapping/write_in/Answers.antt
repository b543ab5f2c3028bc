use Rattle.std.proofs.Common.{◌≡◌, ℕ, List, ◌++◌, drop, sym, ap, ◌∙◌, arith}
use Rattle.std.proofs.lemmas.List.{length-take}
use Rattle.dbus_value_model.specs.declared.order.Order.{Order}
use Rattle.dbus_message_model.specs.Messages.{message_bytes}
use Rattle.dbus_header.proofs.OutcomeLaws.{whole_bytes, whole_inside}
use Rattle.dbus_swap.specs.Byteswapping.{other}
use Rattle.dbus_c.proofs.Swapped.{one_order, other_order}
use Rattle.dbus_c.proofs.swapping.write_in.Goals as goal

pub slice_bounds-copy_from_slice-end : goal.slice_bounds-copy_from_slice-end
slice_bounds-copy_from_slice-end c =
    let j = c.requires.validated in
    let n = c.args.validated.now.length in
    omega (arith, (whole_inside c.args.limits c.args.bytes.now c.args.validated.now.order j.message n j.whole).1, length-take {A = ℕ})

pub copy_from_slice-requires : goal.copy_from_slice-requires
copy_from_slice-requires c =
    let j = c.requires.validated in
    let n = c.args.validated.now.length in
    omega (arith, (whole_inside c.args.limits c.args.bytes.now c.args.validated.now.order j.message n j.whole).1, length-take {A = ℕ})

pub returns-else-ne : goal.returns-else-ne
returns-else-ne c = λ m whole.
    let b = c.args.bytes.now in
    let n = c.args.validated.now.length in
    let parts = whole_bytes c.args.limits b c.args.validated.now.order m n whole in
    let same : c.args.validated.now.order ≡ c.args.order = one_order c.args.validated.now.order c.args.order (sym c.ne.ensures ∙ c.if-ne.false) in
    ap (λ (t : List ℕ). t ++ drop n c.args.out.now) (c.copy_from_slice.ensures.after ∙ parts.0 ∙ ap (λ (o : Order). message_bytes o m) same)

pub returns-then-ne : goal.returns-then-ne
returns-then-ne c = λ m whole.
    let n = c.args.validated.now.length in
    let turned : other c.args.validated.now.order ≡ c.args.order = other_order c.args.validated.now.order c.args.order (sym c.ne.ensures ∙ c.if-ne.true) in
    ap (λ (t : List ℕ). t ++ drop n c.args.out.now) (c.byteswap.ensures.byteswapped m whole ∙ ap (λ (o : Order). message_bytes o m) turned)
