use Rattle.std.proofs.Common.{◌≡◌, length, inl, inr, refl, arith}
use Rattle.dbus_header.proofs.OutcomeLaws.{one_whole, whole_inside}
use Rattle.dbus_view.proofs.view.MessageView.of_within.Goals as goal

pub returns-then-validated-bytes-clause-refused : goal.returns-then-validated-bytes-clause-refused
returns-then-validated-bytes-clause-refused c =
    let j = c.in-Some.validated in
    let h = c.in-Some.ensures.validated in
    inr (j.order, h.message, j.length, h.whole, c.if-validated-bytes.true, refl)

pub returns-then-validated-bytes-clause-accepts : goal.returns-then-validated-bytes-clause-accepts
returns-then-validated-bytes-clause-accepts c = λ order m w.
    let j = c.in-Some.validated in
    let h = c.in-Some.ensures.validated in
    absurd (omega (arith, c.if-validated-bytes.true, (one_whole c.args.limits c.args.bytes.now j.order order h.message m j.length (length c.args.bytes.now) h.whole w).2))

pub of_validated-requires-clause-all : goal.of_validated-requires-clause-all
of_validated-requires-clause-all c =
    let j = c.in-Some.validated in
    let h = c.in-Some.ensures.validated in
    omega (arith, (whole_inside c.args.limits c.args.bytes.now j.order h.message j.length h.whole).1, c.if-validated-bytes.false)

pub returns-in-None-clause-refused : goal.returns-in-None-clause-refused
returns-in-None-clause-refused c = inl c.fault_at_end.ensures

pub returns-in-None-clause-accepts : goal.returns-in-None-clause-accepts
returns-in-None-clause-accepts c = λ order m w. absurd (c.in-None.ensures.none refl order m (length c.args.bytes.now) w)
