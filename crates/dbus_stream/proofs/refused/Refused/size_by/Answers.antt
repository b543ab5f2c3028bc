use Rattle.std.proofs.Common.{rules, ◌≡◌, ◌+◌, [], ◌∷◌, arith, length, ap, ◌∙◌, take}
use Rattle.dbus_value_model.specs.Bytes.{gap_to}
use Rattle.dbus_message_model.specs.Messages.{order_byte}
use Rattle.dbus_stream.specs.StatedSizes.{four_at}
use Rattle.dbus_stream.proofs.SizeSteps.{fields_over, first_one, size_over, states}
use Rattle.dbus_stream.proofs.refused.Refused.size_by.Goals as goal

pub returns-then-fields-limits-clause-none : goal.returns-then-fields-limits-clause-none
returns-then-fields-limits-clause-none c = λ _ gone has.
    let r = c.args.self.now in
    let all : length r.front ≡ 16 = search rules in
    let first : take 1 r.front ≡ order_byte c.args.order ∷ [] = first_one r.front (order_byte c.args.order) (omega (arith, all)) c.requires.first in
    let over = c.if-fields-limits.true in
    let fields = c.u32_at-fields.ensures.spelled in
    fields_over r all gone has c.args.limits c.requires.many c.args.order first (omega (arith, over, fields))

pub returns-then-size-from-clause-none : goal.returns-then-size-from-clause-none
returns-then-size-from-clause-none c = λ _ gone has.
    let r = c.args.self.now in
    let all : length r.front ≡ 16 = search rules in
    let order = c.args.order in
    let first : take 1 r.front ≡ order_byte order ∷ [] = first_one r.front (order_byte order) (omega (arith, all)) c.requires.first in
    let fields : c.u32_at-fields.result ≡ four_at order 12 r.front = c.u32_at-fields.ensures.spelled in
    let body : c.u32_at-body.result ≡ four_at order 4 r.front = c.u32_at-body.ensures.spelled in
    let end : c.from-end.result ≡ four_at order 12 r.front = c.from-end.ensures ∙ fields in
    let gap : c.from.result ≡ gap_to 8 (16 + four_at order 12 r.front) = c.from.ensures ∙ (c.padding_length.ensures.exact ∙ ap (λ n. gap_to 8 (16 + n)) end) in
    let rest : c.from-2.result ≡ four_at order 4 r.front = c.from-2.ensures ∙ body in
    let over = c.if-size-from.true in
    let limit = c.from-3.ensures in
    size_over r all gone has c.args.limits c.requires.many order first (omega (arith, over, limit, end, gap, rest))

pub returns-clause-states : goal.returns-clause-states
returns-clause-states c = λ gone has.
    let r = c.args.self.now in
    let all : length r.front ≡ 16 = search rules in
    let order = c.args.order in
    let first : take 1 r.front ≡ order_byte order ∷ [] = first_one r.front (order_byte order) (omega (arith, all)) c.requires.first in
    let fields : c.u32_at-fields.result ≡ four_at order 12 r.front = c.u32_at-fields.ensures.spelled in
    let body : c.u32_at-body.result ≡ four_at order 4 r.front = c.u32_at-body.ensures.spelled in
    let end : c.from-end.result ≡ four_at order 12 r.front = c.from-end.ensures ∙ fields in
    let gap : c.from.result ≡ gap_to 8 (16 + four_at order 12 r.front) = c.from.ensures ∙ (c.padding_length.ensures.exact ∙ ap (λ n. gap_to 8 (16 + n)) end) in
    let rest : c.from-2.result ≡ four_at order 4 r.front = c.from-2.ensures ∙ body in
    let within = c.if-size-from.false in
    let limit = c.from-3.ensures in
    let fits = c.if-fields-limits.false in
    states r all gone has c.args.limits c.requires.many order first _ (omega (arith, fits, fields)) (omega (arith, end, gap, rest)) (omega (arith, within, limit))
