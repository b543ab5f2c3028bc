use Rattle.std.proofs.Common.{◌≡◌, ℕ, Option, refl, ap, ◌∙◌, arith}
use Rattle.std.proofs.lemmas.Bool.{eqb-true, eqb-false}
use Rattle.dbus_value_model.specs.FdIndexes.{index_limit}
use Rattle.dbus_value_model.specs.Bounds.{bounds_with}
use Rattle.dbus_message_model.specs.Messages.{body_fds}
use Rattle.dbus_validate.proofs.BodySteps.{body_ends, body_unspelled, body_longer}
use Rattle.dbus_validate.proofs.validating.is_body.Goals as goal

pub returns-in-Some-clause-accepts : goal.returns-in-Some-clause-accepts
returns-in-Some-clause-accepts c = λ here fs noted kind.
    let fds : c.index_limit-fds.result ≡ body_fds c.args.limits fs = c.index_limit-fds.ensures ∙ ap (λ (n : ℕ). index_limit c.args.limits.fds n) (c.fd_count.ensures c.args.bytes.now fs noted) in
    let bounds = c.bounds_with-bounds.ensures ∙ ap (λ (l : Option ℕ). bounds_with c.args.limits l) fds in
    body_ends c.args.limits c.args.order c.args.at c.args.end c.args.bytes.now c.signature-types.result.now c.bounds_with-bounds.result fs (c.signature-types.ensures fs noted) bounds kind c.in-Some.after c.in-Some.ensures.spelled (eqb-true c.in-Some.after c.args.end here)

pub returns-in-Some-clause-refuses : goal.returns-in-Some-clause-refuses
returns-in-Some-clause-refuses c = λ other fs noted kind.
    let fds : c.index_limit-fds.result ≡ body_fds c.args.limits fs = c.index_limit-fds.ensures ∙ ap (λ (n : ℕ). index_limit c.args.limits.fds n) (c.fd_count.ensures c.args.bytes.now fs noted) in
    let bounds = c.bounds_with-bounds.ensures ∙ ap (λ (l : Option ℕ). bounds_with c.args.limits l) fds in
    let apart = eqb-false c.in-Some.after c.args.end other in
    body_longer c.args.limits c.args.order c.args.at c.args.end c.args.bytes.now c.signature-types.result.now c.bounds_with-bounds.result fs (c.signature-types.ensures fs noted) bounds kind c.in-Some.after c.in-Some.ensures.spelled (omega (arith, apart, c.in-Some.ensures.moves))

pub returns-in-None-clause-refuses : goal.returns-in-None-clause-refuses
returns-in-None-clause-refuses c = λ no fs noted kind.
    let fds : c.index_limit-fds.result ≡ body_fds c.args.limits fs = c.index_limit-fds.ensures ∙ ap (λ (n : ℕ). index_limit c.args.limits.fds n) (c.fd_count.ensures c.args.bytes.now fs noted) in
    let bounds = c.bounds_with-bounds.ensures ∙ ap (λ (l : Option ℕ). bounds_with c.args.limits l) fds in
    body_unspelled c.args.limits c.args.order c.args.at c.args.end c.args.bytes.now c.signature-types.result.now c.bounds_with-bounds.result fs (c.signature-types.ensures fs noted) bounds kind c.requires.at_most (λ i. omega (arith, c.type_inv.bytes i)) (c.in-None.ensures.none refl)
