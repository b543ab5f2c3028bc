use Rattle.std.proofs.Common.{◌≡◌, ◌+◌, ◌-◌, ℕ, drop, refl, subst, arith}
use Rattle.dbus_header.specs.NoMessage.{BeginsWithNone}
use Rattle.dbus_resync.specs.Search.{Looks, LooksBefore}
use Rattle.dbus_resync.proofs.Steps.{is_none, looks_from, looks_more, none_from, none_more, none_there}
use Rattle.dbus_resync.proofs.search.first_message.Goals as goal
use Rattle.dbus_resync.proofs.search.first_message.Goals.{else-size-gt0-via-then-size-gt0+else-is_some, else-size-gt0-via-else-size-gt0}

pub returns-then-size-left-clause-effort : goal.returns-then-size-left-clause-effort
returns-then-size-left-clause-effort c =
    let i = c.loop-at.invariant in
    let size = c.size_there-size.result in (
      refl,
      c.loop-at.at,
      i.0,
      i.1.0 + size,
      looks_more c.args.limits c.args.bytes.now c.loop-at.at i.1.0 size i.1.1
          (looks_from c.args.limits c.args.bytes.now c.loop-at.at size c.size_there-size.ensures.looks),
      omega (arith, i.1.2, c.if-size-left.true),
    )

pub returns-then-is_some-clause-effort : goal.returns-then-is_some-clause-effort
returns-then-is_some-clause-effort c =
    let i = c.loop-at.invariant in
    let size = c.size_there-size.result in
    let looks = looks_more c.args.limits c.args.bytes.now c.loop-at.at i.1.0 size i.1.1
    (looks_from c.args.limits c.args.bytes.now c.loop-at.at size c.size_there-size.ensures.looks) in
    let looked : i.1.0 + size ≡ c.args.effort - (c.loop-at.left - size) = omega (arith, i.1.2, c.if-size-left.false) in
    (subst (λ (n : ℕ). LooksBefore c.args.limits c.args.bytes.now (c.loop-at.at + 1) n) looked looks, omega (arith, i.1.2, c.if-size-left.false))

pub loop-at-preserved : goal.loop-at-preserved
loop-at-preserved c =
    let i = c.loop-at.invariant in
    let limits = c.args.limits in
    let bytes = c.args.bytes.now in
    let at = c.loop-at.at in
    let size = c.size_there-size.result in
    let looks = looks_from limits bytes at size c.size_there-size.ensures.looks in
    let none = elim c.else-size-gt0.branch as (λ _. BeginsWithNone limits (drop at bytes)) [
      | else-size-gt0-via-then-size-gt0+else-is_some w ↦ none_from limits bytes at (w.validate.ensures.none (is_none _ _ w.is_some.ensures w.if-is_some.false))
      | else-size-gt0-via-else-size-gt0 w ↦ (
          let zero : size ≡ 0 = omega arith in
          none_there limits (drop at bytes) (subst (λ (n : ℕ). Looks limits (drop at bytes) n) zero looks)
          )
    ] in
    (none_more limits bytes at i.0 none, (i.1.0 + size, looks_more limits bytes at i.1.0 size i.1.1 looks, omega (arith, i.1.2, c.if-size-left.false)))
