use Rattle.std.proofs.Common.{inr, subst, sym, arith}
use Rattle.std.proofs.lemmas.List.{take_rest}
use Rattle.dbus_header.specs.NoMessage.{BeginsWithNone}
use Rattle.dbus_resync.proofs.Steps.{is_none}
use Rattle.dbus_stream.specs.StatedSizes.{WantsMore}
use Rattle.dbus_stream.proofs.SeekSteps.{nowhere_past, nowhere_there}
use Rattle.dbus_stream.proofs.seeking.led_to.Goals.{else-end-bytes-via-then-end-bytes+else-end-window, else-end-bytes-via-else-end-bytes}
use Rattle.dbus_stream.proofs.seeking.led_to.Goals.{else-window-bytes-via-then-window-bytes+else-wants_more, else-window-bytes-via-else-window-bytes}
use Rattle.dbus_stream.proofs.seeking.led_to.Goals as goal

pub returns-in_default-clause-none : goal.returns-in_default-clause-none
returns-in_default-clause-none c = λ _ size leads. nowhere_past c.args.limits c.args.window c.args.bytes.now (c.end_stated.ensures.none c.in_default.is) size leads

pub returns-then-wants_more-clause-leads : goal.returns-then-wants_more-clause-leads
returns-then-wants_more-clause-leads c = record { states = c.in-Some.ensures.states; to = inr (inr (subst (WantsMore c.args.limits) (take_rest c.args.bytes.now c.in-Some.end) (c.wants_more.ensures.wants c.if-wants_more.true), c.if-window-bytes.true)) }

pub returns-else-window-bytes-clause-none : goal.returns-else-window-bytes-clause-none
returns-else-window-bytes-clause-none c = λ _ size leads.
    nowhere_there c.args.limits c.args.window c.args.bytes.now c.in-Some.end c.in-Some.ensures.states
    (λ all few. elim c.else-end-bytes.branch [
      | else-end-bytes-via-then-end-bytes+else-end-window w ↦ (let far = w.if-end-window.false in omega (arith, far, few))
      | else-end-bytes-via-else-end-bytes w ↦ w.if-end-bytes.false all
    ])
    (subst (BeginsWithNone c.args.limits) (take_rest c.args.bytes.now c.in-Some.end) (c.validate.ensures.none (is_none c.validate.result c.is_some.result c.is_some.ensures c.if-is_some.false)))
    (λ full wants. elim c.else-window-bytes.branch [
      | else-window-bytes-via-then-window-bytes+else-wants_more w ↦ w.wants_more.ensures.none w.if-wants_more.false (subst (WantsMore c.args.limits) (sym (take_rest c.args.bytes.now c.in-Some.end)) wants)
      | else-window-bytes-via-else-window-bytes w ↦ (let short = w.if-window-bytes.false in omega (arith, short, full))
    ])
    size leads
