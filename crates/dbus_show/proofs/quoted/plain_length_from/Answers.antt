use Rattle.std.proofs.Common.{◌+◌, ◌<◌, ℕ, not, length, drop, arith, ap, sym, ◌∙◌, subst, length-drop}
use Rattle.std.specs.List.{prefix_len}
use Rattle.std.proofs.lemmas.List.{take_rest}
use Rattle.std.proofs.lemmas.List.Sums.{prefix_len-le-length}
use Rattle.dbus_show.specs.PlainFronts.{is_stop}
use Rattle.dbus_show.specs.declared.runs.Beyond.TheVariants.{Leads}
use Rattle.dbus_show.proofs.PlainFronts.{next_front, none_at_end}
use Rattle.dbus_show.proofs.quoted.plain_length_from.Goals as goal

pub overflow_add-at : goal.overflow_add-at
overflow_add-at c =
    let p = λ (b : ℕ). not (is_stop Leads b) in
    let bytes = c.as_bytes-bytes.result.now in
    let next = c.loop-at.at + 1 in
    omega (arith, c.run_length.ensures ∙ ap (prefix_len p) (take_rest bytes next), prefix_len-le-length p (drop next bytes), length-drop next bytes, c.loop-at-test.true)

pub loop-at-preserved : goal.loop-at-preserved
loop-at-preserved c =
    let p = λ (b : ℕ). not (is_stop Leads b) in
    let bytes = c.as_bytes-bytes.result.now in
    let next = c.loop-at.at + 1 in
    let same = c.as_bytes-bytes.ensures.value in
    let run = c.run_length.ensures ∙ ap (prefix_len p) (take_rest bytes next) ∙ ap (λ t. prefix_len p (drop next t)) same in
    next_front c.args.escapes c.args.text.now c.loop-at.at c.run_length.result c.utf8.text c.loop-at.invariant (subst (λ t. c.loop-at.at < length t) same c.loop-at-test.true)
    (λ d rest e. sym (c.is_escaped_at.ensures d rest e) ∙ c.if-not-is_escaped_at.true) run

pub returns-after-loop-at-clause-stops : goal.returns-after-loop-at-clause-stops
returns-after-loop-at-clause-stops c = none_at_end c.args.escapes c.args.text.now c.loop-at.at (omega (arith, c.loop-at-test.false, ap length c.as_bytes-bytes.ensures.value))
