use Rattle.std.proofs.Common.{ℕ, not, ap, arith, ◌∙◌}
use Rattle.std.specs.List.{prefix_len}
use Rattle.dbus_show.specs.PlainFronts.{is_stop}
use Rattle.dbus_show.specs.declared.runs.Beyond.TheVariants.{Each}
use Rattle.dbus_show.proofs.PlainFronts.{first_front, none_at_end}
use Rattle.dbus_show.proofs.quoted.plain_length.Goals as goal

pub returns-then-run-text-clause-plain : goal.returns-then-run-text-clause-plain
returns-then-run-text-clause-plain c = first_front c.args.escapes c.args.text.now c.run_length-run.result c.utf8.text (c.run_length-run.ensures ∙ ap (prefix_len (λ (b : ℕ). not (is_stop Each b))) c.as_bytes.ensures.value)

pub returns-then-run-text-clause-stops : goal.returns-then-run-text-clause-stops
returns-then-run-text-clause-stops c = none_at_end c.args.escapes c.args.text.now c.run_length-run.result (omega (arith, c.if-run-text.true))

pub plain_length_from-requires : goal.plain_length_from-requires
plain_length_from-requires c = first_front c.args.escapes c.args.text.now c.run_length-run.result c.utf8.text (c.run_length-run.ensures ∙ ap (prefix_len (λ (b : ℕ). not (is_stop Each b))) c.as_bytes.ensures.value)
