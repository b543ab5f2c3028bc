use Rattle.std.proofs.Common.{sym, ap, ◌∙◌}
use Rattle.dbus_message_model.specs.KnownFields.{body_value}
use Rattle.dbus_match.specs.Matching.{string_of}
use Rattle.dbus_calls.proofs.changes.next_string.Goals as goal

pub returns-in_err-seen-clause-text : goal.returns-in_err-seen-clause-text
returns-in_err-seen-clause-text c = λ xs rest all.
    rw c.from_residual.ensures (sym (ap (λ vs. string_of (body_value 0 vs)) (c.in_err-seen.ensures.steps.first xs rest all).0))

pub returns-clause-text : goal.returns-clause-text
returns-clause-text c = λ xs rest all.
    let first = c.in_ok-seen.ensures.steps.first xs rest all in
    c.string_in.ensures first.0 first.3 ∙ sym (ap (λ vs. string_of (body_value 0 vs)) first.2)
