use Rattle.std.proofs.Common.{rules, ◌≡◌, ℕ, ◌+◌, ap, ◌∙◌}
use Rattle.dbus_value_model.specs.Bytes.{gap_to}
use Rattle.dbus_explain.proofs.places.body_begin.Goals as goal

pub returns : goal.returns
returns c =
    let fields = c.end_of_fields-fields_end.ensures.fields in
    let gap : c.from.result ≡ gap_to 8 (c.end_of_fields-fields_end.result) = search rules in
    ap (λ (n : ℕ). c.end_of_fields-fields_end.result + n) gap ∙ ap (λ (n : ℕ). n + gap_to 8 n) fields
