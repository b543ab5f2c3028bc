use Rattle.std.proofs.Common.{ℕ, [], ◌∷◌, subst}
use Rattle.dbus_show.proofs.FieldTexts.{then}
use Rattle.dbus_call_lines.proofs.elapsed.write_three_digits.Goals as goal

pub returns : goal.returns
returns g c =
    let gains = g.D.Draft.gains in
    let joins = g.met.D.Draft.joins in
    let first = subst (λ (d : ℕ). gains c.args.draft.now (d ∷ []) c.push_code.new.self) c.digit_at.ensures c.push_code.ensures in
    let second = subst (λ (d : ℕ). gains c.push_code.new.self (d ∷ []) c.push_code-2.new.self) c.digit_at-2.ensures c.push_code-2.ensures in
    let third = subst (λ (d : ℕ). gains c.push_code-2.new.self (d ∷ []) c.push_code-3.new.self) c.digit_at-3.ensures c.push_code-3.ensures in
    then gains joins first (then gains joins second third)
