use Rattle.std.proofs.Common.{◌≡◌, Bool, true, false, not, take, drop, sym, ◌∙◌}
use Rattle.dbus_types.specs.Alignments.{width}
use Rattle.dbus_value_model.specs.Reading.{number_of}
use Rattle.dbus_show.specs.ShownValues.{number_text}
use Rattle.dbus_show.proofs.FieldTexts.{then}
use Rattle.dbus_json.specs.declared.integers.Integers.TheVariants.{Safe}
use Rattle.dbus_json.specs.JsonValues.{plain}
use Rattle.dbus_json.proofs.Floats.{quoted_number, shown_number}
use Rattle.dbus_json.proofs.json.write_safe.Goals as goal

may_not : (b : Bool) → not b ≡ true → b ≡ false
may_not true e = cc
may_not false e = cc

may : (b : Bool) → not b ≡ false → b ≡ true
may true e = cc
may false e = cc

pub returns-then-is_quoted : goal.returns-then-is_quoted
returns-then-is_quoted g c = λ k e.
    let n = number_of c.args.source.now.order (take (width k) (drop c.args.at c.args.source.now.bytes.now)) in
    let gains = g.D.Draft.gains in
    let joins = g.met.D.Draft.joins in (
      plain (number_text k n),
      quoted_number k n (may_not _ (sym (c.is_quoted.ensures k e) ∙ c.if-is_quoted.true)),
      then gains joins c.push_code.ensures (then gains joins (c.write_number_at.ensures k e) c.push_code-then-is_quoted.ensures),
    )

pub returns-else-is_quoted : goal.returns-else-is_quoted
returns-else-is_quoted g c = λ k e.
    let n = number_of c.args.source.now.order (take (width k) (drop c.args.at c.args.source.now.bytes.now)) in
    (number_text k n, shown_number Safe k n (λ is. c.requires.whole (sym e ∙ is)) (may _ (sym (c.is_quoted.ensures k e) ∙ c.if-is_quoted.false)), c.write_number_at-else-is_quoted.ensures k e)
