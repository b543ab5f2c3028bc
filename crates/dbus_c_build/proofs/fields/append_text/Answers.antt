use Rattle.std.proofs.Common.{◌<◌, arith, ℕ, sym, ap, ◌∙◌}
use Rattle.dbus_value_model.specs.SizeLimits.{with_value}
use Rattle.dbus_value_model.specs.Values.{TextValue}
use Rattle.dbus_c_build.specs.Drafts.{text_code}
use Rattle.dbus_c_build.proofs.Spelling.{on_ok, text_after, string_kind}
use Rattle.dbus_c_build.proofs.fields.append_text.Goals as goal

pub returns-then-code-eq-SIGNATURE : goal.returns-then-code-eq-SIGNATURE
returns-then-code-eq-SIGNATURE g c =
    let small : c.args.code < 256 = omega (arith, c.ranges.code) in
    let t = c.args.text.now in
    let start = c.start_field.new.out.items in
    let after = text_after c.args.order c.args.code c.text_type.result t c.args.out.now.items start small c.text_type.ensures c.in_ok-start_field.ensures in
    on_ok c.put_signature.result (λ put. put ∙ ap (λ (k : ℕ). with_value c.args.order (TextValue (text_code k) t) start) (sym c.if-code-eq-SIGNATURE.true) ∙ after) (c.put_signature.ensures.written c.args.order)

pub returns : goal.returns
returns g c =
    let small : c.args.code < 256 = omega (arith, c.ranges.code) in
    let t = c.args.text.now in
    let start = c.start_field.new.out.items in
    let after = text_after c.args.order c.args.code c.text_type.result t c.args.out.now.items start small c.text_type.ensures c.in_ok-start_field.ensures in
    on_ok c.put_text.result (λ put. put ∙ string_kind c.args.order c.args.code t start c.if-code-eq-SIGNATURE.false ∙ after) c.put_text.ensures.written
