use Rattle.std.proofs.Common.{◌<◌, arith, ◌++◌, ℕ, refl, sym, ap, ◌∙◌}
use Rattle.dbus_texts.specs.Types.{UINT32}
use Rattle.dbus_value_model.specs.SizeLimits.{with_padding}
use Rattle.dbus_value_model.specs.Bytes.{num}
use Rattle.dbus_marshal.proofs.Written.{written_none, written_number}
use Rattle.dbus_c_build.specs.Drafts.{number_field, number_value}
use Rattle.dbus_c_build.specs.Building.{with_fields}
use Rattle.dbus_c_build.proofs.Spelling.{on_ok, field_after, number_there}
use Rattle.dbus_c_build.proofs.fields.append_number.Goals as goal

pub returns-then-n-eq0 : goal.returns-then-n-eq0
returns-then-n-eq0 g c =
    let front = c.args.out.now.items in
    sym (ap (λ (n : ℕ). with_fields c.args.order (number_field c.args.code n) front) c.if-n-eq0.true ∙ written_none c.args.order front)

pub returns : goal.returns
returns g c =
    let small : c.args.code < 256 = omega (arith, c.ranges.code) in
    let front = c.args.out.now.items in
    let start = c.start_field.new.out.items in
    let after = field_after c.args.order (number_value c.args.code c.args.n) 117 front start small refl c.in_ok-start_field.ensures in
    on_ok c.put_number.result (λ put. put ∙ ap (λ (n : ℕ). with_padding 4 start ++ num c.args.order 4 n) c.from.ensures ∙ sym (written_number c.args.order UINT32 c.args.n start) ∙ after ∙ number_there c.args.order c.args.code c.args.n front c.if-n-eq0.false) c.put_number.ensures.written
