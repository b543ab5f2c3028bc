use Rattle.std.proofs.Common.{Err, ap, sym, subst, ◌∙◌, List, ℕ}
use Rattle.dbus_value_model.specs.declared.order.Order.{Order}
use Rattle.dbus_message_model.specs.Messages.{message_bytes}
use Rattle.dbus_message_model.specs.MessageViews.{message_tree}
use Rattle.dbus_json.specs.declared.integers.Integers.{Integers}
use Rattle.dbus_json.specs.JsonIntegers.{integers_of}
use Rattle.dbus_json_lines.specs.JsonLines.{IsLineOf}
use Rattle.dbus_json_lines.specs.LineFaults.{IsPlaceOf}
use Rattle.cli_encode.specs.Explained.{explanation}
use Rattle.cli_encode.specs.declared.reason.LineReason.TheVariants.{Unspelled}
use Rattle.cli_encode.specs.declared.reason.Refusal.{Refusal}
use Rattle.cli_encode.proofs.TakeSteps.{not_blank, place_of, within}
use Rattle.cli_encode.proofs.encoder.make.Goals as goal

pub returns-in_ok-encode_into-in-Ok : goal.returns-in_ok-encode_into-in-Ok
returns-in_ok-encode_into-in-Ok g c = λ bytes fits.
    let line = within c.args.encoding.most bytes c.args.line c.in-Some.line c.in-Some.is fits in
    let tree = message_tree c.in-Ok.message in (
      line.1,
      not_blank c.is_blank.result c.in-Some.line.now bytes line.0 c.if-is_blank.false c.is_blank.ensures,
      record {
        order = c.in-Ok.order;
        message = tree;
        spelled = subst (λ (i : Integers). IsLineOf i c.args.encoding.limits c.args.serial bytes c.in-Ok.order tree) c.of-integers.ensures (subst (λ (l : List ℕ). IsLineOf c.of-integers.result c.args.encoding.limits c.args.serial l c.in-Ok.order tree) line.0 c.in-Ok.ensures.ok);
        encoded = c.in_ok-encode_into-in-Ok.ensures.written ∙ ap (λ (o : Order). message_bytes o tree) c.order_in.ensures;
      },
    )

pub returns-in_ok-explained-in-Err-Refused : goal.returns-in_ok-explained-in-Err-Refused
returns-in_ok-explained-in-Err-Refused g c = λ bytes fits.
    let line = within c.args.encoding.most bytes c.args.line c.in-Some.line c.in-Some.is fits in
    let why : Refusal = record { reason = Unspelled c.in-Err-Refused.fault.reason; at = c.in-Err-Refused.fault.at } in (
      (
        line.1,
        not_blank c.is_blank.result c.in-Some.line.now bytes line.0 c.if-is_blank.false c.is_blank.ensures,
        λ made e.
            c.in-Err-Refused.ensures.refused c.in-Err-Refused.fault (ap Err c.in-Err-Refused.field-0-is) e.order e.message
            (subst (λ (i : Integers). IsLineOf i c.args.encoding.limits c.args.serial c.in-Some.line.now e.order e.message) (sym c.of-integers.ensures) (subst (λ (l : List ℕ). IsLineOf (integers_of c.args.encoding.safe_integers) c.args.encoding.limits c.args.serial l e.order e.message) (sym line.0) e.spelled)),
        place_of bytes c.in-Err-Refused.fault (subst (λ (l : List ℕ). IsPlaceOf l c.in-Err-Refused.fault) line.0 (c.in-Err-Refused.ensures.place c.in-Err-Refused.fault (ap Err c.in-Err-Refused.field-0-is))),
      ),
      c.in_ok-explained-in-Err-Refused.ensures ∙ ap (λ (l : List ℕ). explanation c.args.encoding.explains l why) line.0,
    )
