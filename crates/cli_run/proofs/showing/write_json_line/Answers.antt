use Rattle.std.proofs.Common.{◌≡◌, ◌∙◌, ℕ, List, ap}
use Rattle.std.proofs.Math.Path.{transport}
use Rattle.dbus_value_model.specs.declared.order.Order.{Order}
use Rattle.dbus_json.specs.declared.integers.Integers.{Integers}
use Rattle.dbus_json.specs.JsonMessages.{IsJsonLine}
use Rattle.dbus_json.specs.declared.place.LinePlace.{LinePlace}
use Rattle.dbus_message_model.specs.Messages.{MessageTree}
use Rattle.cli_run.specs.declared.place.MessagePlace.{MessagePlace}
use Rattle.cli_run.specs.Output.{line_place}
use Rattle.cli_run.proofs.OutputSteps.{validated_whole}
use Rattle.cli_run.proofs.showing.write_json_line.Goals as goal

line_told : {o order : Order} {i integers : Integers} {at place : MessagePlace} {p : LinePlace} {m : MessageTree} {text : List ℕ} → o ≡ order → i ≡ integers → at ≡ place → p ≡ line_place at → IsJsonLine i o m p text → IsJsonLine integers order m (line_place place) text
line_told {order} {integers} {m} {text} a b c d line = transport (λ i. IsJsonLine (b i) (a i) m ((d ∙ ap line_place c) i) text) line

pub returns : goal.returns
returns g c = λ order m whole.
    let own = validated_whole c.args.lent.now.limits c.args.lent.now.bytes.now c.args.lent.now.validated order m c.requires whole in
    let written = c.write_json.ensures.written m own.1 in
    (written.0, line_told own.0 c.of.ensures c.told.ensures c.line_place.ensures written.1, written.2)
