use Rattle.std.proofs.Common.{◌≡◌}
use Rattle.arrayvec.specs.ArrayVec.{array_vec_len}
use Rattle.dbus_value_model.specs.declared.order.Order.{Order}
use Rattle.dbus_message_model.specs.Messages.{MessageTree}
use Rattle.dbus_view.specs.Views.{Views}
use Rattle.dbus_match.proofs.Noted.{AreSoFar}
use Rattle.dbus_match.proofs.argument.arguments_of.Given as goal

abbrev pub invariant-loop-number : goal.invariant-loop-number
invariant-loop-number l =
    record {
      count : array_vec_len l.arguments ≡ l._number;
      noted : (order : Order) (m : MessageTree) → Views l.fn.view order m → AreSoFar m.body l.arguments.items l.left;
    }
