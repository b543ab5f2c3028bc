-- What is known of a cutter as the taker of a reader.
use Rattle.std.specs.Prelude.{◌≡◌, None}
use Rattle.dbus_value_model.specs.declared.order.Order.{Order}
use Rattle.dbus_message_model.specs.declared.message.Message.{Message}
use Rattle.dbus_message_model.specs.MessageViews.{message_tree}
use Rattle.dbus_header.specs.MessageOutcomes.{IsWhole}
use Rattle.dbus_stream.specs.Cutting.{CutterState}
use Rattle.dbus_stream.specs.Taking.{Taking}

-- it stays with a fault, so it stands at what it holds only where it met none
abbrev pub cutting : (A : Type 0) → Taking CutterState (Order × Message A)
cutting A = record {
  limits = λ c. c.limits;
  holds = λ c w. (c.held ≡ w) × (c.fault ≡ None);
  keeps = λ c w. c.held ≡ w;
  grows = Unit {0};
  gives = λ c w size given. IsWhole c.limits w given.0 (message_tree given.1) size;
  lent = λ c. 0;
  rests = λ c. Unit {0};
}
