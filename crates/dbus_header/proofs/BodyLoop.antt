-- The loop over a body's types.
use Rattle.std.proofs.Common.{◌≡◌, Option, ℕ, ◌<◌, List, refl, arith}
use Rattle.std.proofs.lemmas.Bool.{lt-ltb, le-ltb, eq-eqb}
use Rattle.dbus_texts.specs.Types.{TypeTrees}
use Rattle.dbus_value_model.specs.Bounds.{bounds_with}
use Rattle.dbus_value_model.specs.declared.limits.Limits.{Limits}
use Rattle.dbus_value_model.specs.declared.order.Order.{Order}
use Rattle.dbus_value_model.specs.declared.fault.Reason.TheVariants as reasons
use Rattle.dbus_value_model.specs.Items.{fault}
use Rattle.dbus_value_model.specs.Values.{ValueTrees}
use Rattle.dbus_value_model.specs.Reading.{Done, Faulty, fields, value, ends}
use Rattle.dbus_header.specs.HeaderReading.{body_read}

-- ---- the body

module _ (limits : Limits) (fds : Option ℕ) (order : Order) (end : ℕ) (ts : TypeTrees) (o : ℕ) (s : List ℕ) where
  pub body_trailing : (vs : ValueTrees) (q : ℕ) (r : List ℕ) → fields (value (bounds_with limits fds) order limits.depth end) ts o s ≡ Done vs q r → q < end → body_read limits fds order ts end o s ≡ Faulty (fault q reasons.Trailing)
  unfolding body_read ends
  body_trailing vs q r e h = rw (e, lt-ltb _ _ h) refl

  pub body_whole : (vs : ValueTrees) (q : ℕ) (r : List ℕ) → fields (value (bounds_with limits fds) order limits.depth end) ts o s ≡ Done vs q r → q ≡ end → body_read limits fds order ts end o s ≡ Done vs q r
  unfolding body_read ends
  body_whole vs q r e h = rw (e, le-ltb q end (omega arith), eq-eqb q end h) refl
