use Rattle.std.proofs.Common.{ℕ, subst}
use Rattle.dbus_value_model.specs.declared.order.Order.{Order}
use Rattle.dbus_flatten.specs.Flattening.{AreFlat}
use Rattle.dbus_c.specs.Parting.{start_of, values_of}
use Rattle.dbus_c.proofs.flattening.flat_part.Goals as goal

pub flatten-requires : goal.flatten-requires
flatten-requires c =
    let is = c.requires.validated in
    let there = c.spot_of-spot.ensures.stand c.source-source.result is.message c.source-source.ensures.own is.whole in
    record { stand = (values_of c.args.part is.message, there.0, there.1); noted = c.spot_of-spot.ensures.noted }

pub returns : goal.returns
returns c =
    let w = c.args.whole.now in
    let is = c.requires.validated in
    let there = c.spot_of-spot.ensures.stand c.source-source.result is.message c.source-source.ensures.own is.whole in
    let flat = c.flatten.ensures.flat (values_of c.args.part is.message) there.0 there.1 in
    let own = c.source-source.ensures.own in
    let here = subst (λ (k : ℕ). AreFlat c.source-source.result.order k (values_of c.args.part is.message) c.args.first c.args.items.now c.flatten.new.out c.flatten.result) (c.spot_of-spot.ensures.begins is.message is.whole) flat in
    record {
      order = w.validated.now.order;
      message = is.message;
      length = w.validated.now.length;
      whole = is.whole;
      flat = subst (λ (o : Order). AreFlat o (start_of c.args.part w.validated.now.order is.message) (values_of c.args.part is.message) c.args.first c.args.items.now c.flatten.new.out c.flatten.result) own.0 here;
    }
