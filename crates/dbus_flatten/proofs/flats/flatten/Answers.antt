use Rattle.std.proofs.Common.{◌≡◌, ℕ, List, ◌<◌, ◌^◌, refl, subst, sym, rules, arith}
use Rattle.dbus_value_model.specs.Values.{ValueTrees, value_trees}
use Rattle.dbus_flatten.specs.declared.flat_item.FlatItem.{FlatItem}
use Rattle.dbus_flatten.specs.Flattening.{AreFlat, flats}
use Rattle.dbus_flatten.proofs.FlatThere.{row_of}
use Rattle.dbus_flatten.proofs.flats.flatten.Goals as goal

pub returns : goal.returns
returns c = record {
  flat = λ vs rest s.
      let order = c.args.source.now.order in
      let at = c.args.spot.now.at in
      let w = (c.in-Ok.ensures.walked vs rest s).0 in
      let same = w.2.gained.same in
      let word : c.total.result < 2 ^ 64 = c.total.type_inv in
      let fits : c.walk_values.new.visitor.count < 2 ^ 64 = omega (arith, word, c.total.ensures) in
      let row = row_of (flats order at (value_trees w.0)) _ _ w.2.gained refl fits in
      let out = c.walk_values.new.visitor.out.now in
      let back : c.walk_values.new.visitor.out.now ≡ _ = search rules in
      let told = subst (λ (us : ValueTrees). AreFlat order at us c.args.first c.args.out.now out c.walk_values.new.visitor.count) (sym w.1) row in
      subst (λ (l : List FlatItem). AreFlat order at vs c.args.first c.args.out.now l c.total.result) back (subst (λ (k : ℕ). AreFlat order at vs c.args.first c.args.out.now out k) (sym c.total.ensures) told);
}
