use Rattle.std.proofs.Common.{◌≡◌, ℕ, List, subst, sym, rules}
use Rattle.dbus_value_model.specs.Spelling.{spellings}
use Rattle.dbus_value_model.specs.Values.{ValueTrees}
use Rattle.dbus_swap.specs.Byteswapping.{other, Replaces}
use Rattle.dbus_swap.proofs.values.byteswap_values.Goals as goal

pub returns : goal.returns
returns c = record {
  byteswapped = λ vs rest s.
      let order = c.args.source.now.order in
      let at = c.args.spot.now.at in
      let w = (c.in-Ok.ensures.walked vs rest s).0 in
      let same = w.2.same in
      let back : c.walk_values.new.visitor.out.now ≡ c.out-1.given.0 = search rules in
      subst (λ (l : List ℕ). Replaces at (spellings order at vs) (spellings (other order) at vs) c.args.out.now l) back
      (subst (λ (us : ValueTrees). Replaces at (spellings order at us) (spellings (other order) at us) c.args.out.now c.walk_values.new.visitor.out.now) (sym w.1) w.2.replaced);
}
