use Rattle.std.proofs.Common.{◌≡◌, ℕ, List, subst, rules}
use Rattle.dbus_value_model.specs.Spelling.{spelling}
use Rattle.dbus_swap.specs.Byteswapping.{other, Replaces}
use Rattle.dbus_swap.proofs.values.byteswap_value.Goals as goal

pub returns : goal.returns
returns c = record {
  byteswapped = λ v rest s.
      let order = c.args.source.now.order in
      let at = c.args.spot.now.at in
      let w = c.in-Ok.ensures.walked v rest s in
      let same = w.0.same in
      let back : c.walk_value.new.visitor.out.now ≡ c.out-2-1.given.0 = search rules in
      (subst (λ (l : List ℕ). Replaces at (spelling order at v) (spelling (other order) at v) c.args.out.now l) back w.0.replaced, w.1);
}
