use Rattle.std.proofs.Common.{◌≡◌, length, arith}
use Rattle.dbus_explain.proofs.Searching.{split_types}
use Rattle.dbus_explain.proofs.search.ValuePlace.split.Goals as goal

pub returns-clause-types : goal.returns-clause-types
returns-clause-types c = λ ts is shaped.
    let some : length c.args.self.now.types.now ≡ 0 → ⊥ = λ e. omega (arith, e) in
    split_types ts c.args.self.now.types.now c.split_at.result.0.now c.split_at.result.1.now c.type_end.result is shaped some c.type_end.ensures.value c.split_at.ensures.front c.split_at.ensures.back
