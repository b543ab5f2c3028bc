use Rattle.std.proofs.Common.{ap, ◌∙◌}
use Rattle.dbus_texts.specs.Types.{NoTypes, MoreTypes}
use Rattle.dbus_value_model.specs.Values.{ValueTrees, NoValues, MoreValues}
use Rattle.dbus_typed.proofs.Nexts.{another_types, other_types, ended}
use Rattle.dbus_typed.proofs.tuples.Tuple2FromValues.from_values.Goals as goal

pub returns-in_err-first : goal.returns-in_err-first
returns-in_err-first g c = record {
  read = λ xs rest l.
      rw c.from_residual.ensures (λ e. another_types g.A.FromValue.stands_for (MoreTypes g.B.FromValue.stands_for NoTypes) xs (c.in_err-first.ensures xs rest l) e);
}

pub returns-in_err-second : goal.returns-in_err-second
returns-in_err-second g c = record {
  read = λ xs rest l.
      let p = c.in_ok-first.ensures xs rest l in
      rw c.from_residual-in_err-second.ensures (λ e. another_types g.B.FromValue.stands_for NoTypes p.0 (c.in_err-second.ensures p.0 rest p.2) (other_types p.1 e));
}

pub returns : goal.returns
returns g c = record {
  read = λ xs rest l.
      let p = c.in_ok-first.ensures xs rest l in
      let q = c.in_ok-second.ensures p.0 rest p.2 in
      ended c.at_end.result _ (MoreTypes g.A.FromValue.stands_for (MoreTypes g.B.FromValue.stands_for NoTypes)) (λ x. MoreValues (g.A.FromValue.tree x.0) (MoreValues (g.B.FromValue.tree x.1) NoValues)) xs q.0 (λ e. other_types q.1 (other_types p.1 e)) (λ none. p.1 ∙ ap (λ (zs : ValueTrees). MoreValues (g.A.FromValue.tree c.in_ok-first.first) zs) (q.1 ∙ ap (λ (zs : ValueTrees). MoreValues (g.B.FromValue.tree c.in_ok-second.second) zs) none)) (c.at_end.ensures q.0 rest q.2);
}
