use Rattle.dbus_texts.specs.Types.{NoTypes}
use Rattle.dbus_value_model.specs.Values.{NoValues}
use Rattle.dbus_typed.proofs.Nexts.{ended}
use Rattle.dbus_typed.proofs.tuples.UnitFromValues.from_values.Goals as goal

pub returns : goal.returns
returns c = record {
  read = λ xs rest l.
      ended c.at_end.result _ NoTypes (λ x. NoValues) xs xs (λ e. e) (λ none. none) (c.at_end.ensures xs rest l);
}
