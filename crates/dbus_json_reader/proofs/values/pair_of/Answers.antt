use Rattle.std.proofs.Common.{ap, sym, ◌∙◌}
use Rattle.dbus_json_reader.proofs.Shapes.{array_seen, arrays_same, two_items, view_pair}
use Rattle.json.specs.Json as json
use Rattle.dbus_json_reader.proofs.values.pair_of.Goals as goal

pub returns-then-items-ne2-clause-none : goal.returns-then-items-ne2-clause-none
returns-then-items-ne2-clause-none g c = λ none key value e.
    c.if-items-ne2.true (two_items c.as_slice-items.result.now key value (arrays_same _ _ (sym (array_seen c.args.json.now c.in-Array.items c.as_slice-items.result.now c.in-Array.is c.as_slice-items.ensures.value) ∙ e)))

pub returns-clause-some : goal.returns-clause-some
returns-clause-some g c =
    array_seen c.args.json.now c.in-Array.items c.as_slice-items.result.now c.in-Array.is c.as_slice-items.ensures.value
    ∙ ap json.array (view_pair c.as_slice-items.result.now c.index-items-0.result c.index-items-1.result c.if-items-ne2.false c.index-items-0.is c.index-items-1.is)
