use Rattle.std.proofs.Common.{◌≡◌, None, sym, ap, ◌∙◌, length, vec_len, codes, rules}
use Rattle.std.proofs.lemmas.Bool.{eqb-true, eq-eqb, true≢false}
use Rattle.json.specs.Find.{get}
use Rattle.json.specs.Value.{value_view}
use Rattle.dbus_texts.specs.Types.{sigs}
use Rattle.dbus_types.specs.SigTypes.{type_trees_of}
use Rattle.dbus_value_model.specs.ValueViews.{value_trees_of}
use Rattle.dbus_json_reader.proofs.Objects.{body_made, body_read, none_made, none_read, no_types, types_none}
use Rattle.dbus_json_reader.proofs.Shapes.{through}
use Rattle.dbus_json_reader.proofs.message.read_body.Goals as goal

pub returns-in-Ok-read_values-clause-ok : goal.returns-in-Ok-read_values-clause-ok
returns-in-Ok-read_values-clause-ok g c =
    let types = ap type_trees_of c.deref.ensures.value in
    let spelled = ap sigs types ∙ c.in-Ok.ensures.1 ∙ c.body_signature.ensures in
    let h = c.in-Ok-read_values.ensures.ok in
    body_made c.args.integers c.args.depth _ _ (value_view c.in-Some.told.now) (type_trees_of c.deref.result.now) (value_trees_of c.in-Ok-read_values.body.items) h.0 (sym c.in-Some.ensures) spelled h.1 h.2

pub returns-clause-refused : goal.returns-clause-refused
returns-clause-refused g c = λ b e kind xs h.
    let types = ap type_trees_of c.deref.ensures.value in
    let spelled = ap sigs types ∙ c.in-Ok.ensures.1 ∙ c.body_signature.ensures in
    let r = body_read c.args.integers c.args.depth _ _ (value_view c.in-Some.told.now) (type_trees_of c.deref.result.now) xs (sym c.in-Some.ensures) spelled h in
    through c.after.result c.in-Err-read_values.why c.after.ensures.unspelled b e c.in-Err-read_values.ensures.refused r.0 xs r.1 r.2

pub returns-then-not-is_empty-clause-refused : goal.returns-then-not-is_empty-clause-refused
returns-then-not-is_empty-clause-refused g c = λ b e kind xs h.
    let absent : get (codes "body") (value_view c.args.json.now) ≡ None = search rules in
    let none = none_read c.args.integers c.args.depth _ _ absent (type_trees_of c.in-Ok.types.items) xs (c.in-Ok.ensures.1 ∙ c.body_signature.ensures) h in
    let size : vec_len c.in-Ok.types ≡ 0 = c.in-Ok.types.ok.0 ∙ no_types c.in-Ok.types.items none in
    true≢false (sym (eq-eqb (vec_len c.in-Ok.types) 0 size) ∙ sym c.is_empty.ensures ∙ c.if-not-is_empty.true)

pub returns-in_default-clause-ok : goal.returns-in_default-clause-ok
returns-in_default-clause-ok g c =
    let absent : get (codes "body") (value_view c.args.json.now) ≡ None = search rules in
    let size : length c.in-Ok.types.items ≡ 0 = sym c.in-Ok.types.ok.0 ∙ eqb-true (vec_len c.in-Ok.types) 0 (sym c.is_empty.ensures ∙ c.if-not-is_empty.false) in
    none_made c.args.integers c.args.depth _ _ absent (value_trees_of c.new.result.items) (ap value_trees_of c.new.ensures.items) (ap sigs (sym (types_none c.in-Ok.types.items size)) ∙ c.in-Ok.ensures.1 ∙ c.body_signature.ensures)
