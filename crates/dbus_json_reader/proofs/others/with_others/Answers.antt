use Rattle.std.proofs.Common.{◌≡◌, ℕ, ◌+◌, ◌<◌, ◌^◌, None, IsTrue, length, map, drop, codes, sym, ap, ◌∙◌, subst, arith, rules}
use Rattle.std.proofs.lemmas.List.{at_drop_all}
use Rattle.std.specs.List.{insert}
use Rattle.json.specs.Find.{get}
use Rattle.json.specs.Value.{value_view}
use Rattle.dbus_value_model.specs.PackedBytes.{keep_bytes}
use Rattle.dbus_message_model.specs.PackedParts.{field_values}
use Rattle.dbus_message_model.specs.PartsViews.{field_tree, field_trees}
use Rattle.dbus_json_reader.specs.JsonParts.{IsOtherField}
use Rattle.dbus_json_reader.proofs.Merging.{IsMerging, begins, all_known, only_known, no_field, too_low, goes_on, merged, alone}
use Rattle.dbus_json_reader.proofs.Placing.{row_read, read_row, known_read, read_known, no_row, json_at, trees_long, trees_put, values_put}
use Rattle.dbus_json_reader.proofs.Shapes.{no_array, array_seen, through}
use Rattle.dbus_json_reader.proofs.others.with_others.Goals as goal

-- ---- no such member, or no array

pub returns-in_default-clause-ok : goal.returns-in_default-clause-ok
returns-in_default-clause-ok g c =
    let none : get (codes "fields") (value_view c.args.json.now) ≡ None = search rules in
    let ks = field_trees c.args.known.items in
    known_read c.args.integers c.args.depth ks _ none ks (all_known c.args.integers c.args.depth 0 ks c.requires.known)

pub returns-in_default-clause-only : goal.returns-in_default-clause-only
returns-in_default-clause-only g c = λ fs h.
    let none : get (codes "fields") (value_view c.args.json.now) ≡ None = search rules in
    let ks = field_trees c.args.known.items in
    only_known c.args.integers c.args.depth 0 ks fs (read_known c.args.integers c.args.depth ks _ none fs h)

pub returns-in_default-json : goal.returns-in_default-json
returns-in_default-json g c = record {
  ok = tt;
  only = tt;
  packed = tt;
  refused = λ b e fs h. no_row c.args.integers c.args.depth (field_trees c.args.known.items) _ (value_view c.in-Some.json.now) (sym c.in-Some.ensures) (no_array c.in-Some.json.now c.in_default-json.not-Array) fs h;
}

-- ---- the objects

pub loop-i-init : goal.loop-i-init
loop-i-init g c = (begins c.args.integers c.args.depth (field_trees c.args.known.items) _ c.requires.known, c.requires.packed)

pub returns-in-Err-clause-refused : goal.returns-in-Err-clause-refused
returns-in-Err-clause-refused g c = λ b e fs h.
    let l = c.as_slice-items.result.now in
    let i = c.loop-i.i in
    let x = c.index-items-i.result in
    let ks = field_trees c.args.known.items in
    let gs = field_trees c.loop-i.fields.items in
    let seen = array_seen c.in-Some.json.now c.in-Array.items l c.in-Array.is c.as_slice-items.ensures.value in
    let going = subst (IsMerging c.args.integers c.args.depth ks (map value_view l) c.loop-i.next gs) (json_at l i x c.loop-i-test.true c.index-items-i.is) c.loop-i.invariant.0 in
    let size : length gs ≡ c.len.result = trees_long c.loop-i.fields.items ∙ sym c.loop-i.fields.ok.0 ∙ sym c.len.ensures in
    no_field c.args.integers c.args.depth ks (map value_view l) c.loop-i.next gs (value_view x) (map value_view (drop (i + 1) l)) going
    (λ place f one. through c.after.result c.in-Err.why c.after.ensures.unspelled b e c.in-Err.ensures.refused place f (subst (λ (n : ℕ). IsOtherField c.args.integers c.args.depth n place f (value_view x)) size one)) fs
    (read_row c.args.integers c.args.depth ks _ (value_view c.in-Some.json.now) (map value_view l) (sym c.in-Some.ensures) seen fs h)

pub returns-then-place-next-clause-refused : goal.returns-then-place-next-clause-refused
returns-then-place-next-clause-refused g c = λ b e fs h.
    let l = c.as_slice-items.result.now in
    let i = c.loop-i.i in
    let x = c.index-items-i.result in
    let ks = field_trees c.args.known.items in
    let gs = field_trees c.loop-i.fields.items in
    let seen = array_seen c.in-Some.json.now c.in-Array.items l c.in-Array.is c.as_slice-items.ensures.value in
    let going = subst (IsMerging c.args.integers c.args.depth ks (map value_view l) c.loop-i.next gs) (json_at l i x c.loop-i-test.true c.index-items-i.is) c.loop-i.invariant.0 in
    let size : length gs ≡ c.len.result = trees_long c.loop-i.fields.items ∙ sym c.loop-i.fields.ok.0 ∙ sym c.len.ensures in
    let few : length gs < 2 ^ 64 = omega (arith, size) in
    let place = c.in-Ok.read.0 in
    let f = field_tree c.in-Ok.read.1 in
    let one = subst (λ (n : ℕ). IsOtherField c.args.integers c.args.depth n place f (value_view x)) (sym size) c.in-Ok.ensures.ok in
    too_low c.args.integers c.args.depth ks (map value_view l) c.loop-i.next gs (value_view x) (map value_view (drop (i + 1) l)) going place f few one c.if-place-next.true fs
    (read_row c.args.integers c.args.depth ks _ (value_view c.in-Some.json.now) (map value_view l) (sym c.in-Some.ensures) seen fs h)

pub loop-i-preserved : goal.loop-i-preserved
loop-i-preserved g c =
    let l = c.as_slice-items.result.now in
    let i = c.loop-i.i in
    let x = c.index-items-i.result in
    let ks = field_trees c.args.known.items in
    let gs = field_trees c.loop-i.fields.items in
    let going = subst (IsMerging c.args.integers c.args.depth ks (map value_view l) c.loop-i.next gs) (json_at l i x c.loop-i-test.true c.index-items-i.is) c.loop-i.invariant.0 in
    let size : length gs ≡ c.len.result = trees_long c.loop-i.fields.items ∙ sym c.loop-i.fields.ok.0 ∙ sym c.len.ensures in
    let few : length gs < 2 ^ 64 = omega (arith, size) in
    let place = c.in-Ok.read.0 in
    let f = field_tree c.in-Ok.read.1 in
    let one = subst (λ (n : ℕ). IsOtherField c.args.integers c.args.depth n place f (value_view x)) (sym size) c.in-Ok.ensures.ok in
    let put : c.insert.new.self.items ≡ insert c.loop-i.fields.items place c.in-Ok.read.1 = search rules in
    let trees = ap field_trees put ∙ trees_put c.loop-i.fields.items place c.in-Ok.read.1 in (
      subst (λ hs. IsMerging c.args.integers c.args.depth ks (map value_view l) (place + 1) hs (map value_view (drop (i + 1) l))) (sym trees)
          (goes_on c.args.integers c.args.depth ks (map value_view l) c.loop-i.next gs (value_view x) (map value_view (drop (i + 1) l)) going place f few one c.if-place-next.false),
      subst (λ hs. IsTrue (keep_bytes (field_values hs))) (sym put) (values_put c.loop-i.fields.items place c.in-Ok.read.1 c.loop-i.invariant.1 c.in-Ok.ensures.packed),
    )

pub returns-clause-ok : goal.returns-clause-ok
returns-clause-ok g c =
    let l = c.as_slice-items.result.now in
    let ks = field_trees c.args.known.items in
    let gs = field_trees c.loop-i.fields.items in
    let seen = array_seen c.in-Some.json.now c.in-Array.items l c.in-Array.is c.as_slice-items.ensures.value in
    let going = subst (IsMerging c.args.integers c.args.depth ks (map value_view l) c.loop-i.next gs) (at_drop_all (map value_view) l c.loop-i.i c.loop-i-test.false) c.loop-i.invariant.0 in
    row_read c.args.integers c.args.depth ks _ (value_view c.in-Some.json.now) (map value_view l) (sym c.in-Some.ensures) seen gs (merged c.args.integers c.args.depth ks (map value_view l) c.loop-i.next gs going)

pub returns-clause-only : goal.returns-clause-only
returns-clause-only g c = λ fs h.
    let l = c.as_slice-items.result.now in
    let ks = field_trees c.args.known.items in
    let gs = field_trees c.loop-i.fields.items in
    let seen = array_seen c.in-Some.json.now c.in-Array.items l c.in-Array.is c.as_slice-items.ensures.value in
    let going = subst (IsMerging c.args.integers c.args.depth ks (map value_view l) c.loop-i.next gs) (at_drop_all (map value_view) l c.loop-i.i c.loop-i-test.false) c.loop-i.invariant.0 in
    alone c.args.integers c.args.depth ks (map value_view l) c.loop-i.next gs going fs (read_row c.args.integers c.args.depth ks _ (value_view c.in-Some.json.now) (map value_view l) (sym c.in-Some.ensures) seen fs h)
