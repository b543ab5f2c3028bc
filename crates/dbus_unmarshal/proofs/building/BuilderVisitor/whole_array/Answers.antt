use Rattle.std.proofs.Common.{arith, ap, rules}
use Rattle.std.proofs.lemmas.Bool.{ltb-true}
use Rattle.dbus_value_model.specs.Values.{type_of}
use Rattle.dbus_walk.proofs.Containers.{array_stands}
use Rattle.dbus_values.proofs.NumberRuns.{elements_within}
use Rattle.dbus_value_model.specs.declared.value.Value.{the_lemmas}
use Rattle.dbus_unmarshal.proofs.Gathering.{placed}
use Rattle.dbus_unmarshal.proofs.Leaves.{held, aligned, bytes_built, numbers_built}
use Rattle.dbus_unmarshal.proofs.building.BuilderVisitor.whole_array.Goals as goal

pub slice_bounds-from_slice-end : goal.slice_bounds-from_slice-end
slice_bounds-from_slice-end g c =
    let r = c.requires in
    omega (arith, elements_within (held r.stands.2 c.args.run r.code (ltb-true 0 c.args.run.size r.stroke) r.wide r.begins r.parts r.ends))

pub returns-then-run-eq1-clause-takes : goal.returns-then-run-eq1-clause-takes
returns-then-run-eq1-clause-takes g c = λ v rest s.
    let r = c.requires in
    placed c.place.result c.args.gathered.now c.place.new.gathered v _ (λ u done us next. record {
      tree = bytes_built s c.args.run r.code (ltb-true 0 c.args.run.size r.stroke) r.wide r.begins r.parts r.ends c.in_ok-bytes.bytes c.if-run-eq1.true c.in_ok-bytes.ensures.items;
      packed = search (rules, the_lemmas);
    }) c.place.ensures

pub overflow_sub-held : goal.overflow_sub-held
overflow_sub-held g c = let p = array_stands c.requires.stands.2 c.requires.code in omega (arith, p.some)

pub slice_bounds-held-start : goal.slice_bounds-held-start
slice_bounds-held-start g c = let p = array_stands c.requires.stands.2 c.requires.code in omega (arith, p.long)

pub numbers_up_to-requires-clause-stand : goal.numbers_up_to-requires-clause-stand
numbers_up_to-requires-clause-stand g c =
    let r = c.requires in
    ((array_stands r.stands.2 r.code).xs, r.stands.1, held r.stands.2 c.args.run r.code (ltb-true 0 c.args.run.size r.stroke) r.wide r.begins r.parts r.ends)

pub numbers_up_to-requires-clause-aligned : goal.numbers_up_to-requires-clause-aligned
numbers_up_to-requires-clause-aligned g c =
    let r = c.requires in
    aligned r.stands.2 c.args.run r.code (ltb-true 0 c.args.run.size r.stroke) r.wide r.begins r.parts r.ends

pub returns-clause-takes : goal.returns-clause-takes
returns-clause-takes g c = λ v rest s.
    let r = c.requires in
    let run = c.args.run in
    let some = ltb-true 0 run.size r.stroke in
    let p = array_stands s r.code in
    let made = c.in_ok-values.ensures p.xs rest (held s run r.code some r.wide r.begins r.parts r.ends) in
    placed c.place-2.result c.args.gathered.now c.place-2.new.gathered v _ (λ u done us next. numbers_built s run r.code some r.wide r.begins r.parts r.ends c.in_ok-item.item c.in_ok-values.values made.0 c.if-run-eq1.false (c.in_ok-item.ensures u v done us p.type next (ap type_of p.is)) made.1 made.2) c.place-2.ensures
