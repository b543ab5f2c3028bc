use Rattle.std.proofs.Common.{rules, arith}
use Rattle.std.proofs.lemmas.Str.Pattern.{split_parts}
use Rattle.dbus_list.specs.Columns.{ends, first_short}
use Rattle.dbus_list.proofs.Ends.{short_here, short_last, short_later}
use Rattle.dbus_list.proofs.columns.end_by_dots.Goals as goal

pub returns-then-rest-most : goal.returns-then-rest-most
returns-then-rest-most c =
    let parts = split_parts 46 c.loop-end.rest.now c.split_once.result c.split_once.ensures.cases (omega arith) in
    let p = rw c.in-Some.is at parts in
    short_here c.args.most c.loop-end.rest.now c.in-Some.field-0-0.now c.in-Some.end.now (first_short c.args.most c.args.name.now (ends c.args.name.now)) p.0 p.1 c.loop-end.invariant.1 c.if-rest-most.true

pub loop-end-preserved : goal.loop-end-preserved
loop-end-preserved c =
    let parts = split_parts 46 c.loop-end.rest.now c.split_once.result c.split_once.ensures.cases (omega arith) in
    let p = rw c.in-Some.is at parts in (
      search rules,
      short_later c.args.most c.loop-end.rest.now c.in-Some.field-0-0.now c.in-Some.end.now (first_short c.args.most c.args.name.now (ends c.args.name.now)) p.0 p.1 c.loop-end.invariant.1 (omega (arith, c.if-rest-most.false)),
    )

pub returns : goal.returns
returns c =
    let parts = split_parts 46 c.loop-end.rest.now c.split_once.result c.split_once.ensures.cases (omega arith) in
    let p = rw c.in_default.is at parts in
    short_last c.args.most c.loop-end.rest.now (first_short c.args.most c.args.name.now (ends c.args.name.now)) p c.loop-end.invariant.1
