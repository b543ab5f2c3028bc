use Rattle.std.proofs.Common.{arith, ◌∙◌, sym}
use Rattle.std.proofs.lemmas.Bool.{false≢true}
use Rattle.dbus_types.proofs.PrefixSteps.{inside_array, inside_struct, inside_entry, code_first}
use Rattle.dbus_types.proofs.Parsing.{left_of_end, reads_shorter, pair_value, pair_end, fields_type, fields_more, reads_struct, reads_entry, not_empty_at, spelled_push}
use Rattle.dbus_types.proofs.parse.+parse.Goals as goal

pub parse_fields-parse_type-requires : goal.parse_fields-parse_type-requires
parse_fields-parse_type-requires g t c =
    let l = c.loop-rest.invariant.starts in
    λ κs h. (omega (arith, c.loop-rest.invariant.shorter), (h, fields_type c.loop-rest.rest.now c.loop-rest-test.true l))

pub parse_fields-loop-rest-smaller : goal.parse_fields-loop-rest-smaller
parse_fields-loop-rest-smaller g t c = reads_shorter c.loop-rest.rest.now c.in_ok-ty.ty c.in_ok-ty.more.now c.in_ok-ty.ensures

pub parse_type-parse_type-requires : goal.parse_type-parse_type-requires
parse_type-parse_type-requires g t c =
    let e = c.in-Some.ensures.cases in
    λ κs h. (omega (arith, e.1), (h, inside_array c.args.bytes.now c.in-Some.byte.now c.in-Some.rest.now e.0 c.in-97.is c.requires))

pub parse_type-parse_fields-requires : goal.parse_type-parse_fields-requires
parse_type-parse_fields-requires g t c =
    let e = c.in-Some.ensures.cases in
    λ κs h. (omega (arith, e.1), (h, inside_struct c.args.bytes.now c.in-Some.byte.now c.in-Some.rest.now e.0 c.in-40.is c.requires))

pub parse_type-parse_type-requires-in-123 : goal.parse_type-parse_type-requires-in-123
parse_type-parse_type-requires-in-123 g t c =
    let e = c.in-Some.ensures.cases in
    let p = inside_entry c.args.bytes.now c.in-Some.byte.now c.in-Some.rest.now e.0 c.in-123.is c.requires in
    λ κs h. (omega (arith, e.1), (h, record { tree = p.key; rest = _; spelled = p.spelled }))

pub parse_type-parse_type-requires-in-123-2 : goal.parse_type-parse_type-requires-in-123-2
parse_type-parse_type-requires-in-123-2 g t c =
    let e = c.in-Some.ensures.cases in
    let p = inside_entry c.args.bytes.now c.in-Some.byte.now c.in-Some.rest.now e.0 c.in-123.is c.requires in
    let r = c.in_ok-key-in-123.ensures in
    let l = reads_shorter c.in-Some.rest.now c.in_ok-key-in-123.key c.in_ok-key-in-123.rest.now r in
    λ κs h. (omega (arith, e.1, l), (h, pair_value c.in-Some.rest.now c.in_ok-key-in-123.key c.in_ok-key-in-123.rest.now p r))

pub parse_type-slice_bounds-result-count : goal.parse_type-slice_bounds-result-count
parse_type-slice_bounds-result-count g t c =
    let e = c.in-Some.ensures.cases in
    let p = inside_entry c.args.bytes.now c.in-Some.byte.now c.in-Some.rest.now e.0 c.in-123.is c.requires in
    let z = pair_end c.in-Some.rest.now c.in_ok-key-in-123.key c.in_ok-key-in-123.rest.now c.in_ok-value-in-123.value c.in_ok-value-in-123.rest.now p c.in_ok-key-in-123.ensures c.in_ok-value-in-123.ensures in
    left_of_end c.in_ok-value-in-123.rest.now z

pub parse_type-slice_bounds-result-start : goal.parse_type-slice_bounds-result-start
parse_type-slice_bounds-result-start g t c = parse_type-slice_bounds-result-count g t c

pub parse_type-unreachable-requires : goal.parse_type-unreachable-requires
parse_type-unreachable-requires g t c = not_empty_at c.args.bytes.now c.in-None.ensures.cases c.requires

pub parse_type-unreachable-requires-in-None-plain_type : goal.parse_type-unreachable-requires-in-None-plain_type
parse_type-unreachable-requires-in-None-plain_type g t c =
    let e = c.in-Some.ensures.cases in
    false≢true (sym c.in-None-plain_type.ensures ∙ code_first c.args.bytes.now c.in-Some.byte.now c.in-Some.rest.now e.0 (λ z. omega arith) (λ z. omega arith) (λ z. omega arith) c.requires)

pub parse_type-returns-in_ok-fields-in-40-2 : goal.parse_type-returns-in_ok-fields-in-40-2
parse_type-returns-in_ok-fields-in-40-2 g t c =
    reads_struct c.args.bytes.now c.in-Some.rest.now c.in-Some.byte.now c.in_ok-fields-in-40-2.fields c.in_ok-fields-in-40.fields c.in_ok-fields-in-40.rest.now c.in-Some.ensures.cases.0 c.in-40.is c.in_ok-fields-in-40-2.ensures.ok c.in_ok-fields-in-40.ensures

pub parse_type-returns-in_ok-value-in-123-2 : goal.parse_type-returns-in_ok-value-in-123-2
parse_type-returns-in_ok-value-in-123-2 g t c =
    let e = c.in-Some.ensures.cases in
    let p = inside_entry c.args.bytes.now c.in-Some.byte.now c.in-Some.rest.now e.0 c.in-123.is c.requires in
    let z = pair_end c.in-Some.rest.now c.in_ok-key-in-123.key c.in_ok-key-in-123.rest.now c.in_ok-value-in-123.value c.in_ok-value-in-123.rest.now p c.in_ok-key-in-123.ensures c.in_ok-value-in-123.ensures in
    reads_entry c.args.bytes.now c.in-Some.rest.now c.in-Some.byte.now c.in_ok-key-in-123-2.key c.in_ok-value-in-123-2.value c.in_ok-key-in-123.key c.in_ok-value-in-123.value c.in_ok-key-in-123.rest.now c.in_ok-value-in-123.rest.now e.0 c.in-123.is c.in_ok-key-in-123-2.ensures.ok c.in_ok-value-in-123-2.ensures.ok c.in_ok-key-in-123.ensures c.in_ok-value-in-123.ensures z

pub parse_fields-loop-rest-preserved : goal.parse_fields-loop-rest-preserved
parse_fields-loop-rest-preserved g t c =
    let x = c.loop-rest in
    let i = x.invariant in
    let r = c.in_ok-ty.ensures in
    record {
      starts = fields_more x.rest.now c.in_ok-ty.ty c.in_ok-ty.more.now c.loop-rest-test.true i.starts r;
      spelled = i.spelled ∙ spelled_push x.types.items c.in_ok-ty.ty c.push.new.self.items x.rest.now c.in_ok-ty.more.now c.in_ok-push.ensures.items r.spelled;
      shorter = omega (arith, reads_shorter x.rest.now c.in_ok-ty.ty c.in_ok-ty.more.now r);
    }
