use Rattle.std.proofs.Common.{rules, ◌+◌, ◌<◌, length, refl, arith}
use Rattle.dbus_rule.specs.Rules.{condition_pair, condition_pairs}
use Rattle.dbus_rule.proofs.RuleReadings.{spaces_at, read_more, read_last, read_end, read_fault}
use Rattle.dbus_rule.proofs.conditions.read_conditions.Goals as goal

pub returns-then-key_from-bytes-clause-rule : goal.returns-then-key_from-bytes-clause-rule
returns-then-key_from-bytes-clause-rule g c =
    let w = c.args.text.now in
    let at = c.loop-bytes.from in
    let s = c.spaces.result in
    let h = spaces_at w c.as_bytes-bytes.result.now at s c.as_bytes-bytes.ensures.value c.loop-bytes.invariant.within c.spaces.ensures.count in
    read_end w at s (at + s) (condition_pairs c.loop-bytes.conditions.items) c.requires h.0 (search rules) c.loop-bytes.invariant.read

pub returns-in_err-condition-clause-fault : goal.returns-in_err-condition-clause-fault
returns-in_err-condition-clause-fault g c =
    let w = c.args.text.now in
    let at = c.loop-bytes.from in
    let s = c.spaces.result in
    let h = spaces_at w c.as_bytes-bytes.result.now at s c.as_bytes-bytes.ensures.value c.loop-bytes.invariant.within c.spaces.ensures.count in
    let f = read_fault w at s (at + s) (condition_pairs c.loop-bytes.conditions.items) c.in_err-condition.field-0.0 c.requires h.0 refl c.loop-bytes.invariant.read (rw c.as_slice.ensures.value at c.in_err-condition.ensures.fault) in
    search (rules, f)

pub returns-then-end-bytes-clause-rule : goal.returns-then-end-bytes-clause-rule
returns-then-end-bytes-clause-rule g c =
    let w = c.args.text.now in
    let at = c.loop-bytes.from in
    let s = c.spaces.result in
    let h = spaces_at w c.as_bytes-bytes.result.now at s c.as_bytes-bytes.ensures.value c.loop-bytes.invariant.within c.spaces.ensures.count in
    read_last w at s (at + s) (condition_pairs c.loop-bytes.conditions.items) (condition_pairs c.insert.new.conditions.items) (condition_pair c.in_ok-condition.condition) c.in_ok-condition.end c.in_ok-insert.ensures c.requires h.0 refl (search rules) c.loop-bytes.invariant.read (rw c.as_slice.ensures.value at c.in_ok-condition.ensures.pair)

pub loop-bytes-preserved : goal.loop-bytes-preserved
loop-bytes-preserved g c =
    let w = c.args.text.now in
    let at = c.loop-bytes.from in
    let s = c.spaces.result in
    let h = spaces_at w c.as_bytes-bytes.result.now at s c.as_bytes-bytes.ensures.value c.loop-bytes.invariant.within c.spaces.ensures.count in
    let l : c.in_ok-condition.end < length w = search rules in
    record {
      within = omega (arith, l);
      read = read_more w at s (at + s) (condition_pairs c.loop-bytes.conditions.items) (condition_pairs c.insert.new.conditions.items) (condition_pair c.in_ok-condition.condition) c.in_ok-condition.end c.in_ok-insert.ensures c.requires h.0 refl l c.loop-bytes.invariant.read (rw c.as_slice.ensures.value at c.in_ok-condition.ensures.pair);
    }
