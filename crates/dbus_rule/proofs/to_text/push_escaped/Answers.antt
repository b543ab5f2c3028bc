use Rattle.std.proofs.Common.{rules, ◌++◌, string_bytes, arith}
use Rattle.std.proofs.lemmas.Str.Pattern.{split_parts}
use Rattle.dbus_rule.specs.Rules.{quote_escaped}
use Rattle.dbus_rule.proofs.Values.{escaped_step, escaped_last}
use Rattle.dbus_rule.proofs.to_text.push_escaped.Goals as goal

pub loop-run-preserved : goal.loop-run-preserved
loop-run-preserved g c =
    let parts = split_parts 39 c.loop-run.rest.now c.split_once.result c.split_once.ensures.cases (omega arith) in
    let p = rw c.in-Some.is at parts in (
      search rules,
      escaped_step (string_bytes c.loop-run.text) (string_bytes c.push_str.new.self) (string_bytes c.push_str-in-Some.new.self) c.in-Some.run'.now c.in-Some.after.now c.loop-run.rest.now (string_bytes c.args.text.now ++ quote_escaped c.args.value.now) c.in_ok-push_str.ensures.bytes c.in_ok-push_str-2.ensures.bytes p.0 p.1 c.loop-run.invariant.1,
    )

pub returns : goal.returns
returns g c =
    let parts = split_parts 39 c.loop-run.rest.now c.split_once.result c.split_once.ensures.cases (omega arith) in
    let p = rw c.in_default.is at parts in
    escaped_last c.push_str-2.result (string_bytes c.loop-run.text) (string_bytes c.push_str-2.new.self) c.loop-run.rest.now (string_bytes c.args.text.now ++ quote_escaped c.args.value.now) c.push_str-2.ensures.bytes p c.loop-run.invariant.1
