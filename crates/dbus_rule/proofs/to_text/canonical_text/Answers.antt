use Rattle.std.proofs.Common.{refl, string_bytes, inl, inr, arith, ap, ◌∙◌}
use Rattle.dbus_rule.proofs.Canonical.{IsJoint, text_more}
use Rattle.dbus_rule.proofs.to_text.canonical_text.Goals as goal
use Rattle.dbus_rule.proofs.to_text.canonical_text.Goals.{then-i-gt0+in_ok-push_str, else-i-gt0}

pub loop-i-preserved : goal.loop-i-preserved
loop-i-preserved g c =
    let j : IsJoint c.loop-i.i (string_bytes c.loop-i.text) (string_bytes c.if-i-gt0.text) = elim c.if-i-gt0.branch [ then-i-gt0+in_ok-push_str w ↦ inl (w.if-i-gt0.true, ap string_bytes w.text-is ∙ w.in_ok-push_str.ensures.bytes) | else-i-gt0 w ↦ (let l = w.if-i-gt0.false in inr (omega (arith, l), ap string_bytes w.text-is)) ] in
    text_more c.args.conditions.now c.args.conditions.now c.loop-i.i c.index-conditions-i.result (string_bytes c.loop-i.text) (string_bytes c.if-i-gt0.text) (string_bytes c.push_condition.new.text) refl c.loop-i-test.true c.index-conditions-i.is c.loop-i.invariant j c.in_ok-push_condition.ensures
