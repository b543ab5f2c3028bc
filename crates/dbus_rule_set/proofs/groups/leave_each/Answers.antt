use Rattle.std.proofs.Common.{◌∙◌, rules}
use Rattle.std.specs.Map.Iter.{deref}
use Rattle.std.proofs.lemmas.Map.Iter.{rest_more}
use Rattle.std.proofs.Common.{◌∷◌, ap, sym, not, ◌&&◌}
use Rattle.std.specs.Str.{bytes_eq}
use Rattle.dbus_rule_set.specs.Groups.{has}
use Rattle.dbus_rule_set.proofs.GroupedTexts.{any_is, one_gone}
use Rattle.dbus_rule_set.proofs.groups.leave_each.Goals as goal

pub loop-first-preserved : goal.loop-first-preserved
loop-first-preserved c = (
  λ n u.
      let l = c.loop-first in
      let s = bytes_eq c.args.second.now u in
      let more = rest_more deref l.first-iterator c.next.new.self c.next.result c.in-Some.first c.in-Some.is c.next.ensures.steps in
      one_gone n c.as_str.result.now c.in-Some.first.now c.next.new.self s (has l.groups n u) (has c.leave.new.groups n u) (search rules) (c.leave.ensures.left n u)
      ∙ (ap (λ xs. not (any_is n xs && s) && has l.groups n u) (sym more) ∙ l.invariant.0 n u),
  λ was. c.leave.ensures.ordered,
)
