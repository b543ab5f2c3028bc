use Rattle.std.proofs.Common.{Bool, List, ℕ, Option, ◌&&◌, sym, ◌∙◌, subst}
use Rattle.std.specs.Bool.{Decides}
use Rattle.std.proofs.lemmas.Bool.{false≢true}
use Rattle.dbus_rule.specs.RuleViews.{rule_pairs}
use Rattle.dbus_match.specs.Matching.{IsSent, Matches}
use Rattle.dbus_match.proofs.Sent.{by_both, others_hold}
use Rattle.dbus_rule_set.specs.Owners.{owners_in}
use Rattle.dbus_rule_set.proofs.matching.keys_hold.Goals as goal

pub returns-then-other_keys_hold : goal.returns-then-other_keys_hold
returns-then-other_keys_hold g c = λ order m v.
    let rule = c.args.rule.now in
    let os = owners_in c.args.owners.now in
    let sent = subst (λ (s : Option (List ℕ)). Decides c.is_sent.result (IsSent s m os)) c.sender.ensures (c.is_sent.ensures order m v) in
    subst (λ (b : Bool). Decides (b && c.is_sent.result) (Matches (rule_pairs rule) m os)) c.if-other_keys_hold.true
    (by_both m os rule c.other_keys_hold.result c.is_sent.result (c.other_keys_hold.ensures order m v) sent)

pub returns-else-other_keys_hold : goal.returns-else-other_keys_hold
returns-else-other_keys_hold g c = λ order m v. (
  λ t. absurd (false≢true (sym c.if-other_keys_hold.false ∙ t)),
  λ h. (c.other_keys_hold.ensures order m v).1 (others_hold m (owners_in c.args.owners.now) (rule_pairs c.args.rule.now) h),
)
