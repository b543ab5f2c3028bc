use Rattle.std.proofs.Common.{⊎_elim, sym}
use Rattle.std.proofs.lemmas.Bool.{both_ways}
use Rattle.dbus_rule_set.specs.Places.{trimmed}
use Rattle.dbus_rule_set.proofs.Fronts.{take_front, trimmed_is}
use Rattle.dbus_rule_set.proofs.slashes.trimmed.Goals as goal

pub returns-then-not-ends_in_slash : goal.returns-then-not-ends_in_slash
returns-then-not-ends_in_slash c =
    let w = c.args.text.now in
    ⊎_elim (λ e. absurd (both_ways c.ends_in_slash.result c.if-not-ends_in_slash.true (c.ends_in_slash.ensures.1 (trimmed w, e)))) (λ e. sym e) (trimmed_is w)

pub returns-in-len1-up : goal.returns-in-len1-up
returns-in-len1-up c =
    let ends = c.ends_in_slash.ensures.0 c.if-not-ends_in_slash.false in
    take_front c.args.text.now ends.0 ends.1
