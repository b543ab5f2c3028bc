use Rattle.std.proofs.Common.{sym, subst}
use Rattle.dbus_rule_set.specs.Places.{IsAmong}
use Rattle.dbus_rule_set.proofs.Among.{among_kept, among_new}
use Rattle.dbus_rule_set.proofs.met.note.Goals as goal

pub returns-clause-kept : goal.returns-clause-kept
returns-clause-kept c = λ h i. subst (IsAmong h) (sym c.push.ensures.items) (among_kept h c.args.hash c.args.hashes.now.items i)

pub returns-clause-noted : goal.returns-clause-noted
returns-clause-noted c = λ w. subst (IsAmong c.args.hash) (sym c.push.ensures.items) (among_new c.args.hash c.args.hashes.now.items)
