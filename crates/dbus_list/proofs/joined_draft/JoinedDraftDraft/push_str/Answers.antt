use Rattle.std.proofs.Common.{◌≡◌, ◌++◌, refl, rules, subst}
use Rattle.dbus_list.specs.Joining.{Gains}
use Rattle.dbus_list.proofs.JoinSteps.{keeps}
use Rattle.dbus_list.proofs.joined_draft.JoinedDraftDraft.push_str.Goals as goal

pub returns-then-is_full : goal.returns-then-is_full
returns-then-is_full g c = c.is_full.ensures c.if-is_full.true c.args.text.now c.utf8.text

pub returns-then-is_err : goal.returns-then-is_err
returns-then-is_err g c =
    let same : c.try_push_str.new.self ≡ c.args.self.now.kept = search rules in
    subst (λ k. Gains g.D.Draft.gains (record c.args.self.now { kept = k }) c.args.text.now c.push_past.new.self) same c.push_past.ensures

pub returns-else-is_err : goal.returns-else-is_err
returns-else-is_err g c =
    let longer : c.try_push_str.new.self.bytes ≡ c.args.self.now.kept.bytes ++ c.args.text.now = search rules in
    keeps g.D.Draft.gains c.args.self.now _ c.args.text.now refl longer
