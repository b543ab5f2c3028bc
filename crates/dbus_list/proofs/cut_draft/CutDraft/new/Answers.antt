use Rattle.std.proofs.Common.{◌≡◌, ◌+◌, ◌-◌, [], sym, subst}
use Rattle.std.specs.Str.{chars}
use Rattle.dbus_list.specs.Cuts.{width}
use Rattle.dbus_list.specs.Cutting.{Leaves}
use Rattle.dbus_list.specs.declared.cut_draft.Room.{Room}
use Rattle.dbus_list.proofs.CutSteps.{none_cut}
use Rattle.dbus_list.proofs.CutTexts.{width_none}
use Rattle.dbus_list.proofs.cut_draft.CutDraft.new.Goals.{then-most-eq0, else-most-eq0}
use Rattle.dbus_list.proofs.cut_draft.CutDraft.new.Goals as goal

pub returns-clause-begins : goal.returns-clause-begins
returns-clause-begins g c =
    let none = g.met.D.Draft.nothing c.args.draft.now in
    let leaves : Leaves g.D.Draft.gains c.args.draft.now c.args.most c.if-most-eq0.room [] c.args.draft.now = elim c.if-most-eq0.branch [
      | then-most-eq0 w ↦ subst (λ (r : Room). Leaves g.D.Draft.gains c.args.draft.now c.args.most r [] c.args.draft.now) (sym w.room-is) (w.if-most-eq0.true, none)
      | else-most-eq0 w ↦
          let some : width (chars []) + (c.args.most - 1) + 1 ≡ c.args.most = width_none c.args.most w.if-most-eq0.false in
          subst (λ (r : Room). Leaves g.D.Draft.gains c.args.draft.now c.args.most r [] c.args.draft.now) (sym w.room-is) (some, none)
    ] in
    none_cut g.D.Draft.gains c.args.draft.now c.args.most _ leaves
