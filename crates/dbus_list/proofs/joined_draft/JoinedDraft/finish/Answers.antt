use Rattle.std.proofs.Common.{ℕ, List, ◌++◌, ap, subst, ◌∙◌}
use Rattle.dbus_list.proofs.joined_draft.JoinedDraft.finish.Goals as goal

pub returns-clause-written : goal.returns-clause-written
returns-clause-written g c = λ before text h.
    subst (λ (t : List ℕ). g.D.Draft.gains before t c.push_str.new.self) (ap (λ (t : List ℕ). h.front ++ t) c.as_str.ensures.value ∙ h.whole)
    (g.met.D.Draft.joins before c.args.self.now.draft.now c.push_str.new.self h.front c.as_str.result.now h.gained c.push_str.ensures)
