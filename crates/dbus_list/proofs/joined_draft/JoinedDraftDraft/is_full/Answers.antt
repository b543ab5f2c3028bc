use Rattle.std.proofs.Common.{length, refl, sym, ◌∙◌}
use Rattle.std.proofs.lemmas.Bool.{eqb-true}
use Rattle.std.proofs.lemmas.List.{nil_from_length}
use Rattle.dbus_list.proofs.JoinSteps.{all_below, passes}
use Rattle.dbus_list.proofs.joined_draft.JoinedDraftDraft.is_full.Goals as goal

pub returns-then-is_empty : goal.returns-then-is_empty
returns-then-is_empty g c = λ full text utf8.
    let none = sym c.as_str.ensures.value ∙ nil_from_length c.as_str.result.now (eqb-true (length c.as_str.result.now) 0 (sym c.is_empty.ensures ∙ c.if-is_empty.true)) in
    let a = c.args.self.now in
    passes g.D.Draft.gains g.met.D.Draft.joins a a a.draft.now text refl (all_below g.D.Draft.gains g.met.D.Draft.joins a none) (c.is_full.ensures full text utf8) none
