use Rattle.std.proofs.Common.{◌≡◌, [], None, Ok, ◌∙◌, length, sym, subst, vec_len}
use Rattle.std.proofs.lemmas.Bool.{eqb-true}
use Rattle.std.proofs.lemmas.List.{nil_from_length}
use Rattle.dbus_stream.specs.Gathering.{GathererState, gathering}
use Rattle.dbus_stream.specs.Taking.{Takes}
use Rattle.dbus_stream.proofs.GathererSteps.{lends_first, waits_none}
use Rattle.dbus_header.proofs.OutcomeLaws.{whole_inside}
use Rattle.dbus_stream.proofs.gatherer.GathererTaker.take_piece.Goals as goal

pub returns-in-Some-clause-takes : goal.returns-in-Some-clause-takes
returns-in-Some-clause-takes g c = λ w holds size.
    let held = c.self.inside.held in
    let size : length held.items ≡ 0 = sym held.ok.0 ∙ eqb-true (vec_len held) 0 (sym c.is_empty.ensures ∙ c.if-not-is_empty.false) in
    let none : held.items ≡ [] = nil_from_length held.items size in
    lends_first c.args.self.now c.args.piece.now c.self.inside.limits held.items c.self.inside.whole c.self.inside.lent w c.in-Some.validated (c.self.view_is ∙ c.begin.ensures) holds none
    (rw c.in-Some.is at c.validate.ensures.validated)

pub returns-in-Some-clause-within : goal.returns-in-Some-clause-within
returns-in-Some-clause-within g c =
    let first = rw c.in-Some.is at c.validate.ensures.validated in
    (whole_inside c.self.inside.limits c.args.piece.now c.in-Some.validated.order first.message c.in-Some.validated.length first.whole).1

pub returns-then-is_empty-clause-takes : goal.returns-then-is_empty-clause-takes
returns-then-is_empty-clause-takes g c = λ w holds size.
    let held = c.self.inside.held in
    let piece = c.args.piece.now in
    let size : length held.items ≡ 0 = sym held.ok.0 ∙ eqb-true (vec_len held) 0 (sym c.is_empty.ensures ∙ c.if-not-is_empty.false) in
    let none : held.items ≡ [] = nil_from_length held.items size in
    let bare : piece ≡ [] = nil_from_length piece (eqb-true (length piece) 0 (sym c.is_empty-2.ensures ∙ c.if-is_empty.true)) in
    subst (λ (s : GathererState). Takes gathering c.args.self.now w piece s (Ok 0) None) c.self.view_is
    (waits_none c.args.self.now piece c.self.inside.limits held.items c.self.inside.whole c.self.inside.lent w (c.self.view_is ∙ c.begin.ensures) holds none bare)
