use Rattle.std.proofs.Common.{◌≡◌, ◌-◌, ◌++◌, ℕ, List, take, refl, sym, ap, subst, ◌∙◌}
use Rattle.std.specs.Str.{IsUtf8, chars}
use Rattle.std.proofs.lemmas.List.{take-append-drop}
use Rattle.std.proofs.lemmas.Str.{IsUtf8-take}
use Rattle.dbus_list.specs.Cuts.{width}
use Rattle.dbus_list.specs.Cutting.{Gains}
use Rattle.dbus_list.specs.CuttingLaws.{joins}
use Rattle.dbus_list.specs.declared.cut_draft.Room.TheVariants as room
use Rattle.dbus_list.proofs.CutSteps.{front_fits, stepped}
use Rattle.dbus_list.proofs.cut_draft.CutDraft.push_front.Goals as goal

pub split_at-requires : goal.split_at-requires
split_at-requires g c = c.requires.front.boundary

pub returns : goal.returns
returns g c =
    let gains = g.D.Draft.gains in
    let left = c.args.left in
    let text = c.args.text.now in
    let front = c.args.front in
    let shown = c.split_at.result.0.now in
    let rest = c.split_at.result.1.now in
    let is : shown ≡ take front.bytes text = c.split_at.ensures.front in
    let utf8 : IsUtf8 shown = subst IsUtf8 (sym is) (IsUtf8-take text front.bytes c.utf8.text c.requires.front.boundary) in
    let wide : width (chars shown) ≡ front.cells = ap (λ (t : List ℕ). width (chars t)) is ∙ c.requires.front.width_is in
    let whole : shown ++ rest ≡ text = ap (λ (t : List ℕ). t ++ rest) is ∙ ap (λ (t : List ℕ). take front.bytes text ++ t) c.split_at.ensures.back ∙ take-append-drop front.bytes text in
    let first = stepped gains c.args.self.now _ shown refl utf8 (room.Left left) (room.Left (left - front.cells)) c.requires.room refl
    (front_fits gains g.met.D.Draft.joins c.args.self.now.draft.now c.push_str.new.self shown left front.cells wide c.requires.front.fits c.push_str.ensures) in
    subst (λ (t : List ℕ). Gains gains c.args.self.now t c.push_each.new.self) whole (joins gains c.args.self.now _ c.push_each.new.self shown rest first c.push_each.ensures)
