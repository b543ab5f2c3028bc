use Rattle.std.proofs.Common.{◌≡◌, ◌-◌, List, ℕ, ap, arith, refl, subst, take, ◌∙◌}
use Rattle.dbus_show.proofs.FieldTexts.{then}
use Rattle.dbus_show.specs.Escapes.{escaped, visible}
use Rattle.dbus_show.specs.declared.escapes.Escapes.TheVariants.{Shown}
use Rattle.dbus_explain.specs.Explained.{blanks, mark_line}
use Rattle.dbus_explain.proofs.rule.write_mark.Goals as goal

pub returns : goal.returns
returns g c =
    let gains = g.D.Draft.gains in
    let joins = g.met.D.Draft.joins in
    let text = c.args.text.now in
    let floor = c.floor_char_boundary-front in
    let n = floor.result in
    let bare : n - 0 ≡ n = omega arith in
    let front = subst (λ (t : List ℕ). gains c.push_str.new.self (blanks (visible (escaped Shown t))) c.write_front.new.draft) (c.range.ensures.value ∙ ap (λ k. take k text) bare) c.write_front.ensures in (
      mark_line (take n text),
      record { n = n; bound = floor.ensures.bound; begins = floor.ensures.boundary; nearest = floor.ensures.nearest; line_is = refl },
      then gains joins c.push_str.ensures (then gains joins front c.push_str-2.ensures),
    )
