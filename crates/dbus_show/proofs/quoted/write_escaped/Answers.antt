use Rattle.std.proofs.Common.{rules, ℕ, List, ◌++◌, ap, ◌∙◌, sym, subst, append_assoc}
use Rattle.dbus_show.specs.Escapes.{escape, escaped}
use Rattle.dbus_show.proofs.FieldTexts.{then}
use Rattle.dbus_show.proofs.quoted.write_escaped.Goals as goal

pub returns-then-is_full_for : goal.returns-then-is_full_for
returns-then-is_full_for g c =
    let before = c.loop-plain.invariant.1 in
    subst (λ (s : List ℕ). g.D.Draft.gains c.args.draft.now s c.loop-plain.draft) before.2
    (then g.D.Draft.gains g.met.D.Draft.joins before.1 (c.is_full_for.ensures c.if-is_full_for.true))

pub loop-plain-preserved : goal.loop-plain-preserved
loop-plain-preserved g c =
    let before = c.loop-plain.invariant.1 in
    let plain = c.in-Some.plain.now in
    let mark = escape c.args.escapes c.in-Some.character in
    let after = escaped c.args.escapes c.in-Some.after.now in
    let gained = then g.D.Draft.gains g.met.D.Draft.joins before.1 (then g.D.Draft.gains g.met.D.Draft.joins c.push_str.ensures c.write_escape.ensures) in (
      search rules,
      (
        before.0 ++ (plain ++ mark),
        gained,
        append_assoc before.0 (plain ++ mark) after ∙ ap (λ s. before.0 ++ s) (append_assoc plain mark after ∙ sym c.in-Some.ensures.0) ∙ before.2,
      ),
    )
