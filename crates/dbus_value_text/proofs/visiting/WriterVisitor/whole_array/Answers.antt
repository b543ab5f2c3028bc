use Rattle.std.proofs.Common.{ℕ, ◌+◌, get_or, refl, ap, subst, ◌∙◌, arith}
use Rattle.dbus_value_model.specs.Values.{ValueTree}
use Rattle.dbus_walk.proofs.Containers.{array_stands, array_begins, array_counts}
use Rattle.dbus_value_text.proofs.Read.{bytes_held, stroke_is}
use Rattle.dbus_value_text.proofs.visiting.WriterVisitor.whole_array.Goals as goal

pub slice_bounds-bytes-end : goal.slice_bounds-bytes-end
slice_bounds-bytes-end g c =
    let s = c.requires.stands.2 in
    let p = array_stands s c.requires.code in
    let begins = array_begins s p c.args.run.start c.args.run.first c.requires.begins c.requires.parts in
    let counts = array_counts s p c.args.run.start _ c.requires.begins refl in
    omega (arith, p.inside, begins, counts, c.requires.ends)

pub returns-clause-takes : goal.returns-clause-takes
returns-clause-takes g c = λ v rest s.
    let p = array_stands s c.requires.code in
    let run = c.args.run in
    let begins = array_begins s p run.start run.first c.requires.begins c.requires.parts in
    let ends = c.requires.ends ∙ ap (λ (k : ℕ). run.first + k) (array_counts s p run.start _ c.requires.begins refl) in
    let byte = stroke_is (get_or c.args._spot.now.types.now 1 0) c.requires.stroke in
    let held = bytes_held s p run.first run.end begins ends byte in
    let w = c.bytes.ensures.written p.xs held.0 in
    (w.0, subst (λ (u : ValueTree). g.F.ValueForm.is_text u w.0) held.1 w.1, record { same = refl; gained = w.2 })
