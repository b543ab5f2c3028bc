use Rattle.std.proofs.Common.{◌<◌, length, sym, ap, subst, ◌∙◌, arith}
use Rattle.std.proofs.lemmas.Bool.{eqb-true, eqb-false}
use Rattle.dbus_values.specs.States.{ValuesState, AreLeft}
use Rattle.dbus_values.proofs.Views.{no_values, first_coded}
use Rattle.dbus_values.proofs.values.Values.first_code.Goals as goal

pub returns-then-is_empty : goal.returns-then-is_empty
returns-then-is_empty c = λ xs rest l.
    let none = eqb-true (length c.self.inside.types.now) 0 (sym c.if-is_empty.ensures) in
    no_values c.args.self.now xs rest l (ap (λ (s : ValuesState). length s.types) (sym c.self.view_is) ∙ none)

pub returns : goal.returns
returns c = λ xs rest l.
    let i = c.self.inside in
    let s : ValuesState = record { order = i.source.order; bytes = i.source.bytes.now; at = i.at; types = i.types.now; depth_left = i.depth_left } in
    let not = eqb-false (length s.types) 0 (sym c.if-is_empty.ensures) in
    let some : 0 < length s.types = omega (arith, not) in
    first_coded s xs rest (subst (λ (u : ValuesState). AreLeft u xs rest) (sym c.self.view_is) l) some
