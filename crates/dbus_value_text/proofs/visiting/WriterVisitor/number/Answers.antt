use Rattle.std.proofs.Common.{refl, subst, arith}
use Rattle.dbus_texts.specs.Types.{NumberType}
use Rattle.dbus_value_model.specs.Values.{ValueTree}
use Rattle.dbus_walk.proofs.Parts.{number_stands}
use Rattle.dbus_value_text.proofs.Read.{code_ascii, number_coded, number_there}
use Rattle.dbus_value_text.proofs.visiting.WriterVisitor.number.Goals as goal

pub number-requires : goal.number-requires
number-requires g c = record {
  ascii = code_ascii c.requires.stands.2;
  inside = λ k e.
      let p = number_stands c.requires.stands.2 c.args._size c.requires.some c.requires.wide in
      omega (arith, p.inside, c.requires.begins, c.requires.wide (NumberType k) e);
}

pub returns-clause-takes : goal.returns-clause-takes
returns-clause-takes g c = λ v rest s.
    let p = number_stands s c.args._size c.requires.some c.requires.wide in
    let w = c.number.ensures.written p.code (number_coded s c.args._size c.args.start p c.requires.begins) in
    (w.0, subst (λ (u : ValueTree). g.F.ValueForm.is_text u w.0) (number_there s c.args._size c.args.start p c.requires.begins) w.1, record { same = refl; gained = w.2 })
