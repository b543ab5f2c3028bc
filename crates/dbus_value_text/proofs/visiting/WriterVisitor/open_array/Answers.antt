use Rattle.std.proofs.Common.{refl, sym, subst}
use Rattle.dbus_walk.specs.Containers.{IsOf}
use Rattle.dbus_walk.specs.declared.container.Container.TheVariants as kind
use Rattle.dbus_walk.proofs.Containers.{array_stands}
use Rattle.dbus_value_text.proofs.Read.{all_ascii, array_told, array_listed}
use Rattle.dbus_value_text.proofs.visiting.WriterVisitor.open_array.Goals as goal

pub open-requires : goal.open-requires
open-requires g c = record { ascii = λ _. all_ascii c.requires.stands.2 }

pub returns-clause-takes : goal.returns-clause-takes
returns-clause-takes g c = λ v rest s.
    let p = array_stands s c.requires.code in
    let is = subst (IsOf kind.Array) (sym p.is) tt in
    record { listed = array_listed s p (c.requires.listed p.type p.code); written = record { same = refl; gained = c.open.ensures.written v is (array_told s p) } }
