use Rattle.std.proofs.Common.{◌≤◌, length, sym, subst}
use Rattle.dbus_values.specs.States.{ValuesState, AreLeft}
use Rattle.dbus_unmarshal.proofs.copying.copy_values.Goals as goal

pub lengths_of-requires : goal.lengths_of-requires
lengths_of-requires g c = record { few = subst (λ (s : ValuesState). length s.types ≤ 255) (sym c.place.ensures.place) c.place.ensures.some.0 }

pub build_values-requires : goal.build_values-requires
build_values-requires g c =
    let some = c.place.ensures.some in
    record { stand = (some.1, some.2, subst (λ (s : ValuesState). AreLeft s some.1 some.2) (sym c.place.ensures.place) some.3); noted = c.lengths_of.ensures }

pub returns-clause-copied : goal.returns-clause-copied
returns-clause-copied g c = λ xs rest l. c.build_values.ensures.built xs rest (subst (λ (s : ValuesState). AreLeft s xs rest) (sym c.place.ensures.place) l)
