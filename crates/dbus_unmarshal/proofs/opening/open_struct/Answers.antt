use Rattle.dbus_unmarshal.proofs.Gathering.{not_struct, struct_opened}
use Rattle.dbus_unmarshal.proofs.opening.open_struct.Goals as goal

pub returns : goal.returns
returns g c = λ v is u done us next.
    struct_opened v is c.in-Some.wanted.now c.in-Struct.fields c.in_ok-types.types c.in_ok-values.values.items c.in-Struct.is c.in_ok-types.ensures.cases c.in_ok-values.ensures.items (c.in-Some.ensures u v done us next)

pub returns-in_default-wanted : goal.returns-in_default-wanted
returns-in_default-wanted g c = λ v is u done us next. absurd (not_struct v is c.in-Some.wanted.now c.in_default-wanted.not-Struct (c.in-Some.ensures u v done us next))
