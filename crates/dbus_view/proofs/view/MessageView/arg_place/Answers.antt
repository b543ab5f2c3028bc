use Rattle.std.proofs.Common.{[], subst}
use Rattle.dbus_values.specs.States.{ValuesState}
use Rattle.dbus_view.specs.Bodies.{IsNumbered}
use Rattle.dbus_view.proofs.view.MessageView.arg_place.Goals as goal

pub place_of-requires : goal.place_of-requires
place_of-requires c =
    let some = c.body.ensures.one in
    let f = c.in_ok-arg.ensures some.1.body [] (c.body.ensures.left some.0 some.1 some.2) in
    (_, _, _, f.0, f.2)

pub returns : goal.returns
returns c = λ order m w.
    let there = c.in_ok-arg.ensures m.body [] (c.body.ensures.left order m w) in
    let f = subst (λ (s : ValuesState). IsNumbered s c.args.n m.body c.in_ok-arg.arg) (c.body.ensures.all order m w) there in
    let told = c.place_of.ensures _ _ _ f.0 f.2 in
    (f.0, f.1, told.0, told.1)
