use Rattle.std.proofs.Common.{[]}
use Rattle.dbus_view.proofs.view.MessageView.arg.Goals as goal

pub returns : goal.returns
returns c = λ order m w.
    let f = c.in_ok-arg.ensures m.body [] (c.body.ensures.left order m w) in
    (f.0, f.1, c.view_of.ensures _ _ _ f.0 f.2)
