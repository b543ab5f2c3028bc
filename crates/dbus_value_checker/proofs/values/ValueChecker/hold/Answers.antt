use Rattle.dbus_value_checker.proofs.Variants.{held_nul}
use Rattle.dbus_value_checker.proofs.values.ValueChecker.hold.Goals as goal

pub returns : goal.returns
returns c = λ answer h.
    let x = c.args.self.now in let l = c.sign.ensures.lengths in
    held_nul x answer h c.len.result c.len.ensures.value c.as_slice.result.now l.0 c.as_slice.ensures.value l.1 c.sign.new.text c.sign.new.lengths c.push.new.self c.sign.ensures.text l.2 c.push.ensures.items
