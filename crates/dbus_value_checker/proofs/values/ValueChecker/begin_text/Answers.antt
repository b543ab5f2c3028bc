use Rattle.std.proofs.Common.{refl, arith}
use Rattle.dbus_value_checker.specs.Suspended.{done}
use Rattle.dbus_value_checker.specs.Moves.{text_on}
use Rattle.dbus_value_checker.proofs.TextSteps.{text_begins}
use Rattle.dbus_value_checker.proofs.values.ValueChecker.begin_text.Goals as goal

pub text_on-requires : goal.text_on-requires
text_on-requires c =
    let a = c.args in let r = c.requires in
    record { valid = (text_on a.kind a.size done a.offset, text_begins _ a.kind a.size done c.clear.ensures c.clear-2.ensures c.clear-3.ensures refl r.fits (omega (arith, c.ranges.end)) r.kind c.new-self.ensures.kind c.new-self.ensures.stands) }

pub returns-clause-opens : goal.returns-clause-opens
returns-clause-opens c = λ last.
    let a = c.args in let r = c.requires in
    c.text_on.ensures.opens (text_on a.kind a.size last a.offset) (text_begins _ a.kind a.size last c.clear.ensures c.clear-2.ensures c.clear-3.ensures refl r.fits (omega (arith, c.ranges.end)) r.kind c.new-self.ensures.kind c.new-self.ensures.stands)
