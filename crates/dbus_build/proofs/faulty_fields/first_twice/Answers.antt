use Rattle.std.proofs.Common.{sym, ◌∙◌}
use Rattle.dbus_build.proofs.Finding.{twice_here, twice_later}
use Rattle.dbus_build.proofs.faulty_fields.first_twice.Goals as goal

pub returns-then-is_again : goal.returns-then-is_again
returns-then-is_again g c =
    twice_here c.args.fields.now c.loop-i.i c.index-fields-i.result c.loop-i-test.true c.index-fields-i.is (sym c.is_again.ensures ∙ c.if-is_again.true) ∙ c.loop-i.invariant

pub loop-i-preserved : goal.loop-i-preserved
loop-i-preserved g c =
    twice_later c.args.fields.now c.loop-i.i c.index-fields-i.result c.loop-i-test.true c.index-fields-i.is (sym c.is_again.ensures ∙ c.if-is_again.false) ∙ c.loop-i.invariant
