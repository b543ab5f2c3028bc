use Rattle.std.proofs.lemmas.Bool.{false≢true}
use Rattle.std.proofs.Common.{sym, ◌∙◌}
use Rattle.dbus_build.specs.BuildFaults.{Keeps}
use Rattle.dbus_build.proofs.Finding.{here, later, at_end}
use Rattle.dbus_build.proofs.faulty_fields.first_without.Goals as goal

pub loop-field-init : goal.loop-field-init
loop-field-init g c = λ r w. w

pub returns-then-not-keeps : goal.returns-then-not-keeps
returns-then-not-keeps g c =
    c.loop-field.invariant _
    (here (Keeps c.args.rule) (λ n f. f.code) c.args.fields.now c.loop-field.field-index c.field-item.result c.loop-field-test.true
    c.field-item.is (λ p. false≢true (sym c.if-not-keeps.true ∙ c.keeps.ensures.1 p)))

pub loop-field-preserved : goal.loop-field-preserved
loop-field-preserved g c =
    λ r w. c.loop-field.invariant r
    (later (Keeps c.args.rule) (λ n f. f.code) c.args.fields.now c.loop-field.field-index c.field-item.result r c.loop-field-test.true
    c.field-item.is (c.keeps.ensures.0 c.if-not-keeps.false) w)

pub returns : goal.returns
returns g c =
    c.loop-field.invariant _ (at_end (Keeps c.args.rule) (λ n f. f.code) c.args.fields.now c.loop-field.field-index c.loop-field-test.false)
