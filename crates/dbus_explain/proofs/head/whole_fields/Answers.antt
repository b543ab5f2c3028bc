use Rattle.std.proofs.Common.{ℕ, ap, min, subst, ◌∙◌}
use Rattle.dbus_explain.specs.Heads.{AreWhole}
use Rattle.dbus_explain.proofs.head.whole_fields.Goals as goal

pub returns : goal.returns
returns c =
    let run = c.fields_passed.ensures.fields in
    let at = c.min.ensures ∙ ap (λ (n : ℕ). min c.args.at n) c.end_of_fields.ensures.fields in
    record {
      bytes = c.fields_passed.ensures.bytes;
      order = c.fields_passed.ensures.order ∙ c.order_of.ensures;
      stand = (run.0, run.1, run.2);
      fields = (run.0, run.1, run.2, subst (λ (n : ℕ). AreWhole c.args.bytes.now n run.0) at run.3);
    }
