use Rattle.std.proofs.Common.{◌≡◌, ℕ, Bool, take, drop, refl, sym, subst, ◌∙◌, not, eqb, ap}
use Rattle.std.proofs.lemmas.Bool.{eq-eqb, ne_eqb}
use Rattle.dbus_texts.specs.Types.{NumberCode, DOUBLE}
use Rattle.dbus_types.specs.Alignments.{width}
use Rattle.dbus_value_model.specs.Reading.{number_of}
use Rattle.dbus_show.specs.ShownValues.{number_text}
use Rattle.dbus_value_text.proofs.Rows.{double_code}
use Rattle.dbus_json.specs.declared.integers.Integers.TheVariants.{Exact}
use Rattle.dbus_json.specs.JsonIntegers.{integers_of}
use Rattle.dbus_json.specs.JsonValues.{IsDouble, IsNumber}
use Rattle.dbus_json.proofs.Floats.{shown_number}
use Rattle.dbus_json.proofs.json.JsonValueForm.number.Goals as goal

pub u64_at-requires : goal.u64_at-requires
u64_at-requires g c = c.requires.inside DOUBLE (sym c.if-code-eq100.true)

pub returns-then-code-eq100 : goal.returns-then-code-eq100
returns-then-code-eq100 g c = record {
  written = λ k e.
      let is : k ≡ DOUBLE = double_code k (e ∙ c.if-code-eq100.true) in
      let w = c.write_double.ensures in
      let bits = subst (λ (n : ℕ). IsDouble n w.0) c.u64_at.ensures.spelled w.1 in
      (w.0, subst (λ (j : NumberCode). IsNumber (integers_of (not (eqb g.row.SAFE 0))) j (number_of c.args.source.now.order (take (width j) (drop c.args.at c.args.source.now.bytes.now))) w.0) (sym is) bits, w.2);
}

pub returns-then-this-ne0 : goal.returns-then-this-ne0
returns-then-this-ne0 g c = record {
  written = λ k e.
      let n = number_of c.args.source.now.order (take (width k) (drop c.args.at c.args.source.now.bytes.now)) in
      let w = c.write_safe.ensures k e in
      (w.0, subst (λ (b : Bool). IsNumber (integers_of b) k n w.0) (sym (ap not (ne_eqb g.row.SAFE 0 c.if-this-ne0.true))) w.1, w.2);
}

pub returns-else-this-ne0 : goal.returns-else-this-ne0
returns-else-this-ne0 g c = record {
  written = λ k e.
      let n = number_of c.args.source.now.order (take (width k) (drop c.args.at c.args.source.now.bytes.now)) in
      let shown = shown_number Exact k n (λ is. c.if-code-eq100.false (sym e ∙ is)) refl in
      (number_text k n, subst (λ (b : Bool). IsNumber (integers_of b) k n (number_text k n)) (sym (ap not (eq-eqb g.row.SAFE 0 c.if-this-ne0.false))) shown, c.write_number_at.ensures k e);
}
