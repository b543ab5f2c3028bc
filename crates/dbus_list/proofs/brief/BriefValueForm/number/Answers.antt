use Rattle.std.proofs.Common.{◌≡◌, ℕ, take, drop, refl, sym, subst, ◌∙◌}
use Rattle.dbus_texts.specs.Types.{NumberCode, BYTE, BOOLEAN, INT16, UINT16, INT32, UINT32, INT64, UINT64, DOUBLE, UNIX_FD, number_code}
use Rattle.dbus_types.specs.Alignments.{width}
use Rattle.dbus_value_model.specs.Reading.{number_of}
use Rattle.dbus_show.specs.ShownValues.{number_text}
use Rattle.dbus_value_text.proofs.Rows.{double_code}
use Rattle.dbus_list.specs.BriefValues.{IsBriefDouble, IsBriefNumber}
use Rattle.dbus_list.proofs.brief.BriefValueForm.number.Goals as goal

shown_number : (k : NumberCode) (n : ℕ) → (number_code k ≡ 100 → ⊥) → IsBriefNumber k n (number_text k n)
shown_number BYTE n h = refl
shown_number BOOLEAN n h = refl
shown_number INT16 n h = refl
shown_number UINT16 n h = refl
shown_number INT32 n h = refl
shown_number UINT32 n h = refl
shown_number INT64 n h = refl
shown_number UINT64 n h = refl
shown_number DOUBLE n h = absurd (h refl)
shown_number UNIX_FD n h = refl

pub u64_at-requires : goal.u64_at-requires
u64_at-requires g c = c.requires.inside DOUBLE (sym c.if-code-eq100.true)

pub returns-then-code-eq100 : goal.returns-then-code-eq100
returns-then-code-eq100 g c = record {
  written = λ k e.
      let is : k ≡ DOUBLE = double_code k (e ∙ c.if-code-eq100.true) in
      let w = c.write_double.ensures in
      let bits = subst (λ (n : ℕ). IsBriefDouble n w.0) c.u64_at.ensures.spelled w.1 in
      (w.0, subst (λ (j : NumberCode). IsBriefNumber j (number_of c.args.source.now.order (take (width j) (drop c.args.at c.args.source.now.bytes.now))) w.0) (sym is) bits, w.2);
}

pub returns-else-code-eq100 : goal.returns-else-code-eq100
returns-else-code-eq100 g c = record {
  written = λ k e.
      let n = number_of c.args.source.now.order (take (width k) (drop c.args.at c.args.source.now.bytes.now)) in
      (number_text k n, shown_number k n (λ is. c.if-code-eq100.false (sym e ∙ is)), c.write_number_at.ensures k e);
}
