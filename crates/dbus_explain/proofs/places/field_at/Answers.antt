use Rattle.std.proofs.Common.{◌≡◌, ℕ, ◌+◌, ◌<◌, ◌≤◌, length, refl, ap, subst, arith, slice_index_or}
use Rattle.dbus_value_model.specs.Bytes.{gap_to}
use Rattle.dbus_explain.specs.Places.{field_type}
use Rattle.dbus_explain.proofs.OneField.{field_past, field_unread}
use Rattle.dbus_explain.proofs.places.field_at.Goals as goal

pub returns-clause-some : goal.returns-clause-some
returns-clause-some c =
    let bytes = c.args.search.now.bytes.now in
    let at = c.args.search.now.at in
    let p = c.after_values.result.1.place in
    let passed = c.after_values.ensures.passed field_type refl (tt, (tt, tt)) in
    let code : c.in_ok-place.place ≡ p + gap_to 8 p = c.in_ok-place.ensures.gap field_type refl in
    let there : c.in_ok-place.place < length bytes = omega arith in
    record {
      n = c.after_values.result.0;
      before = passed.0;
      is_in = passed.1;
      reached = subst (λ (n : ℕ). n ≤ at) code c.in_ok-place.ensures.within;
      read = subst (λ (n : ℕ). n < length bytes) code there;
      code_is = ap (λ (n : ℕ). slice_index_or bytes n 0) code;
    }

pub returns-in_err-place-clause-none : goal.returns-in_err-place-clause-none
returns-in_err-place-clause-none c = λ e.
    let passed = c.after_values.ensures.passed field_type refl (tt, (tt, tt)) in
    field_past c.args.search.now.bytes.now c.args.search.now.at c.after_values.result.0 c.after_values.result.1.place passed.0 passed.1 (c.aligned.ensures.none c.in_err-place.was field_type refl)

pub returns-then-place-search-clause-none : goal.returns-then-place-search-clause-none
returns-then-place-search-clause-none c = λ e.
    let bytes = c.args.search.now.bytes.now in
    let passed = c.after_values.ensures.passed field_type refl (tt, (tt, tt)) in
    field_unread bytes c.args.search.now.at c.after_values.result.0 c.after_values.result.1.place passed.0 passed.1
    (subst (λ (n : ℕ). length bytes ≤ n) (c.in_ok-place.ensures.gap field_type refl) c.if-place-search.true)
