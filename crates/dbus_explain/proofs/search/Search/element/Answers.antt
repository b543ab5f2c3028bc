use Rattle.std.proofs.Common.{◌≡◌, ℕ, ◌+◌, ◌<◌, ◌≤◌, arith, refl, sym, ◌∙◌, subst}
use Rattle.dbus_texts.specs.Types.{ArrayType}
use Rattle.dbus_types.proofs.TypeCodes.{code_is}
use Rattle.dbus_types.specs.Alignments.{alignment_of}
use Rattle.dbus_value_model.specs.Bytes.{gap_to}
use Rattle.dbus_explain.specs.Places.{Pass}
use Rattle.dbus_explain.proofs.Entering.{in_array}
use Rattle.dbus_explain.proofs.Keys.{entered_by}
use Rattle.dbus_explain.proofs.Searching.{element_at}
use Rattle.dbus_explain.proofs.search.Search.element.Goals as goal

pub returns-clause-leads : goal.returns-clause-leads
returns-clause-leads c = λ t is shaped.
    let self = c.args.self.now in
    let place = c.args.place in
    let spot = c.after_values-index.result.1 in
    let passed = c.after_values-index.ensures.passed t is shaped in
    let first = element_at t place c.in_ok-length.length c.in_ok-skip.field-0 c.in_ok-first.first (c.in_ok-length.ensures.gap (ArrayType t) refl) c.in_ok-skip.ensures.some.0 (c.in_ok-first.ensures.gap t (code_is t c.args.types.now is)) in
    let there = is ∙ sym c.after_values-index.ensures.types in (
      t,
      there,
      shaped,
      entered_by self.bytes.now self.at t place spot.place c.after_values-index.result.0 c.step_to.result
          (subst (λ (p : ℕ). p ≤ self.at) first c.in_ok-first.ensures.within) (subst (λ (p : ℕ). Pass self.bytes.now self.at t c.after_values-index.result.0 p spot.place) first passed.0) passed.1 (c.step_to.ensures t there shaped),
    )

pub returns-in_err-length-clause-none : goal.returns-in_err-length-clause-none
returns-in_err-length-clause-none c = λ none t is shaped step u q h.
    let self = c.args.self.now in
    let begun = in_array self.bytes.now self.at t c.args.place step u q h in
    let far : self.at < c.args.place + gap_to 4 c.args.place = c.in_err-length.ensures.none refl (ArrayType t) refl in
    omega (arith, begun, far)

pub returns-in_err-skip-clause-none : goal.returns-in_err-skip-clause-none
returns-in_err-skip-clause-none c = λ none t is shaped step u q h.
    let self = c.args.self.now in
    let begun = in_array self.bytes.now self.at t c.args.place step u q h in
    let length : c.in_ok-length.length ≡ c.args.place + gap_to 4 c.args.place = c.in_ok-length.ensures.gap (ArrayType t) refl in
    let far = c.in_err-skip.ensures.none refl in
    omega (arith, begun, length, far)

pub returns-in_err-first-clause-none : goal.returns-in_err-first-clause-none
returns-in_err-first-clause-none c = λ none t is shaped step u q h.
    let self = c.args.self.now in
    let begun = in_array self.bytes.now self.at t c.args.place step u q h in
    let after = c.in_ok-skip.field-0 in
    let length = c.in_ok-length.ensures.gap (ArrayType t) refl in
    let first = element_at t c.args.place c.in_ok-length.length after (after + gap_to (alignment_of t) after) length c.in_ok-skip.ensures.some.0 refl in
    let far : self.at < after + gap_to (alignment_of t) after = c.in_err-first.ensures.none refl t (code_is t c.args.types.now is) in
    omega (arith, begun, first, far)
