use Rattle.std.proofs.Common.{◌≡◌, ◌<◌, ◌≤◌, ℕ, ◌+◌, arith, length, refl, ap, sym, ◌∙◌, subst, slice_index_or}
use Rattle.dbus_value_model.specs.Bytes.{gap_to}
use Rattle.dbus_texts.specs.declared.text_kind.TextKind.TheVariants.{Signature}
use Rattle.dbus_explain.specs.Places.{IsTyped, field_type}
use Rattle.dbus_explain.proofs.Entering.{signature_behind}
use Rattle.dbus_explain.proofs.Searching.{typed_one}
use Rattle.dbus_explain.proofs.places.signature_field.Goals as goal
use Rattle.dbus_explain.proofs.places.signature_field.Goals.{then-code-search-via-then-code-search, then-code-search-via-else-code-search+then-search-code-ne-SIGNATURE}

pub returns-clause-some : goal.returns-clause-some
returns-clause-some c =
    let search = c.args.search.now in
    let place = c.args.place in
    let code : c.in_ok-code.code ≡ place + gap_to 8 place = c.in_ok-code.ensures.gap field_type refl in
    let is : slice_index_or search.bytes.now c.in_ok-code.code 0 ≡ 8 = cc in
    record {
      code_is = sym (ap (λ (n : ℕ). slice_index_or search.bytes.now n 0) code) ∙ is;
      variant = c.in_ok-variant.variant.types.now;
      q = c.in_ok-variant.variant.place;
      typed = subst (λ (n : ℕ). IsTyped search.bytes.now search.at Signature (n + 1) c.in_ok-variant.variant.types.now c.in_ok-variant.variant.place) code c.in_ok-variant.ensures.typed;
      r = c.in_ok-signature.signature.place;
      value = c.in_ok-signature.ensures.typed;
      within = c.in_ok-signature.ensures.within;
    }

pub returns-in_err-code-clause-none : goal.returns-in_err-code-clause-none
returns-in_err-code-clause-none c = λ none w h.
    let search = c.args.search.now in
    let behind = signature_behind search.bytes.now search.at c.args.place w h in
    let far : search.at < c.args.place + gap_to 8 c.args.place = c.in_err-code.ensures.none refl field_type refl in
    omega (arith, behind.0, behind.1, far)

pub returns-in_err-variant-clause-none : goal.returns-in_err-variant-clause-none
returns-in_err-variant-clause-none c = λ none w h.
    let search = c.args.search.now in
    let code : c.in_ok-code.code ≡ c.args.place + gap_to 8 c.args.place = c.in_ok-code.ensures.gap field_type refl in
    let behind = signature_behind search.bytes.now search.at c.args.place w h in
    c.in_err-variant.ensures.none refl h.variant h.q behind.1 (subst (λ (n : ℕ). IsTyped search.bytes.now search.at Signature (n + 1) h.variant h.q) (sym code) h.typed)

pub returns-in_err-signature-clause-none : goal.returns-in_err-signature-clause-none
returns-in_err-signature-clause-none c = λ none w h.
    let search = c.args.search.now in
    let variant = c.in_ok-variant.variant in
    let code : c.in_ok-code.code ≡ c.args.place + gap_to 8 c.args.place = c.in_ok-code.ensures.gap field_type refl in
    let here = subst (λ (n : ℕ). IsTyped search.bytes.now search.at Signature (n + 1) variant.types.now variant.place) code c.in_ok-variant.ensures.typed in
    let one = typed_one search.bytes.now search.at Signature (c.args.place + gap_to 8 c.args.place + 1) h.variant variant.types.now h.q variant.place h.typed here in
    c.in_err-signature.ensures.none refl w h.r h.within (subst (λ (n : ℕ). IsTyped search.bytes.now search.at Signature n w h.r) one.1 h.value)

pub returns-then-code-search-clause-none : goal.returns-then-code-search-clause-none
returns-then-code-search-clause-none c = λ none w h.
    let search = c.args.search.now in
    let code : c.in_ok-code.code ≡ c.args.place + gap_to 8 c.args.place = c.in_ok-code.ensures.gap field_type refl in
    let is : slice_index_or search.bytes.now c.in_ok-code.code 0 ≡ 8 = ap (λ (n : ℕ). slice_index_or search.bytes.now n 0) code ∙ h.code_is in
    let behind = signature_behind search.bytes.now search.at c.args.place w h in
    let within : search.at ≤ length search.bytes.now = search.within in
    elim c.then-code-search.branch [
      | then-code-search-via-then-code-search v ↦ (let past = v.if-code-search.true in omega (arith, past, code, behind.0, behind.1, within))
      | then-code-search-via-else-code-search+then-search-code-ne-SIGNATURE v ↦ v.if-search-code-ne-SIGNATURE.true is
    ]
