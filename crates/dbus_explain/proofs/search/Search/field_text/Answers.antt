use Rattle.std.proofs.Common.{◌≡◌, ◌<◌, ◌≤◌, ℕ, ◌+◌, refl, sym, subst, arith}
use Rattle.dbus_texts.specs.Types.{sig}
use Rattle.dbus_texts.specs.declared.text_kind.TextKind.TheVariants.{Single}
use Rattle.dbus_value_model.specs.Bytes.{gap_to}
use Rattle.dbus_explain.specs.Places.{IsInText, IsTyped, field_type}
use Rattle.dbus_explain.proofs.Searching.{inside_text, single_typed, some_map, typed_one}
use Rattle.dbus_explain.proofs.search.Search.field_text.Goals as goal

pub returns-in_err-code-clause-none : goal.returns-in_err-code-clause-none
returns-in_err-code-clause-none c = λ none start stated is.
    let self = c.args.self.now in
    let far : self.at < c.args.field + gap_to 8 c.args.field = c.in_err-code.ensures.none refl field_type refl in
    let inside = inside_text self.bytes.now self.at is.0 is.1 start stated is.3 in
    absurd (omega (arith, is.2.after, inside.0, inside.1, far))

pub returns-in_err-value-clause-none : goal.returns-in_err-value-clause-none
returns-in_err-value-clause-none c = λ none start stated is.
    let self = c.args.self.now in
    let code : c.in_ok-code.code ≡ c.args.field + gap_to 8 c.args.field = c.in_ok-code.ensures.gap field_type refl in
    let inside = inside_text self.bytes.now self.at is.0 is.1 start stated is.3 in
    let within : is.1 ≤ self.at = omega (arith, inside.0, inside.1) in
    c.in_err-value.ensures.none refl (sig is.0) is.1 within
    (subst (λ (n : ℕ). IsTyped self.bytes.now self.at Single (n + 1) (sig is.0) is.1) (sym code) is.2)

pub returns-clause-none : goal.returns-clause-none
returns-clause-none c = λ none start stated is.
    let self = c.args.self.now in
    let value = c.in_ok-value.value in
    let code : c.in_ok-code.code ≡ c.args.field + gap_to 8 c.args.field = c.in_ok-code.ensures.gap field_type refl in
    let here = subst (λ (n : ℕ). IsTyped self.bytes.now self.at Single (n + 1) value.types.now value.place) code c.in_ok-value.ensures.typed in
    let one = typed_one self.bytes.now self.at Single (c.args.field + gap_to 8 c.args.field + 1) (sig is.0) value.types.now is.1 value.place is.2 here in
    c.text.ensures.none none is.0 one.0 start stated (subst (λ (n : ℕ). IsInText self.bytes.now self.at is.0 n start stated) one.1 is.3)

pub returns-clause-some : goal.returns-clause-some
returns-clause-some c =
    let self = c.args.self.now in
    let value = c.in_ok-value.value in
    let code : c.in_ok-code.code ≡ c.args.field + gap_to 8 c.args.field = c.in_ok-code.ensures.gap field_type refl in
    let here = subst (λ (n : ℕ). IsTyped self.bytes.now self.at Single (n + 1) value.types.now value.place) code c.in_ok-value.ensures.typed in
    let single = single_typed self.bytes.now self.at (c.args.field + gap_to 8 c.args.field + 1) value.types.now value.place here in
    some_map c.text.result (λ r h. (single.0, value.place, single.3, h single.0 single.1)) c.text.ensures.some
