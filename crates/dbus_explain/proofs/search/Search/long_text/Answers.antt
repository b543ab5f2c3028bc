use Rattle.std.proofs.Common.{◌≡◌, ◌<◌, ℕ, ◌+◌, drop, take, ap, ◌∙◌, arith, refl}
use Rattle.dbus_texts.specs.Types.{STRING, TextType}
use Rattle.dbus_value_model.specs.Bytes.{gap_to}
use Rattle.dbus_value_model.specs.Reading.{number_of}
use Rattle.dbus_explain.proofs.search.Search.long_text.Goals as goal

pub returns-in_err-length-clause-none : goal.returns-in_err-length-clause-none
returns-in_err-length-clause-none c = λ none start stated is.
    let far : c.args.self.now.at < c.args.place + gap_to 4 c.args.place = c.in_err-length.ensures.none refl (TextType STRING) refl in
    absurd (omega (arith, is.0, is.1, far))

pub returns-in_err-start-clause-none : goal.returns-in_err-start-clause-none
returns-in_err-start-clause-none c = λ none start stated is.
    let gap : c.in_ok-length.length ≡ c.args.place + gap_to 4 c.args.place = c.in_ok-length.ensures.gap (TextType STRING) refl in
    let far : c.args.self.now.at < c.in_ok-length.length + 4 = c.in_err-start.ensures.none refl in
    absurd (omega (arith, is.0, is.1, far, gap))

pub returns-clause-some : goal.returns-clause-some
returns-clause-some c =
    let gap : c.in_ok-length.length ≡ c.args.place + gap_to 4 c.args.place = c.in_ok-length.ensures.gap (TextType STRING) refl in (
      c.in_ok-start.ensures.some.0 ∙ ap (λ (n : ℕ). n + 4) gap,
      c.in_ok-start.ensures.some.1,
      c.u32_at-stated.ensures.spelled ∙ (λ i. number_of (c.args.self.now.order_is i) (take 4 (drop (gap i) c.args.self.now.bytes.now))),
    )
