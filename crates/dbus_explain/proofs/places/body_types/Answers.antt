use Rattle.std.proofs.Common.{◌≡◌, ◌≤◌, ℕ, length, subst, inl, inr, refl, arith}
use Rattle.std.proofs.lemmas.Bool.{cases_lt}
use Rattle.dbus_texts.specs.Types.{sigs}
use Rattle.dbus_explain.specs.Places.{IsSignatureField, Pass, field_type}
use Rattle.dbus_explain.proofs.Entering.{signature_behind}
use Rattle.dbus_explain.proofs.OneField.{pass_no, pass_one}
use Rattle.dbus_explain.proofs.Searching.{body_typed, passed_more}
use Rattle.dbus_explain.proofs.WholeFields.{pass_moves}
use Rattle.dbus_explain.proofs.places.body_types.Goals as goal

pub loop-init : goal.loop-init
loop-init c = (c.requires, refl, λ m q w less p h. omega (arith, less))

pub loop-preserved : goal.loop-preserved
loop-preserved c =
    let search = c.args.search.now in
    let bytes = search.bytes.now in
    let before = c.loop.invariant in (
      c.in_ok-place.ensures.within,
      passed_more bytes search.at field_type c.loop.counter 16 c.loop.place _ before.1 (c.in_ok-place.ensures.some field_type refl (tt, (tt, tt))),
      λ m q w less p h. elim (cases_lt m c.loop.counter) [
        | inl below ↦ before.2 m q w below p h
        | inr most ↦ (
            let e : m ≡ c.loop.counter = omega (arith, less, most) in
            let there = subst (λ (k : ℕ). Pass bytes search.at field_type k 16 q) e p in
            let same = pass_one bytes search.at field_type (tt, (tt, tt)) c.loop.counter 16 q c.loop.place there before.1 in
            c.signature_field.ensures.none c.in_default.is w (subst (λ (k : ℕ). IsSignatureField bytes search.at k w) same h)
            )
      ],
    )

pub returns-in-Some-clause-some : goal.returns-in-Some-clause-some
returns-in-Some-clause-some c =
    let before = c.loop.invariant in
    body_typed c.args.search.now.bytes.now c.args.search.now.at c.loop.counter c.loop.place c.in-Some.types.now before.1 c.in-Some.ensures.some before.2

pub returns-in_err-place-clause-none : goal.returns-in_err-place-clause-none
returns-in_err-place-clause-none c = λ none ts is.
    let search = c.args.search.now in
    let bytes = search.bytes.now in
    let before = c.loop.invariant in
    let stops = c.in_err-place.ensures.none refl field_type refl (tt, (tt, tt)) in
    elim (cases_lt is.n c.loop.counter) [
      | inl below ↦ before.2 is.n is.p (sigs ts) below is.before is.signature
      | inr most ↦ elim (cases_lt c.loop.counter is.n) [
        | inl behind ↦ pass_no bytes search.at field_type (tt, (tt, tt)) c.loop.counter is.n 16 c.loop.place is.p behind before.1 stops is.before
        | inr least ↦ (
            let e : is.n ≡ c.loop.counter = omega (arith, most, least) in
            let there = subst (λ (k : ℕ). Pass bytes search.at field_type k 16 is.p) e is.before in
            let same = pass_one bytes search.at field_type (tt, (tt, tt)) c.loop.counter 16 is.p c.loop.place there before.1 in
            c.signature_field.ensures.none c.in_default.is (sigs ts) (subst (λ (k : ℕ). IsSignatureField bytes search.at k (sigs ts)) same is.signature)
            )
      ]
    ]

pub returns-clause-none : goal.returns-clause-none
returns-clause-none c = λ none ts is.
    let search = c.args.search.now in
    let bytes = search.bytes.now in
    let before = c.loop.invariant in
    let all : c.loop.counter ≡ length bytes = omega (arith, c.loop-test.false, c.loop.auto.counter-end) in
    elim (cases_lt is.n c.loop.counter) [
      | inl below ↦ before.2 is.n is.p (sigs ts) below is.before is.signature
      | inr most ↦ (
          let moved = pass_moves bytes search.at field_type (tt, (tt, tt)) is.n 16 is.p is.before in
          let behind = signature_behind bytes search.at is.p (sigs ts) is.signature in
          let within : search.at ≤ length bytes = search.within in
          omega (arith, all, most, moved, behind.0, behind.1, within)
          )
    ]
