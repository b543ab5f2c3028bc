use Rattle.std.proofs.Common.{ℕ, ◌≤◌, length, refl, sym, subst, arith, drop}
use Rattle.dbus_explain.specs.Before.{AreFirstOf}
use Rattle.dbus_explain.specs.Places.{AreBodyTypes}
use Rattle.dbus_explain.proofs.Firsts.{firsts, firsts_stand, firsts_text}
use Rattle.dbus_explain.proofs.before.whole_values.Goals as goal

pub returns-in_err-types-clause-none : goal.returns-in_err-types-clause-none
returns-in_err-types-clause-none c = λ none begun ts said.
    c.in_err-types.ensures.none refl ts (subst (λ (k : ℕ). AreBodyTypes c.args.search.now.bytes.now k ts) (sym c.end_of_fields.ensures.fields) said)

pub returns-clause-values : goal.returns-clause-values
returns-clause-values c =
    let search = c.args.search.now in
    let bytes = search.bytes.now in
    let at = search.at in
    let types = c.in_ok-types.ensures.some in
    let left = c.after_each.result.1 in
    let place = c.body_begin-place.result in
    let passed = c.after_each.ensures.passed types.0 types.1 types.2 in
    let f = firsts bytes at c.after_each.result.0 types.0 types.2 place passed.0 left.place passed.3 passed.4 in
    let text = firsts_text bytes at types.0 place passed.0 left.place f c.in_ok-types.types.now left.types.now _ types.1 passed.1 refl in
    let inside : place ≤ length bytes = let within : at ≤ length bytes = search.within in let reached : place ≤ at = omega arith in omega (arith, within, reached) in (
      f.values,
      drop left.place bytes,
      rw search.order_is (firsts_stand bytes at types.0 place passed.0 left.place _ f text inside),
      record {
        types = types.0;
        said = subst (λ (k : ℕ). AreBodyTypes bytes k types.0) c.end_of_fields.ensures.fields types.3;
        end = left.place;
        first = subst (λ (k : ℕ). AreFirstOf bytes at f.values types.0 k left.place) c.body_begin-place.ensures f.first;
      },
    )
