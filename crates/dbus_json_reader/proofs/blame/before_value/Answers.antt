use Rattle.std.proofs.Common.{◌≡◌, ℕ, suc, ◌+◌, ◌-◌, ◌<◌, false, None, Some, length, take, drop, refl, sym, ap, ◌∙◌, subst, arith, rules}
use Rattle.json.specs.Find.{get}
use Rattle.json.specs.Strict.{keys}
use Rattle.json.specs.Tree.{members_tokens}
use Rattle.json.specs.Value.{value_view, members_view}
use Rattle.dbus_json_reader.specs.JsonFaults.{counted}
use Rattle.dbus_json_reader.specs.JsonMessages.{is_among}
use Rattle.dbus_json_reader.proofs.MemberNames.{among_later, members_at, names_of}
use Rattle.dbus_json_reader.proofs.Shapes.{object_seen}
use Rattle.dbus_json_reader.proofs.Told.{none_told, told_at}
use Rattle.dbus_json_reader.proofs.TokenCounts.{counted_sum}
use Rattle.dbus_json_reader.proofs.blame.before_value.Goals as goal

pub returns-then-eq : goal.returns-then-eq
returns-then-eq g c = λ value told.
    let l = c.as_slice-members.result.now in
    let i = c.loop-i.i - 1 in
    let m = c.index-members-i.result in
    let some : i < length l = omega (arith, c.loop-i.auto.i, c.loop-i-test.true) in
    let same : m.0.now ≡ c.args.name.now = search rules in
    let next : c.loop-i.i ≡ i + 1 = omega (arith, c.loop-i-test.true) in
    let none = subst (λ (n : ℕ). is_among (names_of (drop n l)) c.args.name.now ≡ false) next c.loop-i.invariant in
    let seen = object_seen c.args.json.now c.in-Object.members l c.in-Object.is c.as_slice-members.ensures.value in
    let before = length (members_tokens (members_view (take i l))) in
    let sum : before + 1 ≡ suc before = omega arith in (
      suc before,
      told_at c.args.name.now l i m some c.index-members-i.is same none (value_view c.args.json.now) seen value told,
      counted_sum _ _ _ before 1 c.saturating_add.ensures c.tokens_in_members.ensures refl ∙ ap counted sum,
    )

pub loop-i-preserved : goal.loop-i-preserved
loop-i-preserved g c =
    let l = c.as_slice-members.result.now in
    let i = c.loop-i.i - 1 in
    let m = c.index-members-i.result in
    let some : i < length l = omega (arith, c.loop-i.auto.i, c.loop-i-test.true) in
    let other : m.0.now ≡ c.args.name.now → ⊥ = search rules in
    let next : c.loop-i.i ≡ i + 1 = omega (arith, c.loop-i-test.true) in
    let none = subst (λ (n : ℕ). is_among (names_of (drop n l)) c.args.name.now ≡ false) next c.loop-i.invariant in
    ap (λ ms. is_among (keys ms) c.args.name.now) (members_at l i m some c.index-members-i.is) ∙ among_later c.args.name.now m.0.now (names_of (drop (i + 1) l)) (λ e. other (sym e)) ∙ none

pub returns : goal.returns
returns g c = λ value told.
    let l = c.as_slice-members.result.now in
    let zero : c.loop-i.i ≡ 0 = omega (arith, c.loop-i-test.false) in
    let none = subst (λ (n : ℕ). is_among (names_of (drop n l)) c.args.name.now ≡ false) zero c.loop-i.invariant in
    let seen = object_seen c.args.json.now c.in-Object.members l c.in-Object.is c.as_slice-members.ensures.value in
    absurd (let wrong : None ≡ Some value = sym (none_told c.args.name.now (members_view l) none) ∙ ap (get c.args.name.now) (sym seen) ∙ told in cc)
