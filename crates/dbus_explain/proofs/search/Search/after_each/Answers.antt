use Rattle.std.proofs.Common.{◌≡◌, ℕ, length, add-one, refl, sym, ap, ◌∙◌, subst, arith}
use Rattle.dbus_texts.specs.Types.{TypeTrees}
use Rattle.dbus_explain.specs.Places.{IsIn, IsInFirst, PassEach, Passes}
use Rattle.dbus_explain.proofs.Firsts.{each_more, no_types}
use Rattle.dbus_explain.proofs.search.Search.after_each.Goals as goal

pub loop-number-init : goal.loop-number-init
loop-number-init c = record {
  within = c.requires;
  fewer = omega arith;
  passed = λ ts is shaped. (ts, is, shaped, (refl, refl));
}

pub loop-number-preserved : goal.loop-number-preserved
loop-number-preserved c =
    let bytes = c.args.self.now.bytes.now in
    let at = c.args.self.now.at in
    let left = c.loop-number.left in
    record {
      within = c.in-Some-passed.ensures.within;
      fewer = let before = c.loop-number.invariant.fewer in let less = c.in-Some.ensures.fewer in omega (arith, before, less);
      passed = λ ts is shaped.
          let before = c.loop-number.invariant.passed ts is shaped in
          let split = c.in-Some.ensures.types before.0 before.1 before.2 in
          let passes = subst (λ (k : ℕ). Passes bytes at split.0 k c.in-Some-passed.place) c.in-Some.ensures.place (c.in-Some-passed.ensures.some split.0 split.3 split.5) in
          let more = each_more bytes at c.loop-number.number ts c.args.values.place before.0 split.1 split.0 left.place c.in-Some-passed.place before.3 split.2 passes in
          (split.1, split.4, split.6, subst (λ (n : ℕ). PassEach bytes at n ts c.args.values.place split.1 c.in-Some-passed.place) (sym (add-one c.loop-number.number)) more);
    }

pub returns-in-None-clause-passed : goal.returns-in-None-clause-passed
returns-in-None-clause-passed c = λ ts is shaped.
    let bytes = c.args.self.now.bytes.now in
    let at = c.args.self.now.at in
    let place = c.loop-number.left.place in
    let before = c.loop-number.invariant.passed ts is shaped in
    let split = c.in-Some.ensures.types before.0 before.1 before.2 in
    let in_first = subst (λ (k : ℕ). IsIn bytes at split.0 k) c.in-Some.ensures.place (c.in-None.ensures.none refl split.0 split.3 split.5) in
    (before.0, before.1, before.2, before.3, subst (λ (l : TypeTrees). IsInFirst bytes at l place) (sym split.2) in_first)

pub returns-in_default-clause-passed : goal.returns-in_default-clause-passed
returns-in_default-clause-passed c = λ ts is shaped.
    let before = c.loop-number.invariant.passed ts is shaped in
    let empty = c.split.ensures.none c.in_default.is in
    let none = no_types before.0 (ap (λ l. length l) before.1 ∙ empty) in
    (before.0, before.1, before.2, before.3, subst (λ (l : TypeTrees). IsInFirst c.args.self.now.bytes.now c.args.self.now.at l c.loop-number.left.place) (sym none) tt)

pub returns-clause-passed : goal.returns-clause-passed
returns-clause-passed c = λ ts is shaped.
    let before = c.loop-number.invariant.passed ts is shaped in
    let fewer = c.loop-number.invariant.fewer in
    let all : c.loop-number.number ≡ length c.args.values.types.now = omega (arith, c.loop-number-test.false, c.loop-number.auto.number-end) in
    let empty : length c.loop-number.left.types.now ≡ 0 = omega (arith, all, fewer) in
    let none = no_types before.0 (ap (λ l. length l) before.1 ∙ empty) in (
      before.0,
      before.1,
      before.2,
      subst (λ (n : ℕ). PassEach c.args.self.now.bytes.now c.args.self.now.at n ts c.args.values.place before.0 c.loop-number.left.place) all before.3,
      subst (λ (l : TypeTrees). IsInFirst c.args.self.now.bytes.now c.args.self.now.at l c.loop-number.left.place) (sym none) tt,
    )
