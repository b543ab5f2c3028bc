use Rattle.std.proofs.Common.{ℕ, ap, ◌∙◌, length, refl, subst, sym}
use Rattle.dbus_texts.specs.Types.{TypeTrees}
use Rattle.dbus_explain.specs.Places.{IsAmong, PassEach}
use Rattle.dbus_explain.proofs.Firsts.{among_each, among_no, no_types}
use Rattle.dbus_explain.proofs.search.Search.among.Goals as goal

pub returns-clause-found : goal.returns-clause-found
returns-clause-found c = λ ts is shaped.
    let bytes = c.args.self.now.bytes.now in
    let at = c.args.self.now.at in
    let left = c.after_each-number.result.1 in
    let passed = c.after_each-number.ensures.passed ts is shaped in
    let split = c.in_ok-first.ensures.types passed.0 passed.1 passed.2 in
    let among = among_each bytes at c.after_each-number.result.0 ts c.args.values.place passed.0 split.1 split.0 left.place passed.3 split.2 passed.4 in
    (split.0, split.3, split.5, subst (λ (k : ℕ). IsAmong bytes at ts c.args.values.place c.after_each-number.result.0 split.0 k) (sym c.in_ok-first.ensures.place) among)

pub returns-in_err-first-clause-none : goal.returns-in_err-first-clause-none
returns-in_err-first-clause-none c = λ none ts is shaped n t q h.
    let bytes = c.args.self.now.bytes.now in
    let at = c.args.self.now.at in
    let passed = c.after_each-number.ensures.passed ts is shaped in
    let empty = c.in_err-first.ensures.none refl in
    let nothing = no_types passed.0 (ap (λ l. length l) passed.1 ∙ empty) in
    let each = subst (λ (us : TypeTrees). PassEach bytes at c.after_each-number.result.0 ts c.args.values.place us c.after_each-number.result.1.place) nothing passed.3 in
    among_no bytes at c.after_each-number.result.0 ts shaped c.args.values.place c.after_each-number.result.1.place each n t q h
