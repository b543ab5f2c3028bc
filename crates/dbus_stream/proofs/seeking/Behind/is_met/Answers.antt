use Rattle.std.proofs.Common.{◌≡◌, ℕ, List, Bool, ◌<◌, length, take, drop, sym, ap, ◌∙◌, subst}
use Rattle.std.proofs.lemmas.List.{take_min, take_rest}
use Rattle.dbus_resync.specs.Search.{Looks as LooksAt}
use Rattle.dbus_stream.specs.GoingOn.{IsMet}
use Rattle.dbus_stream.specs.StatedSizes.{StatesSize}
use Rattle.dbus_stream.proofs.MetSteps.{met_before, met_if, unstated_unmet}
use Rattle.dbus_stream.proofs.seeking.Behind.is_met.Goals as goal

pub returns-in_default-clause-none : goal.returns-in_default-clause-none
returns-in_default-clause-none c = λ _ _ met.
    let b = c.args.self.now in
    let w = c.args.bytes.now in
    let all : take c.min-wide.result w ≡ take b.window w = ap (λ (n : ℕ). take n w) c.min-wide.ensures ∙ take_min b.window w in
    unstated_unmet b.limits b.by_size (take b.window w) (subst (λ (l : List ℕ). (size : ℕ) → StatesSize b.limits l size → length l < size) all (c.end_stated.ensures.none c.in_default.is)) met

pub returns-then-end-size_there-clause-none : goal.returns-then-end-size_there-clause-none
returns-then-end-size_there-clause-none c = λ _ unmet met.
    let b = c.args.self.now in
    let w = c.args.bytes.now in
    let there = take c.min-wide.result w in
    let all : there ≡ take b.window w = ap (λ (n : ℕ). take n w) c.min-wide.ensures ∙ take_min b.window w in
    let is = met_if b.limits b.by_size (take b.window w) met in
    let states = subst (λ (l : List ℕ). StatesSize b.limits l c.in-Some.end) all c.in-Some.ensures.states in
    let looks = subst (λ (l : List ℕ). LooksAt b.limits (drop c.in-Some.end l) c.size_there.result) all (subst (λ (l : List ℕ). LooksAt b.limits l c.size_there.result) (take_rest there c.in-Some.end) c.size_there.ensures.looks) in
    unmet (subst (λ (s : Bool). IsMet s b.limits (take b.window (take c.args.before w))) (sym is.0) (met_before b.limits b.window c.args.before w c.in-Some.end c.size_there.result states looks c.if-end-size_there.true is.1))
