use Rattle.std.proofs.Common.{ℕ, ◌+◌, take, drop, Result, Err, sym, ap, ◌∙◌, subst, arith}
use Rattle.std.proofs.lemmas.List.{drop-drop, length-drop}
use Rattle.dbus_value_model.specs.declared.stop.Stop.{Stop}
use Rattle.dbus_value_model.specs.declared.stop.Stop.TheVariants as stops
use Rattle.dbus_value_checker.specs.Moves.{Moves}
use Rattle.dbus_value_checker.specs.declared.values.ValueChecker.{ValueChecker}
use Rattle.dbus_value_checker.specs.Denotations.{Answer, Denotes, after_piece}
use Rattle.dbus_value_checker.proofs.Calls.{after_ok, after_err}
use Rattle.dbus_value_checker.proofs.values.ValueChecker.run_after.Goals as goal

pub loop-self-preserved : goal.loop-self-preserved
loop-self-preserved c =
    let all = c.args.bytes.now in
    let start = c.args.start in
    let s = drop start all in
    let l = c.loop-self in
    let moves = c.in-Ok.ensures.moves in
    let told = λ (answer : Answer) (h : Denotes c.args.self.now answer). after_ok l.self c.advance.new.self s l.n answer (drop (start + l.n) all) (sym (drop-drop l.n start all)) l.invariant.there c.in-Ok.more (moves (after_piece answer (take l.n s)) (l.invariant.goes answer h)) in
    let there = (told c.requires.valid.0 c.requires.valid.1).0 in
    record {
      within = let size = length-drop start all in let before = c.requires.within in omega arith;
      there = there;
      some = (_, (moves l.invariant.some.0 l.invariant.some.1).1);
      goes = λ answer h. (told answer h).1;
    }

pub returns-in-Err-Refused-clause-runs : goal.returns-in-Err-Refused-clause-runs
returns-in-Err-Refused-clause-runs c = λ answer h.
    let all = c.args.bytes.now in
    let start = c.args.start in
    let s = drop start all in
    let l = c.loop-self in
    after_err l.self c.advance.new.self s l.n answer (drop (start + l.n) all) (sym (drop-drop l.n start all)) (stops.Refused c.in-Err-Refused.fault)
    (subst (λ (r : Result ℕ Stop). Moves l.self (drop (start + l.n) all) r c.advance.new.self (after_piece answer (take l.n s))) (c.in-Err-Refused.is ∙ ap (λ (e : Stop). Err e) c.in-Err-Refused.field-0-is) (c.advance.ensures.moves _ (l.invariant.goes answer h)))

pub returns-in-Err-Partial-clause-runs : goal.returns-in-Err-Partial-clause-runs
returns-in-Err-Partial-clause-runs c = λ answer h.
    let all = c.args.bytes.now in
    let start = c.args.start in
    let s = drop start all in
    let l = c.loop-self in
    let y = c.advance.new.self in
    let told = after_err l.self y s l.n answer (drop (start + l.n) all) (sym (drop-drop l.n start all)) stops.Partial
    (subst (λ (r : Result ℕ Stop). Moves l.self (drop (start + l.n) all) r y (after_piece answer (take l.n s))) (c.in-Err-Partial.is ∙ ap (λ (e : Stop). Err e) c.in-Err-Partial.field-0-is) (c.advance.ensures.moves _ (l.invariant.goes answer h))) in
    (l.invariant.there, subst (λ (v : ValueChecker). Denotes v (after_piece answer (take l.n s))) (sym told.0) (l.invariant.goes answer h), λ live. told.1)
