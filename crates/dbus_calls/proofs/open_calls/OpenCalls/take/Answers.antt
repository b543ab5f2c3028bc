use Rattle.std.proofs.Common.{◌≡◌, true, None, arith, subst}
use Rattle.std.specs.BTreeMap.{get_by_text}
use Rattle.std.specs.Str.{bytes_eq}
use Rattle.std.proofs.lemmas.Slice.Eq.{bytes_eq-Decides}
use Rattle.dbus_calls.proofs.Callers.{none_left}
use Rattle.std.proofs.lemmas.Map.Text.{text_keys}
use Rattle.dbus_calls.specs.Kept.{waiting}
use Rattle.dbus_calls.proofs.open_calls.OpenCalls.take.Goals as goal

pub returns-in-Some-clause-closed : goal.returns-in-Some-clause-closed
unfolding waiting
returns-in-Some-clause-closed g c = grind (arith, text_keys)

pub returns-in-Some-clause-left : goal.returns-in-Some-clause-left
unfolding waiting
returns-in-Some-clause-left g c = λ d s. grind (arith, text_keys)

pub returns-in-Some-clause-idle : goal.returns-in-Some-clause-idle
unfolding waiting
returns-in-Some-clause-idle g c = λ idle s.
    let none = c.is_empty.ensures idle s in
    grind (arith, text_keys)

pub returns-in-None-clause-closed : goal.returns-in-None-clause-closed
unfolding waiting
returns-in-None-clause-closed g c = grind (arith, text_keys)

pub returns-in-None-clause-left : goal.returns-in-None-clause-left
unfolding waiting
returns-in-None-clause-left g c = λ d s.
    let same : get_by_text c.get_mut.follows.lender-at-none d ≡ get_by_text c.args.self.now.callers d = grind (arith, text_keys) in
    let gone : get_by_text c.args.self.now.callers c.args.caller.now ≡ None = grind (arith, text_keys) in
    let none : bytes_eq c.args.caller.now d ≡ true → get_by_text c.args.self.now.callers d ≡ None =
    λ e. subst (λ name. get_by_text c.args.self.now.callers name ≡ None) ((bytes_eq-Decides c.args.caller.now d).0 e) gone in
    none_left (get_by_text c.args.self.now.callers d) (get_by_text c.get_mut.follows.lender-at-none d) (bytes_eq c.args.caller.now d) c.args.serial s same none
