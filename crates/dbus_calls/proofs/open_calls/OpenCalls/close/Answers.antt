use Rattle.std.proofs.Common.{◌≡◌, true, None, if◌then◌else◌, arith, ap, ◌∙◌, subst}
use Rattle.std.specs.BTreeMap.{get_by_text}
use Rattle.std.specs.Str.{bytes_eq}
use Rattle.std.proofs.lemmas.Map.Text.{text_keys}
use Rattle.std.proofs.lemmas.Slice.Eq.{bytes_eq-Decides}
use Rattle.dbus_calls.specs.Kept.{call_in, waiting}
use Rattle.dbus_calls.proofs.Callers.{none_let_go}
use Rattle.dbus_calls.proofs.open_calls.OpenCalls.close.Goals as goal

pub returns-then-idle-clause-left : goal.returns-then-idle-clause-left
unfolding waiting
returns-then-idle-clause-left g c = λ d s.
    let name = c.args.caller.now in
    let callers = c.take-call.new.self.callers in
    let gone : get_by_text c.remove.new.self d ≡ (if bytes_eq name d then None else get_by_text callers d) = grind (arith, text_keys) in
    let none : bytes_eq name d ≡ true → call_in (get_by_text callers d) s ≡ None =
    λ same. subst (λ w. call_in (get_by_text callers w) s ≡ None) ((bytes_eq-Decides name d).0 same) (c.take-call.ensures.idle c.if-idle.true s) in
    ap (λ x. call_in x s) gone ∙ (none_let_go (bytes_eq name d) (get_by_text callers d) s none ∙ c.take-call.ensures.left d s)
