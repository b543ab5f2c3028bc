use Rattle.std.proofs.Common.{◌≡◌, ◌+◌, ◌<◌, ◌++◌, ◌∷◌, length, length-append, take-append-drop, suc, arith, ap, sym, ◌∙◌}
use Rattle.std.proofs.lemmas.Str.Pattern.{split_parts}
use Rattle.dbus_list.specs.Columns.{ends, first_short}
use Rattle.dbus_list.proofs.Ends.{end_of_last}
use Rattle.dbus_list.proofs.columns.end_within.Goals as goal

pub returns : goal.returns
returns c =
    let name = c.args.name.now in
    let most = c.args.most in
    let front = c.in_ok-last.field-0-0.now in
    let tail = c.in_ok-last.last.now in
    let before = c.in_ok-end.field-0-0.now in
    let end = c.in_ok-end.end.now in
    let parts = split_parts 46 tail c.split_once.result c.split_once.ensures.cases (omega arith) in
    let p = rw c.in_ok-end.was at parts in
    let whole : front ++ tail ≡ name = (λ i. c.in_ok-last.ensures.front i ++ c.in_ok-last.ensures.back i) ∙ take-append-drop c.saturating_sub.result name in
    let inner : length tail ≡ length before + suc (length end) = ap length p.0 ∙ length-append before (46 ∷ end) in
    let few : length end < most = omega (arith, inner, c.in_ok-last.ensures.back_len, c.saturating_sub.ensures) in
    sym (ap (λ t. first_short most name (ends t)) (sym whole)
    ∙ end_of_last most tail before end p.0 p.1 few front name (λ some. omega (arith, some, c.in_ok-last.ensures.front_len, c.in_ok-last.ensures.back_len, c.saturating_sub.ensures)))
