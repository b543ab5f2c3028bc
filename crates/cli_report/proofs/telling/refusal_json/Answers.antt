use Rattle.std.proofs.Common.{Result, Ok, Err, IfOk, string_bytes}
use Rattle.cli_report.proofs.telling.refusal_json.Goals as goal

if_ok : {A E : Type 0} {P Q : A → Type 0} (r : Result A E) → ((a : A) → P a → Q a) → IfOk r P → IfOk r Q
if_ok (Ok a) f h = f a h
if_ok (Err e) f h = h

pub returns : goal.returns
returns g c = if_ok c.format.result (λ text is. record { members = string_bytes c.in_ok-members.members; explains = c.in_ok-members.ensures; is = is }) c.format.ensures.ok
