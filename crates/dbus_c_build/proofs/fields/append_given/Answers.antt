use Rattle.std.proofs.Common.{sym, ap, ◌∙◌, List, ℕ, Option}
use Rattle.std.specs.Borrow.{Bor}
use Rattle.dbus_c_build.specs.Drafts.{field_of, number_of, text_value}
use Rattle.dbus_c_build.specs.Building.{with_fields}
use Rattle.dbus_c_build.proofs.Spelling.{one_field}
use Rattle.dbus_c_build.proofs.fields.append_given.Goals as goal

pub returns-in_ok-append_text-in-Some-clause-appended :
    goal.returns-in_ok-append_text-in-Some-clause-appended
returns-in_ok-append_text-in-Some-clause-appended g c =
    let p = c.args.parts.now in
    let code = c.args.code in
    let front = c.args.out.now.items in
    c.in_ok-append_text-in-Some.ensures ∙ sym (one_field p.order (text_value code c.in-Some.text.now) front)
    ∙ ap (λ (t : Option (Bor (List ℕ))). with_fields p.order (field_of code t (number_of code p)) front) c.in-Some.ensures
