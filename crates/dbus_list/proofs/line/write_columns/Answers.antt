use Rattle.std.proofs.Common.{ℕ, List, decimal, length, option_map, ap, subst, ◌∙◌}
use Rattle.dbus_show.proofs.FieldTexts.{then}
use Rattle.dbus_list.specs.Columns.{column, right}
use Rattle.dbus_list.proofs.Shown.{bytes_are}
use Rattle.dbus_list.proofs.line.write_columns.Goals as goal

pub returns : goal.returns
returns g c = λ order m views.
    let gains = g.D.Draft.gains in
    let joins = g.met.D.Draft.joins in
    let bytes = ap length (c.bytes.ensures.bytes ∙ bytes_are c.args.view.now order m views) in
    let size = subst (λ (n : ℕ). gains c.write_time.new.draft (right 5 (decimal n)) c.write_right-2.new.draft) bytes c.write_right-2.ensures in
    let from = option_map (λ name. name.now) c.args.beside.sender in
    let to = option_map (λ name. name.now) c.args.beside.destination in
    let sender = subst (λ (t : List ℕ). gains c.push_code-2.new.self (column c.args.line t from) c.write_column.new.draft) (c.sender_of.ensures order m views) c.write_column.ensures in
    let destination = subst (λ (t : List ℕ). gains c.push_str.new.self (column c.args.line t to) c.write_column-2.new.draft) (c.destination_of.ensures order m views) c.write_column-2.ensures in
    then gains joins c.write_right.ensures (then gains joins c.push_code.ensures (then gains joins c.write_time.ensures (then gains joins size (then gains joins c.push_code-2.ensures
    (then gains joins sender (then gains joins c.push_str.ensures (then gains joins destination c.push_code-3.ensures)))))))
