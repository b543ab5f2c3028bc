use Rattle.std.proofs.Common.{List, ℕ, codes, decimal, ap, ◌∙◌, subst}
use Rattle.dbus_json.specs.JsonValues.{string}
use Rattle.dbus_count.specs.Tables.{behind, name_of}
use Rattle.dbus_show.proofs.FieldTexts.{then}
use Rattle.dbus_count.proofs.RowLaws.{object_is}
use Rattle.dbus_count.proofs.table.write_object.Goals as goal

pub returns : goal.returns
returns g c =
    let word = c.args.word.now in
    let name = c.behind-2.ensures ∙ ap (behind (codes " ")) c.behind.ensures in
    let value = subst (λ (t : List ℕ). g.D.Draft.gains c.push_str-3.new.self (string t) c.write_string.new.draft) name c.write_string.ensures in
    subst (λ (t : List ℕ). g.D.Draft.gains c.args.draft.now t c.push_str-6.new.self) (object_is word (string (name_of word (c.args.name.now, c.args.count))) (decimal c.args.count.messages) (decimal c.args.count.bytes))
    (then g.D.Draft.gains g.met.D.Draft.joins c.push_str.ensures (then g.D.Draft.gains g.met.D.Draft.joins c.push_str-2.ensures (then g.D.Draft.gains g.met.D.Draft.joins c.push_str-3.ensures (then g.D.Draft.gains g.met.D.Draft.joins value
    (then g.D.Draft.gains g.met.D.Draft.joins c.push_str-4.ensures (then g.D.Draft.gains g.met.D.Draft.joins c.write_integer.ensures (then g.D.Draft.gains g.met.D.Draft.joins c.push_str-5.ensures (then g.D.Draft.gains g.met.D.Draft.joins c.write_integer-2.ensures c.push_str-6.ensures))))))))
