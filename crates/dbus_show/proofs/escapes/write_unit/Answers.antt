use Rattle.std.proofs.Common.{◌/◌, ◌%◌, ◌∷◌, [], ◌++◌, codes, sym, subst}
use Rattle.dbus_show.proofs.EscapedText.{encode_append}
use Rattle.dbus_show.proofs.FieldTexts.{then}
use Rattle.dbus_show.proofs.escapes.write_unit.Goals as goal

pub returns : goal.returns
returns g c =
    let digits = then g.D.Draft.gains g.met.D.Draft.joins c.write_byte.ensures c.write_byte-2.ensures in
    let all = then g.D.Draft.gains g.met.D.Draft.joins c.push_str.ensures digits in
    subst (λ s. g.D.Draft.gains c.args.draft.now (codes "\\u" ++ s) c.write_byte-2.new.draft) (sym (encode_append (c.args.unit / 256 ∷ []) (c.args.unit % 256 ∷ []))) all
