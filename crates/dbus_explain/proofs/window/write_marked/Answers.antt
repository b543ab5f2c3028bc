use Rattle.std.proofs.Common.{List, ℕ, subst}
use Rattle.dbus_show.proofs.FieldTexts.{then}
use Rattle.dbus_explain.proofs.ThreeLines.{marked_some}
use Rattle.dbus_explain.proofs.window.write_marked.Goals as goal

pub returns-in-len1-up : goal.returns-in-len1-up
returns-in-len1-up g c =
    let first = then g.D.Draft.gains g.met.D.Draft.joins c.push_str-in-len1-up.ensures (then g.D.Draft.gains g.met.D.Draft.joins c.write_hex.ensures (then g.D.Draft.gains g.met.D.Draft.joins c.push_code.ensures c.write_bytes.ensures)) in
    subst (λ (s : List ℕ). g.D.Draft.gains c.args.draft.now s c.write_bytes.new.draft) (marked_some c.args.bytes.now c.in-len1-up.len_at_least) first
