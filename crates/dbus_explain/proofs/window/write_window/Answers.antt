use Rattle.std.proofs.Common.{List, ℕ, subst}
use Rattle.dbus_show.proofs.FieldTexts.{then}
use Rattle.dbus_explain.proofs.ThreeLines.{window_is}
use Rattle.dbus_explain.proofs.window.write_window.Goals as goal

pub returns : goal.returns
returns g c =
    let parts = window_is c.args.bytes.now c.split_at.result.0.now c.split_at.result.1.now c.args.at c.saturating_sub.result c.min.result c.split_at.ensures.front c.split_at.ensures.back c.saturating_sub.ensures c.min.ensures in
    subst (λ (s : List ℕ). g.D.Draft.gains c.args.draft.now s c.write_marked.new.draft) parts (then g.D.Draft.gains g.met.D.Draft.joins c.write_bytes.ensures c.write_marked.ensures)
