use Rattle.std.proofs.Common.{ℕ, List, Option, codes, subst, sym}
use Rattle.dbus_show.proofs.FieldTexts.{then}
use Rattle.dbus_value_text.specs.Forms.{led}
use Rattle.dbus_json.specs.Times.{seconds_text, time_members}
use Rattle.dbus_json.proofs.OneLines.{time_joined}
use Rattle.dbus_json.proofs.times.write_time.Goals as goal

pub returns-in-Some : goal.returns-in-Some
returns-in-Some g c =
    let n = c.in-Some.nanoseconds in
    let parts = then g.D.Draft.gains g.met.D.Draft.joins c.push_str.ensures (then g.D.Draft.gains g.met.D.Draft.joins c.write_seconds.ensures c.push_code.ensures) in
    let text = subst (λ (s : List ℕ). g.D.Draft.gains c.args.draft.now s c.push_code.new.self) (time_joined (seconds_text n)) parts in
    subst (λ (time : Option ℕ). g.D.Draft.gains c.args.draft.now (led (codes ",") (codes ",") (time_members time)) c.push_code.new.self) (sym c.in-Some.is) text
