use Rattle.std.proofs.Common.{List, ℕ, Option, option_map, Bor, sym, subst}
use Rattle.dbus_json.specs.JsonValues.{string}
use Rattle.dbus_show.proofs.FieldTexts.{then}
use Rattle.dbus_call_lines.specs.CallLines.{behind_commas, member_if}
use Rattle.dbus_call_lines.proofs.LineLaws.{one_member}
use Rattle.dbus_call_lines.proofs.fronts.write_text.Goals as goal

pub returns-in-Some : goal.returns-in-Some
returns-in-Some g c = subst (λ (o : Option (Bor (List ℕ))). g.D.Draft.gains c.args.draft.now (behind_commas (member_if c.args.name.now (option_map (λ t. t.now) o))) c.write_string.new.draft) (sym c.in-Some.is)
    (subst (λ (t : List ℕ). g.D.Draft.gains c.args.draft.now t c.write_string.new.draft) (one_member c.args.name.now (string c.in-Some.text.now))
    (then g.D.Draft.gains g.met.D.Draft.joins c.push_between.ensures c.write_string.ensures))
