use Rattle.std.proofs.Common.{map, sym, ap, ◌∙◌}
use lib.Lanes.{mask_l}
use Rattle.dbus_show.specs.PlainFronts.{is_stop}
use Rattle.dbus_show.proofs.PlainRuns.{each_mask, lead_mask}
use Rattle.dbus_show.proofs.runs.stops_in.Goals as goal

pub returns-in-Each : goal.returns-in-Each
returns-in-Each g c = each_mask c.args.block g.row.N c.requires.few c.requires.whole ∙ ap (λ b. mask_l (map (is_stop b) c.args.block)) (sym c.in-Each.is)

pub returns-in-Leads : goal.returns-in-Leads
returns-in-Leads g c = lead_mask c.args.block g.row.N c.requires.few c.requires.whole ∙ ap (λ b. mask_l (map (is_stop b) c.args.block)) (sym c.in-Leads.is)
