use Rattle.std.proofs.Common.{◌≡◌, ℕ, List, arith, refl, subst}
use Rattle.dbus_show.proofs.FieldTexts.{then}
use Rattle.dbus_room.specs.Counting.{Counts}
use Rattle.dbus_room.specs.CountingLaws as laws
use Rattle.dbus_explain.specs.Rules.{rule_text}
use Rattle.dbus_explain.specs.declared.explanation.Explanation.{Explanation}
use Rattle.dbus_show.specs.ShownMessages.{line_feeds}
use Rattle.dbus_explain.proofs.PartPlaces.{Written, told, text_at}
use Rattle.dbus_explain.proofs.message.write_lines.Goals as goal

pub returns : goal.returns
returns g c =
    let refused = c.args.refused.now in
    let at = c.place_in-at.result in
    let name = c.write_place-text.ensures.0 in
    let stated = c.write_place-text.result.1 in
    let head = c.write_head-head.ensures.0 in
    let rule = rule_text refused.fault.reason in
    let gains = Counts g.D.Draft.gains in
    let joins = laws.joins g.D.Draft.gains g.met.D.Draft.joins in
    let ruled = subst (λ (s : List ℕ). gains c.push_str-2.new.self s c.push_str-3.new.self) c.rule_of.ensures.text c.push_str-3.ensures in
    let looked = subst (λ (s : List ℕ). gains c.push_str-3.new.self s c.push_str-4.new.self) c.look_in.ensures c.push_str-4.ensures in
    let front = then gains joins c.write_place-text.ensures.2 (then gains joins c.write_head-head.ensures.2 (then gains joins c.push_str.ensures (then gains joins c.write_window.ensures c.push_str-2.ensures))) in
    let through = then gains joins front ruled in
    let all = then gains joins c.write_place-text.ensures.2 (then gains joins c.write_head-head.ensures.2 (then gains joins c.push_str.ensures (then gains joins c.write_window.ensures (then gains joins c.push_str-2.ensures (then gains joins ruled (then gains joins looked c.push_str-5.ensures)))))) in
    let none = c.requires in
    let parts : Explanation = record {
      length = c.push_str-5.new.self.len;
      name = c.write_place-text.result.0;
      head = c.write_head-head.result;
      rule = record { start = c.push_str-2.new.self.len; end = c.push_str-3.new.self.len };
      text = stated;
    } in
    let facts : Written refused name stated head parts at = record {
      named = c.write_place-text.ensures.1;
      headed = c.write_head-head.ensures.1;
      one_line = subst (λ (s : List ℕ). line_feeds s ≡ 0) c.rule_of.ensures.text c.rule_of.ensures.one_line;
      all = omega (arith, all.long, none);
      name_start = omega (arith, c.write_place-text.ensures.3, none);
      name_end = omega (arith, c.write_place-text.ensures.4, none);
      n = c.write_place-text.new.lines.len;
      line = omega (arith, c.write_place-text.ensures.2.long, none);
      head_in = c.write_head-head.ensures.3;
      rule_start = omega (arith, front.long, none);
      rule_end = omega (arith, front.long, ruled.long, none);
      stated_is = refl;
    } in
    let told = told refused name stated head parts at c.place_in-at.ensures facts in
    (text_at refused name stated head parts at, told.0, told.1, all)
