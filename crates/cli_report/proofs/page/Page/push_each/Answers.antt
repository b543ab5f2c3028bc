use Rattle.std.proofs.Common.{◌++◌}
use Rattle.cli_report.specs.PageLaws.{joins}
use Rattle.cli_report.proofs.page.Page.push_each.Goals as goal

pub returns : goal.returns
returns g c =
    let both = joins g.W.Sink.held g.W.Sink.failures c.push_str.new.self c.push_str-2.new.self c.push_str-3.new.self c.args.text.now c.args.after.now c.push_str-2.ensures c.push_str-3.ensures in
    joins g.W.Sink.held g.W.Sink.failures c.args.self.now c.push_str.new.self c.push_str-3.new.self c.args.before.now (c.args.text.now ++ c.args.after.now) c.push_str.ensures both
