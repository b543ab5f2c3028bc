use Rattle.std.proofs.Common.{◌≡◌, inl, inr, rules, subst}
use Rattle.cli_report.specs.Devices.{reading, taken, writing}
use Rattle.cli_encode.specs.Runs.{CameAll, CameSome}
use Rattle.cli_encode.proofs.going.encode_lines.Goals as goal

pub returns-in-Ok : goal.returns-in-Ok
returns-in-Ok g c =
    let source : c.encode_source-ended.result.1.now ≡ c.reader-1.given.0 = search rules in
    let all = rw c.in-Ok.is at c.encode_source-ended.ensures.encodes in
    let e = writing g.E.Sink.held g.E.Sink.failures c.args.second.now c.encode_source-ended.new.second in
    let w = writing g.W.Sink.held g.W.Sink.failures c.args.first.now c.encode_source-ended.new.first in
    inl (record {
      refused = c.in-Ok.refused;
      all = subst (λ (s : g.row.R.Denot). CameAll (taken (reading g.R.Source.left g.R.Source.calls g.R.Source.failures g.R.Source.packets c.args.reader.now s)) w e c.args.encoding c.args.reads c.in-Ok.refused) source all;
      status_is = c.status_of.ensures;
    })

pub returns-in-Err : goal.returns-in-Err
returns-in-Err g c =
    let source : c.encode_source-ended.result.1.now ≡ c.reader-1.given.0 = search rules in
    let some = rw c.in-Err.is at c.encode_source-ended.ensures.encodes in
    let e = writing g.E.Sink.held g.E.Sink.failures c.args.second.now c.encode_source-ended.new.second in
    let w = writing g.W.Sink.held g.W.Sink.failures c.args.first.now c.encode_source-ended.new.first in
    inr (record {
      failed = c.tell_stop.ensures.failed;
      stop = c.in-Err.stop;
      told = c.encode_source-ended.new.second;
      some = subst (λ (s : g.row.R.Denot). CameSome (taken (reading g.R.Source.left g.R.Source.calls g.R.Source.failures g.R.Source.packets c.args.reader.now s)) w e c.args.encoding c.args.reads c.in-Err.stop) source some;
      tells = c.tell_stop.ensures.tells;
    })
