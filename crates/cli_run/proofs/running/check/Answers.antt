use Rattle.std.proofs.Common.{◌≡◌, Ok, Err, rules, inl, inr, refl, sym, ap, ◌∙◌}
use Rattle.std.proofs.Math.Path.{transport}
use Rattle.std.proofs.lemmas.Bool.{or_parts}
use Rattle.cli_report.specs.Devices.{reading, writing}
use Rattle.cli_run.specs.ByName.{Tallies}
use Rattle.cli_run.specs.Refusals.{number_of}
use Rattle.cli_run.proofs.CheckSteps.{gave_up, line_not, line_written}
use Rattle.cli_run.proofs.running.check.Goals as goal

pub returns-in-Ok-write_count : goal.returns-in-Ok-write_count
returns-in-Ok-write_count g c =
    let source : c.count_through-counted.result.1.now ≡ c.reader-1.given.0 = search rules in
    let packet : number_of (g.R.Source.packet c.count_through-counted.result.1.now) ≡ c.number_of-packet.result = sym (c.number_of-packet.ensures ∙ ap number_of c.packet.ensures) in
    let tallies = rw c.in-Ok.is at c.count_through-counted.ensures.counts in
    line_written (reading g.R.Source.left g.R.Source.calls g.R.Source.failures g.R.Source.packets c.args.reader.now _) (writing g.W.Sink.held g.W.Sink.failures c.args.first.now c.write_count.new.first)
    (writing g.E.Sink.held g.E.Sink.failures c.args.second.now _) c.args.settings c.args.reads c.in-Ok.counted c.number_of-packet.result
    (transport (λ i. Tallies (reading g.R.Source.left g.R.Source.calls g.R.Source.failures g.R.Source.packets c.args.reader.now (source i)) c.args.settings c.args.reads (packet i) (Ok c.in-Ok.counted)) (tallies.0, λ faultless. elim (tallies.1 faultless) [ inl none ↦ inl (elim none [ inl unread ↦ inl unread | inr last ↦ inr (last.0, last.1.now, last.2, last.3, last.4) ]) | inr (came, wants, some) ↦ inr (came, wants, elim some [ inl unread ↦ inl unread | inr last ↦ inr (last.0, last.1.now, last.2, last.3, last.4) ]) ]))
    (or_parts _ _ (or_parts _ _ (or_parts _ _ c.requires.no_more).0).0).0 (or_parts _ _ (or_parts _ _ c.requires.no_more).0).1 c.status_of.result c.in-Ok-write_count.ensures refl c.status_of.ensures

pub returns-in-Err-write_count : goal.returns-in-Err-write_count
returns-in-Err-write_count g c =
    let source : c.count_through-counted.result.1.now ≡ c.reader-1.given.0 = search rules in
    let packet : number_of (g.R.Source.packet c.count_through-counted.result.1.now) ≡ c.number_of-packet.result = sym (c.number_of-packet.ensures ∙ ap number_of c.packet.ensures) in
    let tallies = rw c.in-Ok.is at c.count_through-counted.ensures.counts in
    line_not (reading g.R.Source.left g.R.Source.calls g.R.Source.failures g.R.Source.packets c.args.reader.now _) (writing g.W.Sink.held g.W.Sink.failures c.args.first.now c.write_count.new.first)
    (writing g.E.Sink.held g.E.Sink.failures c.args.second.now c.give_up.new.second) c.args.settings c.args.reads c.in-Ok.counted c.number_of-packet.result
    (transport (λ i. Tallies (reading g.R.Source.left g.R.Source.calls g.R.Source.failures g.R.Source.packets c.args.reader.now (source i)) c.args.settings c.args.reads (packet i) (Ok c.in-Ok.counted)) (tallies.0, λ faultless. elim (tallies.1 faultless) [ inl none ↦ inl (elim none [ inl unread ↦ inl unread | inr last ↦ inr (last.0, last.1.now, last.2, last.3, last.4) ]) | inr (came, wants, some) ↦ inr (came, wants, elim some [ inl unread ↦ inl unread | inr last ↦ inr (last.0, last.1.now, last.2, last.3, last.4) ]) ]))
    (or_parts _ _ (or_parts _ _ (or_parts _ _ c.requires.no_more).0).0).0 (or_parts _ _ (or_parts _ _ c.requires.no_more).0).1 c.in-Err-write_count.cause c.in-Err-write_count.ensures c.give_up.result c.give_up.ensures.failed c.give_up.ensures.told

pub returns-in-Err : goal.returns-in-Err
returns-in-Err g c =
    let source : c.count_through-counted.result.1.now ≡ c.reader-1.given.0 = search rules in
    let packet : number_of (g.R.Source.packet c.count_through-counted.result.1.now) ≡ c.number_of-packet.result = sym (c.number_of-packet.ensures ∙ ap number_of c.packet.ensures) in
    let tallies = rw c.in-Err.is at c.count_through-counted.ensures.counts in
    gave_up (reading g.R.Source.left g.R.Source.calls g.R.Source.failures g.R.Source.packets c.args.reader.now _) (writing g.W.Sink.held g.W.Sink.failures c.args.first.now c.args.first.now)
    (writing g.E.Sink.held g.E.Sink.failures c.args.second.now c.give_up-in-Err.new.second) c.args.settings c.args.reads c.in-Err.cause c.number_of-packet.result refl
    (transport (λ i. Tallies (reading g.R.Source.left g.R.Source.calls g.R.Source.failures g.R.Source.packets c.args.reader.now (source i)) c.args.settings c.args.reads (packet i) (Err c.in-Err.cause)) tallies)
    c.give_up-in-Err.result c.give_up-in-Err.ensures.failed c.give_up-in-Err.ensures.told
