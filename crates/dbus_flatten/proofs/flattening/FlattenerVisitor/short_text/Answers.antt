use Rattle.std.proofs.Common.{sym, ◌∙◌, arith, refl}
use Rattle.dbus_walk.proofs.Parts.{short_stands, short_counts}
use Rattle.dbus_flatten.proofs.FlatThere.{gained_as, text_flat}
use Rattle.dbus_flatten.proofs.flattening.FlattenerVisitor.short_text.Goals as goal
use Rattle.dbus_value_model.proofs.Periods.{no_gap}

pub overflow_add-spot : goal.overflow_add-spot
overflow_add-spot c = let is = short_counts c.requires.stands.2 (short_stands c.requires.stands.2 c.requires.code) in omega (arith, is.1)

pub returns-clause-takes : goal.returns-clause-takes
returns-clause-takes c = λ v rest s.
    let p = short_stands s c.requires.code in
    record { gained = gained_as (text_flat s 1 p (omega (arith, no_gap c.args.spot.now.at)) (c.requires.counts ∙ (short_counts s p).0) (c.from.ensures ∙ sym c.requires.code)) c.push.ensures; stays = refl }
