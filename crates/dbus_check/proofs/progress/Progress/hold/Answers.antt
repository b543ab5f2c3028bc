use Rattle.std.proofs.Common.{refl, ◌+◌, [], ◌∷◌, subst, ◌∙◌}
use Rattle.dbus_texts.specs.Types.{NoTypes, MoreTypes}
use Rattle.dbus_value_model.specs.Bounds.{bounds_of}
use Rattle.dbus_value_model.specs.declared.limits.Bounds.{Bounds}
use Rattle.dbus_value_checker.specs.Denotations as values
use Rattle.dbus_value_checker.specs.Moves.{values_on}
use Rattle.dbus_value_checker.specs.Suspended.{onward}
use Rattle.dbus_value_model.specs.Reading.{fields, value}
use Rattle.dbus_check.proofs.Stages.{values_within}
use Rattle.dbus_check.specs.Heading.{fields_on}
use Rattle.dbus_check.proofs.PassedFields.{the_kept, keeps_plain}
use Rattle.dbus_value_checker.proofs.Suspension.{parts_more}
use Rattle.dbus_value_laws.proofs.KindLaws.{held_types}
use Rattle.dbus_check.proofs.progress.Progress.hold.Goals as goal

pub begin-requires-clause-types : goal.begin-requires-clause-types
begin-requires-clause-types c =
    let v = c.requires.valid in
    (MoreTypes v.1 NoTypes, held_types v.1 c.args.types.now v.2.1 v.2.2)

pub returns : goal.returns
returns c = λ to t w is single.
    let x = c.args.self.now in
    let held = held_types t c.args.types.now is single in
    let kept = the_kept (c.args.code ∷ w.kept.codes) w.kept.text w.kept.count in
    let last = fields_on x.limits x.order x.kind x.body w.turns x.end kept in
    let room = c.args.depth_left in
    record {
      kept = kept;
      turns = w.turns;
      keeps = keeps_plain x _ w.kept c.args.code w.keeps (c.note.ensures w.kept.codes w.keeps.sees) refl refl;
      flows = record {
        run = onward (fields (value (bounds_of x.limits) x.order room x.end) (MoreTypes t NoTypes));
        start = x.offset + c.args.n;
        given = [];
        bytes = tt;
        within = values_within (bounds_of x.limits) x.order room x.end (MoreTypes t NoTypes) (x.offset + c.args.n) held.1 w.low;
        value = λ next.
            subst (λ (b : Bounds). values.Denotes c.begin.new.self (values_on b x.order room x.end (MoreTypes t NoTypes) next (x.offset + c.args.n))) c.bounds.ensures
            (c.begin.ensures (MoreTypes t NoTypes) next held.0 held.1);
        same = λ u. parts_more (bounds_of x.limits) x.order room x.end t NoTypes last (x.offset + c.args.n) u ∙ w.same u;
      };
      turns_is = w.turns_is;
      near = w.near;
    }
