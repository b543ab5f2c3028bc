use Rattle.std.proofs.Common.{sym, ap, ◌∙◌}
use Rattle.std.specs.List.{flat_map}
use Rattle.dbus_c_build.specs.Drafts.{added, in_place, known_codes}
use Rattle.dbus_c_build.specs.Building.{with_fields}
use Rattle.dbus_c_build.proofs.Spelling.{fields_more, on_ok}
use Rattle.dbus_c_build.proofs.kept.append_fields.Goals as goal

pub returns-clause-appended : goal.returns-clause-appended
returns-clause-appended g c = λ fs kept.
    let order = c.args.parts.now.order in
    let parts = c.args.parts.now in
    on_ok c.append_added.result (λ put. put ∙ ap (with_fields order (flat_map (added parts fs) known_codes)) (c.in_ok-append_kept.ensures.appended fs kept)
    ∙ sym (fields_more order (flat_map (in_place parts fs) fs) (flat_map (added parts fs) known_codes) c.args.out.now.items)) (c.append_added.ensures.appended fs kept)
