use Rattle.std.proofs.Common.{List, ℕ, codes, option_map, sym, subst, ◌++◌}
use Rattle.std.proofs.lemmas.List.Concat.{flat_map-append}
use Rattle.dbus_show.proofs.FieldTexts.{then}
use Rattle.dbus_call_lines.specs.CallLines.{member_if}
use Rattle.dbus_call_lines.proofs.fronts.write_known.Goals as goal

pub returns : goal.returns
returns g c = subst (λ (t : List ℕ). g.D.Draft.gains c.args.draft.now t c.write_text-2.new.draft)
    (sym (flat_map-append (λ (m : List ℕ). codes "," ++ m) (member_if c.args.name.now (option_map (λ t. t.now) c.args.text)) (member_if c.args.known_name.now (option_map (λ t. t.now) c.args.known))))
    (then g.D.Draft.gains g.met.D.Draft.joins c.write_text.ensures c.write_text-2.ensures)
