use Rattle.std.proofs.Common.{◌≡◌, ℕ, List, ◌++◌, length, codes, nat_le, true, sym, subst, ◌∙◌}
use Rattle.dbus_show.proofs.FieldTexts.{then}
use Rattle.dbus_list.specs.Columns.{known_room, name_cells, short, with_known}
use Rattle.dbus_list.proofs.CutTexts.{taken}
use Rattle.dbus_list.proofs.connections.write_known.Goals as goal

-- the other name is shown if it fits
shown : (line : ℕ) (name known : List ℕ) → nat_le (length known) (known_room line name) ≡ true → with_known line name known ≡ name ++ (codes "(" ++ (known ++ codes ")"))
shown line name known is = taken (nat_le (length known) (known_room line name)) (name ++ (codes "(" ++ (known ++ codes ")"))) (short (name_cells line) name) is

pub returns-clause-written : goal.returns-clause-written
returns-clause-written g c =
    let gains = g.D.Draft.gains in
    let joins = g.met.D.Draft.joins in
    let line = c.args.line in
    let name = c.args.name.now in
    let known = c.args.known.now in
    let fits = sym (subst (λ n. c.fits.result ≡ nat_le (length (short n known)) n) c.known_room-room.ensures c.fits.ensures) ∙ c.if-not-fits.false in
    let written = subst (λ n. gains c.push_code.new.self (short n known) c.write_short-taken.new.draft) c.known_room-room.ensures c.write_short-taken.ensures.written in
    subst (λ (t : List ℕ). gains c.args.draft.now t c.push_code-2.new.self) (sym (shown line name (short (known_room line name) known) fits))
    (then gains joins c.push_str.ensures (then gains joins c.push_code.ensures (then gains joins written c.push_code-2.ensures)))
