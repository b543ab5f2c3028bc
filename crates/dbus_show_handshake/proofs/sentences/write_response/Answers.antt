use Rattle.std.proofs.Common.{List, ℕ, ap, length, subst, sym}
use Rattle.std.proofs.lemmas.Bool.{eqb-false}
use Rattle.dbus_show.proofs.FieldTexts.{then}
use Rattle.dbus_show_handshake.proofs.Offers.{response_is}
use Rattle.dbus_show_handshake.proofs.sentences.write_response.Goals as goal

pub returns : goal.returns
returns g c =
    let some = eqb-false (length c.args.response.now) 0 (sym c.if-is_empty.ensures) in
    subst (λ (t : List ℕ). g.D.Draft.gains c.args.draft.now t c.write_shown.new.draft) (response_is c.args.response.now (λ e. some (ap length e)))
    (then g.D.Draft.gains g.met.D.Draft.joins c.push_str.ensures c.write_shown.ensures)
