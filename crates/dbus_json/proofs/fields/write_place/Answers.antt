use Rattle.std.proofs.Common.{ℕ, List, Bool, suc, sym, subst, arith}
use Rattle.std.proofs.lemmas.Bool.{lt-ltb, le-ltb}
use Rattle.dbus_show.proofs.FieldTexts.{then}
use Rattle.dbus_json.specs.JsonMessages.{end_text}
use Rattle.dbus_json.proofs.FieldTexts.{place_last}
use Rattle.dbus_json.proofs.fields.write_place.Goals as goal

pub returns-then-place-saturating_sub : goal.returns-then-place-saturating_sub
returns-then-place-saturating_sub g c =
    let before = lt-ltb (suc c.args.place) c.args.known_end (omega (arith, c.if-place-saturating_sub.true, c.saturating_sub.ensures)) in
    let gained = then g.D.Draft.gains g.met.D.Draft.joins c.push_str.ensures (then g.D.Draft.gains g.met.D.Draft.joins c.write_integer.ensures c.push_code.ensures) in
    subst (λ (b : Bool). g.D.Draft.gains c.args.draft.now (end_text b c.args.place) c.push_code.new.self) (sym before)
    (subst (λ (s : List ℕ). g.D.Draft.gains c.args.draft.now s c.push_code.new.self) (place_last c.args.place) gained)

pub returns : goal.returns
returns g c =
    let last = le-ltb (suc c.args.place) c.args.known_end (omega (arith, c.if-place-saturating_sub.false, c.saturating_sub.ensures)) in
    subst (λ (b : Bool). g.D.Draft.gains c.args.draft.now (end_text b c.args.place) c.push_code-2.new.self) (sym last) c.push_code-2.ensures
