use Rattle.std.proofs.Common.{◌∷◌, ◌++◌, [], ℕ, List, codes, refl, subst}
use Rattle.dbus_show.proofs.FieldTexts.{then}
use Rattle.dbus_json.specs.JsonValues.{listed, member, string}
use Rattle.dbus_explain.specs.Members.{IsJsonHead}
use Rattle.dbus_explain.specs.Names.{IsNameOf, text_part}
use Rattle.dbus_explain.specs.Rules.{rule_text}
use Rattle.dbus_explain.proofs.MemberTexts.{members_joined}
use Rattle.dbus_explain.proofs.members.write_refusal_members.Goals as goal

pub returns : goal.returns
returns g c =
    let gains = g.D.Draft.gains in
    let joins = g.met.D.Draft.joins in
    let refused = c.args.refused.now in
    let bytes = refused.bytes.now in
    let name = c.write_place.ensures.0 in
    let text = c.write_place.ensures.1 in
    let told = name ++ text_part text in
    let rule = rule_text refused.fault.reason in
    let header = c.write_whole_header.ensures.0 in
    let named = subst (λ (n : ℕ). IsNameOf bytes refused.fault.reason n name text) c.place_in-at.ensures c.write_place.ensures.2 in
    let headed = subst (λ (n : ℕ). IsJsonHead bytes n header) c.place_in-at.ensures c.write_whole_header.ensures.1 in
    let ruled = subst (λ (s : List ℕ). gains c.push_str-2.new.self (string s) c.write_string.new.draft) c.rule_of.ensures.text c.write_string.ensures in
    let all = then gains joins c.push_str.ensures (then gains joins c.write_place.ensures.3 (then gains joins c.push_str-2.ensures (then gains joins ruled (then gains joins c.push_str-3.ensures c.write_whole_header.ensures.2)))) in (
      listed (member (codes "place") (string told) ∷ member (codes "rule") (string rule) ∷ member (codes "header") header ∷ []),
      record { name = name; text = text; header = header; named = named; headed = headed; is = refl },
      subst (λ (s : List ℕ). gains c.args.draft.now s c.write_whole_header.new.draft) (members_joined told rule header) all,
    )
