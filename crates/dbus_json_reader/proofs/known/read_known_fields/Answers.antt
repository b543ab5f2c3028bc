use Rattle.std.proofs.Common.{◌≡◌, ℕ, ◌+◌, suc, true, ◌∷◌, [], ◌++◌, length, take, drop, sym, ap, ◌∙◌, subst, refl, rules, arith}
use Rattle.std.proofs.lemmas.List.{take_all}
use Rattle.std.specs.List.{AllZip}
use Rattle.json.specs.Tree.{members_tokens}
use Rattle.json.specs.Value.{value_view, members_view}
use Rattle.dbus_value_model.specs.ValueViews.{value_tree}
use Rattle.dbus_message_model.specs.KnownFields.{want_of}
use Rattle.dbus_message_model.specs.Messages.{Want, is_particular, want}
use Rattle.dbus_message_model.specs.PartsViews.{field_tree, field_trees}
use Rattle.dbus_message_model.proofs.KnownValues.{WantOk, want_ok}
use Rattle.dbus_json.specs.declared.integers.Integers.TheVariants.{Exact}
use Rattle.dbus_json_reader.specs.JsonFaults.{counted}
use Rattle.dbus_json_reader.specs.JsonMessages.{is_among, plain_names}
use Rattle.dbus_json_reader.specs.JsonNames.{message_names}
use Rattle.dbus_json_reader.specs.JsonParts.{IsFieldValue}
use Rattle.dbus_json_reader.specs.JsonRules.{IsFieldFault, field_reason}
use Rattle.dbus_json_reader.proofs.KnownFields.{AreRead, begins, field_at, field_more, plain_more, values_push, values_none, trees_push}
use Rattle.dbus_json_reader.proofs.KnownNames.{no_field, not_plain, of_message, one_code, or_first}
use Rattle.dbus_json_reader.proofs.MemberNames.{named_here, parts_at}
use Rattle.dbus_json_reader.proofs.Shapes.{through}
use Rattle.dbus_json_reader.proofs.Shown.{one_blamed}
use Rattle.dbus_json_reader.proofs.TokenCounts.{counted_sum}
use Rattle.dbus_json_reader.proofs.known.read_known_fields.Goals as goal
use Rattle.dbus_json_reader.proofs.known.read_known_fields.Goals.{in-Some+in-Ok+in_ok-push, in_default}

pub loop-i-init : goal.loop-i-init
loop-i-init g c = (λ integers depth. begins integers depth _ (ap field_trees c.new-fields.ensures.items), values_none _ c.new-fields.ensures.items)

pub known_value-requires-clause-known : goal.known_value-requires-clause-known
known_value-requires-clause-known g c = ap is_particular c.want.ensures ∙ c.in-Some.ensures.some.0

pub known_value-requires-clause-names : goal.known_value-requires-clause-names
known_value-requires-clause-names g c = λ kind is. (subst WantOk (sym c.want.ensures ∙ is) (want_ok c.in-Some.code)).0

pub returns-in-Err-clause-refused : goal.returns-in-Err-clause-refused
returns-in-Err-clause-refused g c = λ b e integers depth fs h.
    let m = c.index-members-i.result in
    let some = c.in-Some.ensures.some in
    let f = field_at c.args.members.now c.loop-i.i m c.loop-i-test.true c.index-members-i.is integers depth (not_plain m.0.now c.in-Some.code some.0 some.1) fs h in
    let code = one_code f.0.code c.in-Some.code f.1.known some.0 (sym f.1.named ∙ some.1) in
    through c.after.result c.in-Err.why c.after.ensures.unspelled b e c.in-Err.ensures.refused integers depth f.0.value
    (subst (λ (w : Want). IsFieldValue integers depth w f.0.value (value_view m.1)) (ap want code ∙ sym c.want.ensures) f.1.held)

pub returns-in-Err-clause-shown : goal.returns-in-Err-clause-shown
returns-in-Err-clause-shown g c = λ b e.
    let l = c.args.members.now in
    let i = c.loop-i.i in
    let m = c.index-members-i.result in
    let n = length (members_tokens (members_view (take i l))) in
    let sum : n + 1 ≡ suc n = omega arith in
    let tokens = counted_sum _ _ _ n 1 c.saturating_add.ensures c.tokens_in_members.ensures refl ∙ ap counted sum in
    one_blamed (IsFieldFault (members_view l)) c.after.result b (field_reason (want_of c.want.result) (value_view m.1)) (suc n) e
    (λ u. c.after.ensures.shown _ (suc n) 0 tokens (c.in-Err.ensures.shown (c.after.ensures.unspelled u))) (record {
      front = members_view (take i l);
      name = m.0.now;
      value = value_view m.1;
      rest = members_view (drop (i + 1) l);
      parts = parts_at l i m c.loop-i-test.true c.index-members-i.is;
      kept = (field_trees c.loop-i.fields.items, c.loop-i.invariant.0 Exact 0);
      code = c.in-Some.code;
      known = c.in-Some.ensures.some.0;
      named = c.in-Some.ensures.some.1;
      broken = λ v h. through c.after.result c.in-Err.why c.after.ensures.unspelled b e c.in-Err.ensures.refused Exact 0 v (subst (λ (w : Want). IsFieldValue Exact 0 w v (value_view m.1)) (sym c.want.ensures) h);
      shown = ap (λ (w : Want). field_reason w (value_view m.1)) c.want.ensures;
      before = refl;
    })

pub loop-i-preserved : goal.loop-i-preserved
loop-i-preserved g c =
    let l = c.args.members.now in
    let m = c.index-members-i.result in
    let i = c.loop-i.i in
    elim c.match-field_named.branch [
      | in-Some+in-Ok+in_ok-push w ↦ (
          let some = w.in-Some.ensures.some in
          let plain = not_plain m.0.now w.in-Some.code some.0 some.1 in
          let pushed : c.match-field_named.fields.items ≡ c.loop-i.fields.items ++ record { code = w.in-Some.code; value = w.in-Ok.value } ∷ [] = search rules in (
            λ integers depth. field_more l i m c.loop-i-test.true c.index-members-i.is integers depth plain (field_trees c.loop-i.fields.items) _ _ (trees_push _ _ _ pushed) (c.loop-i.invariant.0 integers depth)
                (record { known = some.0; named = some.1; held = subst (λ (u : Want). IsFieldValue integers depth u (value_tree w.in-Ok.value) (value_view m.1)) w.want.ensures (w.in-Ok.ensures.ok integers depth) }),
            values_push _ _ _ pushed c.loop-i.invariant.1 w.in-Ok.ensures.packed,
          )
          )
      | in_default w ↦ (
          let among = named_here l i m c.loop-i-test.true c.index-members-i.is message_names c.requires in
          let plain : is_among plain_names m.0.now ≡ true = or_first _ _ (sym (of_message m.0.now) ∙ among) (no_field m.0.now (w.in_default.ensures.none refl)) in
          let same : c.match-field_named.fields.items ≡ c.loop-i.fields.items = search rules in (
            λ integers depth. subst (λ fs. AreRead integers depth (field_trees fs) (members_view (take (i + 1) l))) (sym same)
                (subst (AllZip _ (field_trees c.loop-i.fields.items)) (sym (plain_more l i m c.loop-i-test.true c.index-members-i.is plain)) (c.loop-i.invariant.0 integers depth)),
            search rules,
          )
          )
    ]

pub returns-clause-ok : goal.returns-clause-ok
returns-clause-ok g c = λ integers depth. subst (λ ms. AreRead integers depth (field_trees c.loop-i.fields.items) (members_view ms)) (take_all c.loop-i.i c.args.members.now c.loop-i-test.false) (c.loop-i.invariant.0 integers depth)
