use Rattle.std.proofs.Common.{◌≡◌, ℕ, ◌-◌, ◌^◌, ◌<◌, List, refl, sym, ap, ◌∙◌, subst, arith}
use Rattle.json.specs.Find.{get}
use Rattle.json.specs.Json.{object}
use Rattle.json.specs.Value.{value_view, members_view}
use Rattle.std.specs.Prelude.{codes, map}
use Rattle.dbus_texts.specs.Kinds.{IsKind}
use Rattle.dbus_texts.specs.declared.text_kind.TextKind.TheVariants.{Signature}
use Rattle.dbus_value_model.specs.ValueViews.{value_trees_of}
use Rattle.dbus_message_model.specs.declared.parts.Parts.{Parts}
use Rattle.dbus_message_model.specs.Messages.{FieldTree, body_signature}
use Rattle.dbus_message_model.specs.PartsViews.{field_trees, parts_tree}
use Rattle.dbus_json.specs.JsonMessages.{known_fields}
use Rattle.dbus_json.specs.declared.integers.Integers.TheVariants.{Exact}
use Rattle.dbus_json_reader.specs.JsonFaults.{IsOneOf}
use Rattle.dbus_json_reader.specs.JsonNames.{IsNameFault, message_names}
use Rattle.dbus_json_reader.specs.JsonParts.{AreReadFields, IsReadBody}
use Rattle.dbus_json_reader.specs.JsonRules.{HasHead, HaveFields, IsFieldFault, IsHeadFault, IsMessageFault, no_object, misnamed, head, field}
use Rattle.dbus_json_reader.specs.declared.reasons.JsonReason.TheVariants.{Form}
use Rattle.dbus_json_reader.specs.declared.unread.Broken.{Broken}
use Rattle.dbus_json_reader.specs.declared.unread.Unread.TheVariants.{Unspelled}
use Rattle.dbus_json_reader.proofs.KnownFields.{all_known}
use Rattle.dbus_json_reader.proofs.Messages.{AreParts, head_of, named_of, known_of, fields_of, fit_of, body_of, signature_kind, made, never_refused}
use Rattle.dbus_json_reader.proofs.Placing.{field_of}
use Rattle.dbus_json_reader.proofs.Shapes.{object_seen, no_object as not_object, failed, through}
use Rattle.dbus_json_reader.proofs.Shown.{one_of, shown_by, shown_later, has_head}
use Rattle.dbus_json_reader.proofs.message.read_message.Goals as goal
use Rattle.dbus_json_reader.proofs.message.read_message.Goals.{After-strange_member, In-Ok, After-new_within, In_ok-known}

-- the object, and the parts of the message
seen : (g : _) (c : After-strange_member g) → value_view c.args.json.now ≡ object (members_view c.as_slice-members.result.now)
seen g c = object_seen c.args.json.now c.in-Object.members c.as_slice-members.result.now c.in-Object.is c.as_slice-members.ensures.value

abbrev parts_at : (g : _) (c : After-new_within g) → Parts g.row.A.Denot
parts_at g c = record { kind = c.in-Ok.head.kind; flags = c.in-Ok.head.flags; serial = c.in-Ok.head.serial; fields = c.in-Ok-with_others.fields; body = c.in_ok-body.body }

parts : (g : _) (c : After-new_within g) → AreParts c.args.integers c.args.limits c.args.number c.in-Ok.head.order (parts_tree (parts_at g c)) (value_view c.args.json.now)
parts g c =
    let ks = field_trees c.in_ok-known.known.items in
    let gs = field_trees c.in-Ok-with_others.fields.items in
    let told = get (codes "fields") (value_view c.args.json.now) in
    let kind : c.in-Ok.head.kind < 256 = omega arith in
    let flags : c.in-Ok.head.flags < 256 = omega arith in
    let serial : c.in-Ok.head.serial < 256 ^ 4 = omega arith in
    let depth : c.saturating_sub-depth.result ≡ c.args.limits.depth - 3 = omega arith in
    let body = subst (λ (fs : List FieldTree). IsReadBody c.args.integers c.args.limits.depth (body_signature fs) (get (codes "body") (value_view c.args.json.now)) (value_trees_of c.in_ok-body.body.items)) (ap field_trees c.deref.ensures.value) c.in_ok-body.ensures.ok in
    record {
      ms = members_view c.as_slice-members.result.now;
      is = object_seen c.args.json.now c.in-Object.members c.as_slice-members.result.now c.in-Object.is c.as_slice-members.ensures.value;
      distinct = (c.strange_member.ensures.none c.in_default-strange_member.is).distinct;
      head = c.in-Ok.ensures.ok;
      kind_fits = kind;
      flags_fit = flags;
      serial_fits = serial;
      ks = ks;
      known = c.in_ok-known.ensures.ok c.args.integers (c.args.limits.depth - 3);
      fields = subst (λ (n : ℕ). AreReadFields c.args.integers n ks told gs) depth c.in-Ok-with_others.ensures.ok;
      only = λ fs k. c.in-Ok-with_others.ensures.only fs (subst (λ (n : ℕ). AreReadFields c.args.integers n ks told fs) (sym depth) k);
      body = body;
    }

-- ---- no message is spelled

pub returns-in-Some-clause-refused : goal.returns-in-Some-clause-refused
returns-in-Some-clause-refused g c = λ b e order m h.
    c.in-Some.ensures.refused (named_of c.args.integers c.args.limits c.args.number order m _ h _ (seen g (goal.at.returns-in-Some-clause-refused g c).After-strange_member))

pub returns-in-Err-clause-refused : goal.returns-in-Err-clause-refused
returns-in-Err-clause-refused g c = λ b e order m h.
    let v = h.valid order in
    c.in-Err.ensures.refused order m.kind m.flags m.serial v.kind_fits v.flags v.serial_fits (head_of c.args.integers c.args.limits c.args.number order m _ h)

pub returns-in_err-known-clause-refused : goal.returns-in_err-known-clause-refused
returns-in_err-known-clause-refused g c = λ b e order m h.
    c.in_err-known.ensures.refused b (failed c.from_residual.result c.in_err-known.field-0.0 c.from_residual.ensures.1 b e) c.args.integers (c.args.limits.depth - 3) (map field_of (known_fields m.fields))
    (known_of c.args.integers c.args.limits c.args.number order m _ h _ (seen g (goal.at.returns-in_err-known-clause-refused g c).After-strange_member))

pub with_others-requires-clause-known : goal.with_others-requires-clause-known
with_others-requires-clause-known g c = all_known c.args.integers 0 _ _ (c.in_ok-known.ensures.ok c.args.integers 0)

pub returns-in-Err-with_others-clause-refused : goal.returns-in-Err-with_others-clause-refused
returns-in-Err-with_others-clause-refused g c = λ b e order m h.
    let there = seen g (goal.at.returns-in-Err-with_others-clause-refused g c).After-strange_member in
    let ks = field_trees c.in_ok-known.known.items in
    let depth : c.saturating_sub-depth.result ≡ c.args.limits.depth - 3 = omega arith in
    let read = fields_of c.args.integers c.args.limits c.args.number order m _ h _ there ks (c.in_ok-known.ensures.ok c.args.integers (c.args.limits.depth - 3)) in
    through c.after.result c.in-Err-with_others.why c.after.ensures.unspelled b e c.in-Err-with_others.ensures.refused m.fields
    (subst (λ (n : ℕ). AreReadFields c.args.integers n ks (get (codes "fields") (value_view c.args.json.now)) m.fields) (sym depth) read)

pub returns-in_err-body-clause-refused : goal.returns-in_err-body-clause-refused
returns-in_err-body-clause-refused g c = λ b e order m h.
    let there = seen g (goal.at.returns-in_err-body-clause-refused g c).After-strange_member in
    let ks = field_trees c.in_ok-known.known.items in
    let depth : c.saturating_sub-depth.result ≡ c.args.limits.depth - 3 = omega arith in
    let read = fields_of c.args.integers c.args.limits c.args.number order m _ h _ there ks (c.in_ok-known.ensures.ok c.args.integers (c.args.limits.depth - 3)) in
    let same : m.fields ≡ field_trees c.deref.result.now =
    c.in-Ok-with_others.ensures.only m.fields (subst (λ (n : ℕ). AreReadFields c.args.integers n ks (get (codes "fields") (value_view c.args.json.now)) m.fields) (sym depth) read) ∙ ap field_trees (sym c.deref.ensures.value) in
    c.in_err-body.ensures.refused b (failed c.from_residual-in_err-body.result c.in_err-body.field-0.0 c.from_residual-in_err-body.ensures.1 b e)
    (subst (λ (fs : List FieldTree). IsKind Signature (body_signature fs)) same (signature_kind _ m.fields (fit_of c.args.integers c.args.limits c.args.number order m _ h)))
    m.body (body_of c.args.integers c.args.limits c.args.number order m _ h (field_trees c.deref.result.now) same)

pub returns-in-Ok-new_within-clause-ok : goal.returns-in-Ok-new_within-clause-ok
returns-in-Ok-new_within-clause-ok g c =
    let there = (goal.at.returns-in-Ok-new_within-clause-ok g c).After-new_within in
    made c.args.integers c.args.limits c.args.number c.in-Ok.head.order (parts_at g there) _ (parts g there) c.in-Ok-new_within.message c.in-Ok-new_within.ensures.built

pub returns-in-Err-new_within-clause-refused : goal.returns-in-Err-new_within-clause-refused
returns-in-Err-new_within-clause-refused g c =
    let there = (goal.at.returns-in-Err-new_within-clause-refused g c).After-new_within in λ b e order m h.
    never_refused c.args.integers c.args.limits c.args.number c.in-Ok.head.order (parts_at g there) _ (parts g there) c.in-Err-new_within.refused c.in-Err-new_within.ensures.built c.in-Err-new_within.ensures.taken
    (c.in-Ok-with_others.ensures.packed, c.in_ok-body.ensures.packed) order m h

-- ---- which rule is broken

pub returns-in_default-clause-shown : goal.returns-in_default-clause-shown
returns-in_default-clause-shown g c = λ b e.
    let j = value_view c.args.json.now in
    shown_by (IsMessageFault j) c.here.result b e (Form, 0, c.here.ensures, no_object (λ ms is. not_object c.args.json.now c.in_default.not-Object ms (sym is)) refl refl)

pub returns-in-Some-clause-shown : goal.returns-in-Some-clause-shown
returns-in-Some-clause-shown g c = λ b e.
    let j = value_view c.args.json.now in
    let ms = members_view c.as_slice-members.result.now in
    let there = seen g (goal.at.returns-in-Some-clause-shown g c).After-strange_member in
    shown_by (IsMessageFault j) c.in-Some.why b e (one_of (IsNameFault message_names ms) (IsMessageFault j) c.in-Some.why (λ r n h. misnamed ms there h) c.in-Some.ensures.some)

pub returns-in-Err-clause-shown : goal.returns-in-Err-clause-shown
returns-in-Err-clause-shown g c = λ b e.
    let j = value_view c.args.json.now in
    let there = seen g (goal.at.returns-in-Err-clause-shown g c).After-strange_member in
    let named = c.strange_member.ensures.none c.in_default-strange_member.is in
    shown_by (IsMessageFault j) c.in-Err.why b e (one_of (IsHeadFault j) (IsMessageFault j) c.in-Err.why (λ r n h. head _ there named h) c.in-Err.ensures.shown)

headed : (g : _) (c : In-Ok g) → HasHead (value_view c.args.json.now)
headed g c = has_head c.args.number c.in-Ok.head.order c.in-Ok.head.kind c.in-Ok.head.flags c.in-Ok.head.serial _ (omega arith) (omega arith) (omega arith) c.in-Ok.ensures.ok

pub returns-in_err-known-clause-shown : goal.returns-in_err-known-clause-shown
returns-in_err-known-clause-shown g c = λ b e.
    let j = value_view c.args.json.now in
    let ms = members_view c.as_slice-members.result.now in
    let at = goal.at.returns-in_err-known-clause-shown g c in
    let named = c.strange_member.ensures.none c.in_default-strange_member.is in
    let err = failed c.from_residual.result c.in_err-known.field-0.0 c.from_residual.ensures.1 b e in
    one_of (IsFieldFault ms) (IsMessageFault j) (Unspelled b) (λ r n h. field ms (seen g at.After-strange_member) named (headed g at.In-Ok) h) (c.in_err-known.ensures.shown b err)

-- a rule that comes later
later : (g : _) (c : In_ok-known g) (h : HasHead (value_view c.args.json.now)) (b : Broken) → IsOneOf (IsMessageFault (value_view c.args.json.now)) (Unspelled b)
later g c h b =
    let there = object_seen c.args.json.now c.in-Object.members c.as_slice-members.result.now c.in-Object.is c.as_slice-members.ensures.value in
    let fields : HaveFields (members_view c.as_slice-members.result.now) = (field_trees c.in_ok-known.known.items, c.in_ok-known.ensures.ok Exact 0) in
    shown_later b there (c.strange_member.ensures.none c.in_default-strange_member.is) h fields

pub returns-in-Err-with_others-clause-shown : goal.returns-in-Err-with_others-clause-shown
returns-in-Err-with_others-clause-shown g c =
    let at = goal.at.returns-in-Err-with_others-clause-shown g c in
    λ b e. later g at.In_ok-known (headed g at.In-Ok) b

pub returns-in_err-body-clause-shown : goal.returns-in_err-body-clause-shown
returns-in_err-body-clause-shown g c =
    let at = goal.at.returns-in_err-body-clause-shown g c in
    λ b e. later g at.In_ok-known (headed g at.In-Ok) b

pub returns-in-Err-new_within-clause-shown : goal.returns-in-Err-new_within-clause-shown
returns-in-Err-new_within-clause-shown g c =
    let at = goal.at.returns-in-Err-new_within-clause-shown g c in
    λ b e. later g at.In_ok-known (headed g at.In-Ok) b
