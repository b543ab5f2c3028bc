use Rattle.std.proofs.Common.{ℕ, [], subst}
use Rattle.dbus_message_model.specs.Messages.{body_start}
use Rattle.dbus_flatten.specs.Flattening.{ArePartsFlat}
use Rattle.dbus_value_model.specs.declared.order.Order.{Order}
use Rattle.dbus_page.proofs.items.write_items.Goals as goal

pub fields_end-end-requires : goal.fields_end-end-requires
fields_end-end-requires c =
    let h = c.requires.validated in
    let there = c.source-source.ensures.fields h.message h.whole in
    record { stand = (c.args.whole.now.limits.depth, h.message.fields, there.0, there.1) }

pub flatten_parts-requires : goal.flatten_parts-requires
flatten_parts-requires c =
    let h = c.requires.validated in
    let there = c.source-source.ensures.fields h.message h.whole in
    record {
      fields = (h.message.fields, there.0, c.fields_end-end.ensures c.args.whole.now.limits.depth h.message.fields there.0 there.1);
      body = (h.message.body, [], c.body-body.ensures.stand c.source-source.result h.message c.source-source.ensures.own h.whole);
      noted = c.body-body.ensures.noted;
    }

pub returns : goal.returns
returns c = λ m whole.
    let w = c.args.whole.now in
    let own = c.source-source.ensures.own in
    let there = c.source-source.ensures.fields m whole in
    let fields = c.fields_end-end.ensures w.limits.depth m.fields there.0 there.1 in
    let body = c.body-body.ensures.stand c.source-source.result m own whole in
    let flat = c.flatten_parts.ensures.flat m.fields there.0 m.body [] fields body in
    let here = subst (λ (k : ℕ). ArePartsFlat c.source-source.result.order m.fields k m.body 0 c.args.items.now c.flatten_parts.new.out c.flatten_parts.result) (c.body-body.ensures.begins m whole) flat in
    subst (λ (o : Order). ArePartsFlat o m.fields (body_start w.validated.now.order m.fields) m.body 0 c.args.items.now c.flatten_parts.new.out c.flatten_parts.result) own.0 here
