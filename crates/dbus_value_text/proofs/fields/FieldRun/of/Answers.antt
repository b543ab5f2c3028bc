use Rattle.dbus_value_text.proofs.fields.FieldRun.of.Goals as goal

pub fields_end-requires : goal.fields_end-requires
fields_end-requires c =
    let h = c.requires.validated in
    let there = c.source-source.ensures.fields h.message h.whole in
    record { stand = (c.args.whole.now.limits.depth, h.message.fields, there.0, there.1) }

pub returns : goal.returns
returns c =
    let h = c.requires.validated in
    let there = c.source-source.ensures.fields h.message h.whole in
    let depth = c.args.whole.now.limits.depth in
    record {
      stand = (h.message.fields, there.0, c.fields_end.ensures depth h.message.fields there.0 there.1);
      fields = λ m whole. let it = c.source-source.ensures.fields m whole in (it.0, c.fields_end.ensures depth m.fields it.0 it.1);
    }
