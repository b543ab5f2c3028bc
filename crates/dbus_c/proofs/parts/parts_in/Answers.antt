use Rattle.std.proofs.Common.{take, refl, sym, ◌∙◌}
use Rattle.dbus_c.proofs.Outcomes.{first_body_length, first_body}
use Rattle.dbus_c.proofs.parts.parts_in.Goals as goal

pub returns : goal.returns
returns c = λ limits b is.
    let validated = c.args.validated.now in
    let s = take validated.length b in
    let fs = is.message.fields in
    record {
      order = validated.order;
      message = is.message;
      whole = is.whole;
      order_is = c.order_byte.ensures;
      numbers = (c.from.ensures ∙ sym is.parts.0, c.from-2.ensures ∙ sym is.parts.1, sym is.parts.2);
      fields = record {
        path = (c.place_of.ensures.there s fs is.fields refl, c.place_of.ensures.own validated.order s fs is.fields is.places refl);
        interface = (c.place_of-2.ensures.there s fs is.fields refl, c.place_of-2.ensures.own validated.order s fs is.fields is.places refl);
        member = (c.place_of-3.ensures.there s fs is.fields refl, c.place_of-3.ensures.own validated.order s fs is.fields is.places refl);
        error_name = (c.place_of-4.ensures.there s fs is.fields refl, c.place_of-4.ensures.own validated.order s fs is.fields is.places refl);
        reply_serial = c.number_of.ensures s fs is.fields refl;
        destination = (c.place_of-5.ensures.there s fs is.fields refl, c.place_of-5.ensures.own validated.order s fs is.fields is.places refl);
        sender = (c.place_of-6.ensures.there s fs is.fields refl, c.place_of-6.ensures.own validated.order s fs is.fields is.places refl);
        signature = (c.place_of-7.ensures.there s fs is.fields refl, c.place_of-7.ensures.own validated.order s fs is.fields is.places refl);
        unix_fds = c.number_of-2.ensures s fs is.fields refl;
      };
      body = sym is.body.0;
      body_length = first_body_length limits b validated is;
      body_bytes = first_body limits b validated is;
    }
