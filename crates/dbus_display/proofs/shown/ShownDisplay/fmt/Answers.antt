use Rattle.std.proofs.Common.{◌≡◌, ◌≤◌, length, sym, subst, rules}
use Rattle.std.specs.Fmt.{HasWritten}
use Rattle.dbus_show.specs.ShownValues.{joined, value_texts}
use Rattle.dbus_values.specs.States.{ValuesState, AreLeft}
use Rattle.dbus_display.proofs.shown.ShownDisplay.fmt.Goals as goal

pub lengths_of-requires : goal.lengths_of-requires
lengths_of-requires g c = record { few = subst (λ (s : ValuesState). length s.types ≤ 255) (sym c.place.ensures.place) c.place.ensures.some.0 }

pub write_shown_values-requires : goal.write_shown_values-requires
write_shown_values-requires g c =
    let some = c.place.ensures.some in
    record { stand = (some.1, some.2, subst (λ (s : ValuesState). AreLeft s some.1 some.2) (sym c.place.ensures.place) some.3); noted = c.lengths_of.ensures }

pub returns-else-draft : goal.returns-else-draft
returns-else-draft g c = record {
  shown = λ vs rest l plain ok.
      let w = c.write_shown_values.ensures.shown vs rest (subst (λ (s : ValuesState). AreLeft s vs rest) (sym c.place.ensures.place) l) in
      let same = w.same in
      let back : c.write_shown_values.new.draft.formatter.now ≡ c.f-1.given.0 = search rules in
      subst (λ f. HasWritten g.W.Write.write_str_gives c.args.f.now (joined (value_texts vs)) f) back (w.written c.if-draft.false plain);
}
