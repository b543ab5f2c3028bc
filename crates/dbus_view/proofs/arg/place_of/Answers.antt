use Rattle.std.proofs.Common.{subst}
use Rattle.dbus_texts.specs.Types.{STRING, OBJECT_PATH, SIGNATURE}
use Rattle.dbus_values.specs.Seen.{IsSeen}
use Rattle.dbus_values.specs.declared.view.ValueView.{ValueView}
use Rattle.dbus_view.proofs.Numbered.{text_before, text_told}
use Rattle.dbus_view.proofs.arg.place_of.Goals as goal

pub text_place-requires : goal.text_place-requires
text_place-requires c =
    let there = c.requires in
    text_before there.4 STRING c.in-Str.text.now (subst (λ (s : ValueView). IsSeen s there.3) c.in-Str.is there.4.seen)

pub returns-in-Str : goal.returns-in-Str
returns-in-Str c = λ order bytes from x h.
    text_told h STRING c.in-Str.text.now (subst (λ (s : ValueView). IsSeen s x) c.in-Str.is h.seen) c.text_place.result c.text_place.ensures

pub text_place-requires-in-Path : goal.text_place-requires-in-Path
text_place-requires-in-Path c =
    let there = c.requires in
    text_before there.4 OBJECT_PATH c.in-Path.text.now (subst (λ (s : ValueView). IsSeen s there.3) c.in-Path.is there.4.seen)

pub returns-in-Path : goal.returns-in-Path
returns-in-Path c = λ order bytes from x h.
    text_told h OBJECT_PATH c.in-Path.text.now (subst (λ (s : ValueView). IsSeen s x) c.in-Path.is h.seen) c.text_place-in-Path.result c.text_place-in-Path.ensures

pub text_place-requires-in-Sig : goal.text_place-requires-in-Sig
text_place-requires-in-Sig c =
    let there = c.requires in
    text_before there.4 SIGNATURE c.in-Sig.text.now (subst (λ (s : ValueView). IsSeen s there.3) c.in-Sig.is there.4.seen)

pub returns-in-Sig : goal.returns-in-Sig
returns-in-Sig c = λ order bytes from x h.
    text_told h SIGNATURE c.in-Sig.text.now (subst (λ (s : ValueView). IsSeen s x) c.in-Sig.is h.seen) c.text_place-in-Sig.result c.text_place-in-Sig.ensures
