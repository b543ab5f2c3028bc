use Rattle.std.proofs.Common.{◌-◌, length, take, drop, sym, ◌∙◌, subst, arith}
use Rattle.std.proofs.lemmas.Bool.{eqb-false}
use Rattle.std.proofs.lemmas.List.{take_rest}
use Rattle.dbus_texts.specs.Kinds.{IsMember}
use Rattle.dbus_texts.specs.NameScans.{AreLinked}
use Rattle.dbus_texts.specs.declared.names.Letters.TheVariants.{Word}
use Rattle.dbus_texts.proofs.WholeNames.{member_of}
use Rattle.dbus_texts.proofs.whole_names.is_member.Goals as goal

pub returns : goal.returns
returns c = λ h.
    let bytes = c.args.bytes.now in
    let w = take (length bytes - c.args.start) (drop c.args.start bytes) in
    let same = take_rest bytes c.args.start in
    let some = eqb-false (length w) 0 (sym c.if-is_empty.ensures) in
    subst IsMember same (member_of w (omega (arith, some)) (sym c.begins.ensures ∙ c.if-not-begins.false) (subst (AreLinked 95 Word) (sym same) (c.is_linked.ensures h)))
