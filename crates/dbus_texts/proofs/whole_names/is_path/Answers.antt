use Rattle.std.proofs.Common.{◌-◌, length, take, drop, sym, subst, arith}
use Rattle.std.proofs.lemmas.Bool.{eqb-false}
use Rattle.std.proofs.lemmas.List.{take_rest}
use Rattle.dbus_texts.specs.Kinds.{IsPath}
use Rattle.dbus_texts.specs.NameScans.{AreLinked}
use Rattle.dbus_texts.specs.declared.names.Letters.TheVariants.{Word}
use Rattle.dbus_texts.proofs.WholeNames.{path_of}
use Rattle.dbus_texts.proofs.whole_names.is_path.Goals as goal

pub returns-then-text-ne47-2 : goal.returns-then-text-ne47-2
returns-then-text-ne47-2 c = λ h.
    let bytes = c.args.bytes.now in
    let w = take (length bytes - c.args.start) (drop c.args.start bytes) in
    let same = take_rest bytes c.args.start in
    let some = eqb-false (length w) 0 (sym c.if-is_empty.ensures) in
    subst IsPath same (path_of w (length w - 1) (omega (arith, some)) (omega arith) c.if-text-ne47-2.true (subst (AreLinked 47 Word) (sym same) (c.is_linked.ensures h)))
