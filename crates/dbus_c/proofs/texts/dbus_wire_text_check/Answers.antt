use Rattle.std.proofs.Common.{Option, subst}
use Rattle.std.specs.Prelude.{IfSome}
use Rattle.dbus_texts.specs.declared.text_kind.TextKind.{TextKind}
use Rattle.dbus_c.specs.TextChecking.{TellsText}
use Rattle.dbus_c.proofs.texts.dbus_wire_text_check.Goals as goal

pub returns-in-Some-clause-tells : goal.returns-in-Some-clause-tells
returns-in-Some-clause-tells c = subst (λ (o : Option TextKind). IfSome o (λ k. TellsText k c.args.bytes.now c.check_text.result c.check_text.new.out)) c.in-Some.ensures c.check_text.ensures
