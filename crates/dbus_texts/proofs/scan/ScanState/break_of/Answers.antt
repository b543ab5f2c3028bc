use Rattle.std.proofs.Common.{sym, subst}
use Rattle.dbus_texts.specs.Quotients.{IsBreakFrom}
use Rattle.dbus_texts.specs.Scans.{state_rest}
use Rattle.dbus_texts.proofs.scan.ScanState.break_of.Goals as goal

pub returns-in-InText : goal.returns-in-InText
returns-in-InText c = subst (λ s. IsBreakFrom (state_rest s) c.args.text.now c.break_of.result) (sym c.in-InText.is) c.break_of.ensures

pub returns-in-InName : goal.returns-in-InName
returns-in-InName c = subst (λ s. IsBreakFrom (state_rest s) c.args.text.now c.break_of-in-InName.result) (sym c.in-InName.is) c.break_of-in-InName.ensures

pub returns-in-InSignature : goal.returns-in-InSignature
returns-in-InSignature c = subst (λ s. IsBreakFrom (state_rest s) c.args.text.now c.break_of-in-InSignature.result) (sym c.in-InSignature.is) c.break_of-in-InSignature.ensures
