use Rattle.std.proofs.Common.{sym, subst}
use Rattle.dbus_texts.specs.Kinds.{IsBreak}
use Rattle.dbus_texts.specs.ComputedKinds.{break_at}
use Rattle.dbus_texts.proofs.KindFacts.{break_is, one_break}
use Rattle.dbus_texts.proofs.laws.breaks_are_computed.Goals as goal

pub returns : goal.returns
returns c = λ k t i. (λ h. one_break k t i (break_at k t) h (break_is k t), λ e. subst (λ j. IsBreak k t j) (sym e) (break_is k t))
