use Rattle.dbus_texts.specs.declared.text_kind.TextKind.TheVariants.{Text}
use Rattle.dbus_texts.proofs.KindFacts.{kind_is, is_kind_of, name_is_text}
use Rattle.dbus_texts.proofs.laws.names_are_texts.Goals as goal

pub returns : goal.returns
returns c = λ k t n h. kind_is Text t (name_is_text k t n (is_kind_of k t h))
