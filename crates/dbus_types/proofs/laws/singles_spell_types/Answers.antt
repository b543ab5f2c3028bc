use Rattle.dbus_texts.specs.declared.text_kind.TextKind.TheVariants.{Single}
use Rattle.dbus_texts.specs.Types.{sig}
use Rattle.dbus_texts.proofs.KindFacts.{kind_is, is_kind_of, single_text, text_single}
use Rattle.dbus_types.proofs.laws.singles_spell_types.Goals as goal

pub returns : goal.returns
returns c = (
  λ t h. single_text t (is_kind_of Single t h),
  λ t h. let s = text_single t h in (kind_is Single (sig t) s.0, s.1),
)
