use Rattle.dbus_texts.specs.declared.text_kind.TextKind.TheVariants.{Signature}
use Rattle.dbus_texts.specs.Types.{sigs}
use Rattle.dbus_texts.proofs.KindFacts.{kind_is, is_kind_of, signature_text_is, text_signature, spelled_sigs}
use Rattle.dbus_types.proofs.laws.signatures_spell_types.Goals as goal

pub returns : goal.returns
returns c = (
  λ t h. signature_text_is t (is_kind_of Signature t h),
  λ ts h. (kind_is Signature (sigs ts) (text_signature ts h), spelled_sigs ts),
)
