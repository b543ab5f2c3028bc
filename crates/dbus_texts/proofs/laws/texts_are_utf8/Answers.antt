use Rattle.dbus_texts.proofs.KindFacts.{text_utf8, utf8_text}
use Rattle.dbus_texts.proofs.laws.texts_are_utf8.Goals as goal

pub returns : goal.returns
returns c = λ t. (text_utf8 t, λ h. utf8_text t h.0 h.1)
