use Rattle.dbus_auth_lines.proofs.Meanings.{auth_response}
use Rattle.dbus_auth_lines.proofs.places.find_auth.Goals as goal

pub returns-in-Some-only_word-clause-is : goal.returns-in-Some-only_word-clause-is
returns-in-Some-only_word-clause-is c = auth_response _ _ _ _ c.in-Some.ensures.is c.in-Some-only_word.ensures.is
