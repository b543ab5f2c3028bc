use Rattle.cli_encode_laws.proofs.Inverse.{inverse}
use Rattle.cli_encode_laws.proofs.laws.messages_back.Goals as goal

pub returns : goal.returns
returns c = inverse
