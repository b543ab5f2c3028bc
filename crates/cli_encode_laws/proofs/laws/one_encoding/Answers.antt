use Rattle.cli_encode_laws.proofs.OneEncoding.{one_encoding}
use Rattle.cli_encode_laws.proofs.laws.one_encoding.Goals as goal

pub returns : goal.returns
returns g c = one_encoding _ _ _ _ _ _
