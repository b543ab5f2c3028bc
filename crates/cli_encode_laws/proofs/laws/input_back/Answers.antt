use Rattle.cli_encode_laws.proofs.InputBack.{input_back}
use Rattle.cli_encode_laws.proofs.laws.input_back.Goals as goal

pub returns : goal.returns
returns g c = input_back _ _ _ _ _ _
