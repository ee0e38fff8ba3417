use Rattle.printed_derivation.proofs.ReadBack.{read_back}
use Rattle.printed_derivation.proofs.laws.is_read_back.Goals as goal

pub returns : goal.returns
returns c = λ n S cs es names table d few short. read_back n S cs es names table d few short
